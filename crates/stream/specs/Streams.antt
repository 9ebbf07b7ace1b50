-- What a stream of commands asks for, what its lines show of that, and what was asked since the last done fresh.
use Rattle.std.specs.Prelude.{ℕ, zero, suc, List, [], ◌∷◌, ◌++◌, cond, ◌||◌, eqb, length}
use Rattle.types.specs.declared.sender.Sender.{Sender}
use Rattle.types.specs.Paths.{appended}
use Rattle.types.specs.Senders.{with_element, emptied}
use Rattle.types.specs.declared.reply.Reply.{Reply}
use Rattle.rules.specs.Cases.{maybe}
use Rattle.rules.specs.Calls.{Answer, was_refused}
use Rattle.rules.specs.Refusals.{Request, Fresh, Asked}
use Rattle.rules.specs.Lists.{Event, Served}
use Rattle.rules.specs.Demand.{ThirdDemand}
use Rattle.rules.specs.Memory.{view}
use Rattle.rules.specs.Lent.{LentServing, requests}
use Rattle.rules.specs.Commands.{Command, Element, WithPath, Plain, Line, decode, reply}
use Rattle.commands.specs.OnMemory.{Session}
use Rattle.stream.specs.Runs.{Run, run_all}

-- a whole stream's run
abbrev pub to_end : Session → List ℕ → Run
to_end h bs = run_all (length bs) h bs

-- ---- its requests

-- the request that a command makes, with what the sender has; a path element makes none
unfoldable pub asked : Sender → Command → List Request
asked k (Element e) = []
asked k (WithPath f) = Asked (f k) ∷ []
asked k (Plain x) = x ∷ []

-- what the sender has after it
unfoldable pub sender_after : Sender → Command → Sender
sender_after k (Element e) = with_element (appended k.pending e) k
sender_after k (WithPath f) = emptied k
sender_after k (Plain x) = k

-- by the bytes and what the sender has alone; none at a 6 and after it
unfoldable pub requests_from : ℕ → Sender → List ℕ → List Request
requests_from zero k bs = []
requests_from (suc n) k bs =
    elim bs [
      | [] ↦ []
      | b ∷ rest ↦ maybe (decode b rest) [] (λ d. asked k d.command ++ requests_from n (sender_after k d.command) d.left)
    ]

abbrev pub requests_of : Sender → List ℕ → List Request
requests_of k bs = requests_from (length bs) k bs

-- the stream's requests in a session: their answers, and the memory after them
abbrev pub serving : Session → List ℕ → LentServing
serving h bs = requests h.memory (requests_of h.sender bs)

-- ---- what its lines show

-- the replies to requests: a path element's line, and that of a 6, show none
unfoldable pub replies_shown : List Line → List Reply
replies_shown [] = []
replies_shown (l ∷ ls) = let later = replies_shown ls in cond (eqb l.reply.refusal 6 || eqb l.byte 0x01) later (l.reply ∷ later)

unfoldable pub replies_to : List Served → List Reply
replies_to [] = []
replies_to (v ∷ vs) = reply v.answer ∷ replies_to vs

-- ---- since the last done fresh

-- its ttl, and the calls since it with their answers
pub record Since : Type 0 where
  pub ttl : ℕ
  pub events : List Event

-- just after a fresh
abbrev pub begun : ℕ → Since
begun ttl = record { ttl = ttl; events = [] }

-- a done fresh begins anew, and a refused one changes nothing; a call is one more event, refused or not
unfoldable pub then : Since → Request → Answer → Since
then s (Fresh m ttl) a = cond (was_refused a) s (begun ttl)
then s (Asked q) a = record { ttl = s.ttl; events = s.events ++ (record { call = q; answer = a } ∷ []) }

unfoldable pub since : Since → List Served → Since
since s [] = s
since s (v ∷ vs) = since (then s v.request v.answer) vs

-- the third demand of them, on the memory l after them
abbrev pub DemandSince : Since → List ℕ → Type 0
DemandSince s l = ThirdDemand s.ttl s.events (view l).stored_weight (view l).rows
