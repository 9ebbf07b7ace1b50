-- One command on the lent memory: what Commands says of a state, said of its bytes (stream, OnStates.on_states).
use Rattle.std.specs.Prelude.{ℕ, List, Result}
use Rattle.types.specs.declared.sender.Sender.{Sender}
use Rattle.types.specs.declared.coord.Path.{Path}
use Rattle.types.specs.declared.refusal.Refusal.{Refusal}
use Rattle.types.specs.Paths.{appended}
use Rattle.types.specs.Senders.{with_element, emptied}
use Rattle.types.specs.declared.reply.Reply.{Reply}
use Rattle.types.specs.Values.{refuses}
use Rattle.rules.specs.Cases.{maybe}
use Rattle.rules.specs.Lent.{Lent, lent, call}
use Rattle.rules.specs.Commands.{Command, Element, WithPath, Plain, decode, after_six, element_reply, reply}

-- the memory, and what the sender has
pub record Session : Type 0 where
  pub memory : List ℕ
  pub sender : Sender

abbrev pub session : List ℕ → Sender → Session
session l k = record { memory = l; sender = k }

-- what a command says, and the session after it
pub record Obeyed : Type 0 where
  pub reply : Reply
  pub session : Session

unfoldable pub answered : Lent → Sender → Obeyed
answered t k = record { reply = reply t.answer; session = session t.memory k }

-- 01: pending; a 33rd element is refused by 2 and dropped
unfoldable pub pended : Session → Result Path Refusal → Obeyed
pended s a = record { reply = element_reply a; session = session s.memory (with_element a s.sender) }

-- codes 10 to 15 empty the pending path, refused or not; every other command keeps it
unfoldable pub obey : Session → Command → Obeyed
obey s (Element e) = pended s (appended s.sender.pending e)
obey s (WithPath f) = answered (call s.memory (f s.sender)) (emptied s.sender)
obey s (Plain x) = answered (lent s.memory x) s.sender

-- number 6 leaves the memory
unfoldable pub refused_six : ℕ → Session → Obeyed
refused_six b s = record { reply = refuses 6; session = session s.memory (after_six b s.sender) }

-- the command byte b with the bytes behind it
unfoldable pub obey_byte : Session → ℕ → List ℕ → Obeyed
obey_byte s b bs = maybe (decode b bs) (refused_six b s) (λ d. obey s d.command)
