-- A stream runs on memory as it runs on states.
use mathlib.Core.Path.{◌≡◌, refl, ◌∙◌, ap, subst}
use Prim.Native.Nat.{ℕ, zero, suc}
use mathlib.Core.List.{List, [], ◌∷◌}
use Rattle.std.specs.Prelude.{Option, None, Some}
use lib.ListN.{length}
use Rattle.types.specs.declared.sender.Sender.{Sender}
use Rattle.types.specs.Senders.{emptied}
use Rattle.types.specs.declared.reply.Reply.{Reply}
use Rattle.rules.specs.Cases.{maybe}
use Rattle.rules.specs.Records.{State}
use Rattle.rules.specs.Memory.{capacity, view}
use Rattle.rules.specs.Refusals.{Asked, Request, serve}
use Rattle.rules.specs.Lent.{Bytes, TypedRequest, lent}
use Rattle.rules.specs.Commands.{Command, Decoded, Element, Output, Plain, WithPath, after_six, codes, decode, line, obeyed, run_commands, takes_path, obey as obey_state, pended as pended_state, refused_six as six_state, Session as StateSession}
use Rattle.rules.proofs.RowLists.{by_cond}
use Rattle.rules.proofs.MemoryLaws.{bytes_drop}
use Rattle.rules.proofs.LentMemory.{capacity_same, lent_request}
use Rattle.commands.specs.OnMemory.{Session, answered, obey, pended, refused_six}
use Rattle.commands.proofs.TypedCommands.{Fitting, SenderFits, command_fits, element_fits, emptied_fits}
use Rattle.stream.specs.Runs.{Run, operands, run_all}
use Rattle.stream.proofs.OneCommand.{takes_operands}

-- a session as the rules have it: on the state that the memory shows
abbrev pub viewed : Session → StateSession
viewed h = record { state = view h.memory; sender = h.sender }

-- the memory, and what the sender has, are of their types
pub record SessionFits (h : Session) : Type 0 where
  pub bytes : Bytes h.memory
  pub sender : SenderFits h.sender

-- ---- one command

record SameAfter (h k : Session) (r q : Reply) (s : StateSession) : Type 0 where
  fits : SessionFits k
  size : length k.memory ≡ length h.memory
  reply : r ≡ q
  session : viewed k ≡ s

served_same : (h : Session) (x : Request) (k : Sender) → SessionFits h → TypedRequest x → SenderFits k
    → let t = answered (lent h.memory x) k in let u = obeyed (serve (capacity h.memory) (view h.memory) x) k in SameAfter h t.session t.reply u.reply u.session
unfolding answered obeyed lent
served_same h x k f g y =
    let o = lent_request h.memory x f.bytes g in
    record { fits = record { bytes = o.bytes; sender = y }; size = o.size; reply = refl; session = ap (λ (s : State). record { state = s; sender = k }) o.state }

obeyed_same : (h : Session) (c : Command) → SessionFits h → Fitting h.sender c
    → let t = obey h c in let u = obey_state (capacity h.memory) (viewed h) c in SameAfter h t.session t.reply u.reply u.session
unfolding obey obey_state pended pended_state
obeyed_same h (Element e) f g = record { fits = record { bytes = f.bytes; sender = element_fits h.sender e f.sender g }; size = refl; reply = refl; session = refl }
obeyed_same h (WithPath q) f g = served_same h (Asked (q h.sender)) (emptied h.sender) f g (emptied_fits f.sender)
obeyed_same h (Plain x) f g = served_same h x h.sender f g f.sender

-- a decoded command is of its types
pub decoded_fits : (b : ℕ) (bs : List ℕ) (d : Decoded) (k : Sender) → decode b bs ≡ Some d → Bytes bs → SenderFits k → Fitting k d.command
decoded_fits b bs d k e y f = command_fits k (takes_operands codes b bs d e).reads y f

pub left_bytes : (b : ℕ) (bs : List ℕ) (d : Decoded) → decode b bs ≡ Some d → Bytes bs → Bytes d.left
left_bytes b bs d e y = rw (takes_operands codes b bs d e).left (bytes_drop (operands b bs) bs y)

-- ---- a stream

-- the same lines and state, the same left to the sender, and as many bytes
pub record SameRun (h : Session) (r : Run) (o : Output) : Type 0 where
  pub lines : r.lines ≡ o.lines
  pub state : view r.session.memory ≡ o.session.state
  pub sender : r.session.sender ≡ o.session.sender
  pub size : length r.session.memory ≡ length h.memory
  pub fits : SessionFits r.session

-- A STREAM RUNS ON MEMORY AS IT RUNS ON STATES, from any memory of bytes
pub on_states : (n : ℕ) (h : Session) (bs : List ℕ) → SessionFits h → Bytes bs → SameRun h (run_all n h bs) (run_commands n (capacity h.memory) (viewed h) bs)
unfolding run_all run_commands
on_states zero h bs f y = record { lines = refl; state = refl; sender = refl; size = refl; fits = f }
on_states (suc n) h [] f y = record { lines = refl; state = refl; sender = refl; size = refl; fits = f }
on_states (suc n) h (b ∷ bs) f y = go (decode b bs) refl (λ k l g z. on_states n k l g z)
  where
    R : ℕ
    R = capacity h.memory

    after : (k : Session) (s : StateSession) (l : List ℕ) → capacity k.memory ≡ R → viewed k ≡ s → SameRun k (run_all n k l) (run_commands n (capacity k.memory) (viewed k) l) → SameRun k (run_all n k l) (run_commands n R s l)
    after k s l c e t = subst (λ (u : StateSession). SameRun k (run_all n k l) (run_commands n R u l)) e (subst (λ (m : ℕ). SameRun k (run_all n k l) (run_commands n m (viewed k) l)) c t)

    go : (o : Option Decoded) → decode b bs ≡ o → ((k : Session) (l : List ℕ) → SessionFits k → Bytes l → SameRun k (run_all n k l) (run_commands n (capacity k.memory) (viewed k) l))
        → SameRun h (maybe o (record { lines = line b (refused_six b h).reply ∷ []; session = (refused_six b h).session }) (λ d. let t = obey h d.command in let later = run_all n t.session d.left in record { lines = line b t.reply ∷ later.lines; session = later.session }))
        (maybe o (record { lines = line b (six_state b (viewed h)).reply ∷ []; session = (six_state b (viewed h)).session }) (λ d. let t = obey_state R (viewed h) d.command in let later = run_commands n R t.session d.left in record { lines = line b t.reply ∷ later.lines; session = later.session }))
    go None e ih = unfold refused_six six_state after_six in record { lines = refl; state = refl; sender = refl; size = refl; fits = record { bytes = f.bytes; sender = by_cond SenderFits (takes_path b) (λ x. emptied_fits f.sender) (λ x. f.sender) } }
    go (Some d) e ih =
        let t = obeyed_same h d.command f (decoded_fits b bs d h.sender e y.1 f.sender) in
        let k = (obey h d.command).session in
        let s = (obey_state R (viewed h) d.command).session in
        let c : capacity k.memory ≡ R = capacity_same h.memory k.memory t.size in
        let z = after k s d.left c t.session (ih k d.left t.fits (left_bytes b bs d e y.1)) in
        record { lines = cc (t.reply, z.lines); state = z.state; sender = z.sender; size = z.size ∙ t.size; fits = z.fits }
