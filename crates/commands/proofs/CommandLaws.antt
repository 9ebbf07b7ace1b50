-- What one command leaves: refused by 6, refused by 1, or its call done; and 00 and 01, which are no calls.
use mathlib.Core.Path.{◌≡◌, refl, sym, ◌∙◌, ap, subst}
use Prim.Native.Nat.{ℕ}
use mathlib.Core.List.{List}
use Rattle.std.specs.Prelude.{Option, None, Some, Result, Ok, Err, is_ok}
use mathlib.Core.Bool.{Bool, true, false, ◌||◌}
use lib.Dec.{eqb}
use lib.ListN.{get_or, drop}
use mir.Syntax.{w8}
use mir.Val.{Val, Fits}
use denote.Laws.{Is}
use Rattle.types.specs.contracts.sender.Sender as Whole
use Rattle.types.specs.declared.sender.Sender.{Sender}
use Rattle.types.specs.declared.coord.CoordEntry.{CoordEntry}
use Rattle.types.specs.declared.refusal.Refusal.{Refusal}
use Rattle.types.specs.declared.refusal.Refusal.TheVariants.{UnsoundState, PathLength, StampsSpent, NoPlace, BadLimits, BadCommand}
use Rattle.types.specs.declared.reply.Reply.{Reply}
use Rattle.types.specs.Paths.{appended}
use Rattle.types.specs.Senders.{emptied}
use Rattle.types.specs.Values.{refuses}
use Rattle.rules.specs.Cases.{maybe}
use Rattle.rules.specs.Sound.{sound}
use Rattle.rules.specs.Calls.{Call}
use Rattle.rules.specs.Refusals.{Fresh, Asked, perform_request, gives}
use Rattle.rules.specs.Answers.{refusal_of, said, done as done_as}
use Rattle.rules.specs.Memory.{capacity, view}
use Rattle.rules.specs.Lent.{Bytes, Small, Typed, lent, call}
use Rattle.rules.specs.Commands.{Command, Decoded, WithPath, Plain, codes, decode, after_six, reply}
use Rattle.rules.proofs.Addresses.{contradiction}
use Rattle.rules.proofs.MemoryLaws.{all_bytes, bytes_drop}
use Rattle.rules.proofs.Public.{unsound_one}
use Rattle.rules.proofs.CommandRuns.{Reads, taken}
use Rattle.rules.proofs.LentSound.{call_same, fresh_sound}
use Rattle.memory.proofs.OwnedValues.{owned_path}
use Rattle.commands.specs.OnMemory.{Session, session, answered, pended, obey, refused_six, obey_byte}
use Rattle.commands.specs.Reading.{command_named, named, command_read}
use Rattle.commands.specs.declared.call.Command as Value
use Rattle.commands.specs.declared.call.Command.TheVariants.{Element}
use Rattle.commands.specs.declared.command.AfterCommand.{AfterCommand}
use Rattle.commands.specs.After.{Answers, Does, Made, refused_by, after_element}
use Rattle.commands.proofs.Operands.{decoded}
use Rattle.commands.proofs.TypedCommands.{Fitting, SenderFits, command_fits}

-- what a command is given: the memory l, whether it is sound, what the sender has, and the input i from `at` on
pub record Given (l : List ℕ) (f : Bool) (k : Sender) (i : List ℕ) (at : ℕ) : Type 0 where
  pub sounds : f ≡ sound (capacity l) (view l)
  pub memory : Bytes l
  pub input : Bytes i
  pub sender : SenderFits k

owned_sender : (k : Sender) (vs : List Val) → Is Whole.the_row k vs → SenderFits k
owned_sender k vs g = record { pending = owned_path k.pending _ g.1.1.0 }

-- by its contract, and by what owning its arguments tells
pub given_by : {l : List ℕ} {f : Bool} {k : Sender} {i : List ℕ} {at : ℕ} {vs : List Val} → f ≡ sound (capacity l) (view l)
    → ((j : ℕ) → Fits w8 (get_or l j 0)) → ((j : ℕ) → Fits w8 (get_or i j 0)) → Is Whole.the_row k vs → Given l f k i at
given_by {l = l} {k = k} {i = i} {vs = vs} e m n o =
    record { sounds = e; memory = all_bytes l (λ j. (m j).fits); input = all_bytes i (λ j. (n j).fits); sender = owned_sender k vs o }

-- ---- a command by value

pub none_read : (b : ℕ) (bs : List ℕ) → named None ≡ command_read b bs → decode b bs ≡ None
unfolding named command_read
none_read b bs = go (decode b bs)
  where
    go : (o : Option Decoded) → None ≡ maybe o None (λ d. Some d.command) → o ≡ None
    go None e = refl
    go (Some d) e = contradiction {b = true} refl (cc)

-- v was read, which is x
reads_named : (b : ℕ) (bs : List ℕ) (v x : Value.Command) → v ≡ x → named (Some v) ≡ command_read b bs → Reads codes b bs (command_named x)
unfolding named command_read
reads_named b bs v x h = go (decode b bs) refl
  where
    go : (o : Option Decoded) → decode b bs ≡ o → Some (command_named v) ≡ maybe o None (λ d. Some d.command) → Reads codes b bs (command_named x)
    go None f e = contradiction {b = true} refl (cc)
    go (Some d) f e = let z : d.command ≡ command_named x = cc in subst (Reads codes b bs) z (taken codes b bs d f).operands

-- ---- number 6

-- unknown, cut, or of a funding kind over 1
pub six : (l : List ℕ) (k : Sender) (b : ℕ) (bs : List ℕ) {f : Bool} {r : AfterCommand} → f ≡ sound (capacity l) (view l) → decode b bs ≡ None
    → r ≡ refused_by 6 f (after_six b k) → Answers (obey_byte (session l k) b bs) r l
unfolding obey_byte refused_six
six l k b bs e d h = rw (d, h) (record { says = refl; sends = refl; leaves = refl; sounds = e })

-- ---- a command that makes a call

-- the call q that a command makes with what the sender has, k before it and k' after it
pub data Makes (k : Sender) : Command → Call → Sender → Type 0 where
  made_with_path : {h : Sender → Call} → Makes k (WithPath h) (h k) (emptied k)
  plain : {q : Call} → Makes k (Plain (Asked q)) q k

makes_obeyed : {k : Sender} {x : Command} {q : Call} {k' : Sender} (l : List ℕ) → Makes k x q k' → obey (session l k) x ≡ answered (call l q) k'
unfolding obey
makes_obeyed l made_with_path = refl
makes_obeyed l plain = refl

makes_typed : {k : Sender} {x : Command} {q : Call} {k' : Sender} → Makes k x q k' → Fitting k x → Typed q
makes_typed made_with_path t = t
makes_typed plain t = t

obeyed_is : {b : ℕ} {bs : List ℕ} {x : Command} (s : Session) → Reads codes b bs x → obey_byte s b bs ≡ obey s x
unfolding obey_byte
obeyed_is s r = rw (decoded r)

-- refused by 1 where the state is not sound
pub made_unsound : (l : List ℕ) (q : Call) {f : Bool} {k k' : Sender} {r : AfterCommand} → f ≡ false → k' ≡ k → r ≡ refused_by 1 f k' → Made f l q k r l
made_unsound l q n e h = rw h (record { sends = e; sounds = refl; unsound = λ t. (refl, refl); sound = λ t. contradiction t n })

pub made_sound : {l : List ℕ} {q : Call} {f : Bool} {k k' : Sender} {r : Reply} {m : List ℕ} → f ≡ true → k' ≡ k → Does l q r m → Made f l q k (record { reply = r; sender = k'; sound = f }) m
made_sound n e d = record { sends = e; sounds = refl; unsound = λ t. contradiction n t; sound = λ t. d }

module _ (b : ℕ) {l : List ℕ} {f : Bool} {k : Sender} {i : List ℕ} {at : ℕ} (g : Given l f k i at) {v x : Value.Command} (o : v ≡ x) (e : named (Some v) ≡ command_read b (drop at i)) where
  -- REFUSED BY 1, OR DONE
  pub made : {q : Call} {k' : Sender} {r : AfterCommand} {m : List ℕ} → Makes k (command_named x) q k' → Made f l q k' r m → Answers (obey_byte (session l k) b (drop at i)) r m
  unfolding answered reply
  made {q = q} {k' = k'} {r = r} {m = m} c h =
      let y : Reads codes b (drop at i) (command_named x) = reads_named b (drop at i) v x o e in
      let t = makes_typed c (command_fits k y (bytes_drop at i g.input) g.sender) in
      rw (obeyed_is (session l k) y, makes_obeyed l c) (go t f refl h.unsound h.sound)
    where
      go : Typed q → (a : Bool) → f ≡ a → (a ≡ false → (r.reply ≡ refuses 1) × (m ≡ l)) → (a ≡ true → Does l q r.reply m) → Answers (answered (call l q) k') r m
      go t false n u d =
          let z = unsound_one l q (sym g.sounds ∙ n) in
          let p = u refl in
          rw (z.answer, z.memory, p.1) (record { says = p.0; sends = h.sends; leaves = refl; sounds = h.sounds ∙ g.sounds })
      go t true n u d =
          let p = d refl in
          record { says = p.says; sends = h.sends; leaves = p.leaves; sounds = h.sounds ∙ call_same l q g.memory t f g.sounds ∙ ap (λ (u : List ℕ). sound (capacity u) (view u)) (sym p.leaves) }

-- ---- 00

-- it is done where its number is 0
done_code : (a : Result (Unit {0}) Refusal) → is_ok a ≡ eqb (refusal_of (said done_as a)) 0
unfolding refusal_of
done_code (Ok u) = refl
done_code (Err UnsoundState) = refl
done_code (Err PathLength) = refl
done_code (Err StampsSpent) = refl
done_code (Err NoPlace) = refl
done_code (Err BadLimits) = refl
done_code (Err BadCommand) = refl

pub fresh_answers : (l : List ℕ) {f : Bool} {k : Sender} (max ttl : ℕ) (a : Result (Unit {0}) Refusal) {r : AfterCommand} {m : List ℕ} → f ≡ sound (capacity l) (view l) → Bytes l → Small 8 max → Small 8 ttl
    → said done_as a ≡ (lent l (Fresh max ttl)).answer → m ≡ (lent l (Fresh max ttl)).memory
    → r.reply ≡ reply (said done_as a) → r.sender ≡ k → r.sound ≡ f || is_ok a → Answers (obey (session l k) (Plain (Fresh max ttl))) r m
unfolding obey answered perform_request gives
fresh_answers l {f = f} max ttl d n y t u en ml er ep es =
    record {
      says = er ∙ ap reply en;
      sends = ep;
      leaves = ml;
      sounds = es ∙ ap (λ (b : Bool). f || b) (done_code d) ∙ fresh_sound l _ _ y t u f n (refusal_of (said done_as d)) (ap refusal_of en) ∙ ap (λ (v : List ℕ). sound (capacity v) (view v)) (sym ml);
    }

-- what a command was read as is obeyed
pub read_obeyed : (b : ℕ) (bs : List ℕ) (s : Session) {v x : Value.Command} {r : AfterCommand} {m : List ℕ} → v ≡ x → named (Some v) ≡ command_read b bs → Answers (obey s (command_named x)) r m → Answers (obey_byte s b bs) r m
read_obeyed b bs s {v = v} {x = x} n e h = rw (obeyed_is s (reads_named b bs v x n e)) h

-- ---- 01

pub element_answers : (b : ℕ) (bs l : List ℕ) {f : Bool} (k : Sender) {v : Value.Command} {e : CoordEntry} {r : AfterCommand} → f ≡ sound (capacity l) (view l) → v ≡ Element e → named (Some v) ≡ command_read b bs
    → r ≡ after_element (appended k.pending e) f k → Answers (obey_byte (session l k) b bs) r l
unfolding obey pended command_named
element_answers b bs l k n x e h = read_obeyed b bs (session l k) x e (rw h (record { says = refl; sends = refl; leaves = refl; sounds = n }))
