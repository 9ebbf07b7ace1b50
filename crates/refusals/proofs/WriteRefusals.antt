-- Numbers 2 and 3 of a call that takes a path and draws stamps.
use mathlib.Core.Path.{◌≡◌, refl, sym, ap, ◌∙◌}
use Prim.Native.Nat.{ℕ, ◌≤◌, ◌<◌}
use mathlib.Core.List.{List}
use Rattle.std.specs.Prelude.{None, Some, Result, Ok, Err, IsErrAnd}
use mathlib.Core.Bool.{Bool, true, false, cond}
use borrow.Author.Tests.{lt-ltb, le-ltb}
use Rattle.types.specs.declared.coord.Path.{Path}
use Rattle.types.specs.declared.refusal.Refusal.{Refusal}
use Rattle.types.specs.declared.refusal.Refusal.TheVariants.{PathLength, StampsSpent}
use Rattle.types.specs.Values.{refusal_code}
use Rattle.rules.specs.Cases.{maybe}
use Rattle.rules.specs.Records.{State}
use Rattle.rules.specs.Sound.{sound}
use Rattle.rules.specs.Answers.{said as said_as}
use Rattle.rules.specs.Calls.{Answer, Call, path_given, draws_stamps, verified_write}
use Rattle.rules.specs.Refusals.{Asked, refusal, bad_path, seq_spent, last_seq}
use Rattle.rules.specs.Memory.{capacity, view}
use Rattle.rules.specs.Lent.{call}
use Rattle.rules.proofs.Refused.{refused_two, refused_three, write_allowed}
use Rattle.refusals.specs.Writes.{write_refusal}
use Rattle.refusals.proofs.RefusalsSaid.{said}

-- ---- the refusal, as the code finds it

module _ (p : Path) (s : State) {b : Bool} (e : b ≡ bad_path p) where
  pub bad_length : b ≡ true → Err PathLength ≡ write_refusal p s
  unfolding write_refusal
  bad_length h = rw (sym e ∙ h)

  module _ {q : ℕ} (h : b ≡ false) (v : q ≡ s.seq) where
    pub stamps_spent : last_seq < q → Err StampsSpent ≡ write_refusal p s
    unfolding write_refusal seq_spent
    stamps_spent w = rw (sym e ∙ h, ← v, lt-ltb last_seq q w)

    pub stamps_left : q ≤ last_seq → Ok tt ≡ write_refusal p s
    unfolding write_refusal seq_spent
    stamps_left w = rw (sym e ∙ h, ← v, le-ltb last_seq q w)

-- ---- a write that is refused, and one that goes on

-- what a write that goes on has
pub record Passed (p : Path) (s : State) : Type 0 where
  pub path : bad_path p ≡ false
  pub stamps : seq_spent s ≡ false

pub passed : (p : Path) (s : State) {a : Result (Unit {0}) Refusal} {u : Unit {0}} → a ≡ write_refusal p s → a ≡ Ok u → Passed p s
unfolding write_refusal
passed p s e z = go (bad_path p) refl (seq_spent s) refl (sym z ∙ e)
  where
    go : {u : Unit {0}} (a : Bool) → bad_path p ≡ a → (b : Bool) → seq_spent s ≡ b → Ok u ≡ cond a (Err PathLength) (cond b (Err StampsSpent) (Ok (tt {0}))) → Passed p s
    go true x b y h = absurd (cc)
    go false x true y h = absurd (cc)
    go false x false y h = record { path = x; stamps = y }

write_number : (R : ℕ) (s : State) (q : Call) (p : Path) {a : Result (Unit {0}) Refusal} {r : Refusal} → sound R s ≡ true → path_given q ≡ Some p → draws_stamps q ≡ true
    → a ≡ write_refusal p s → a ≡ Err r → refusal R s (Asked q) ≡ Some (refusal_code r)
unfolding write_refusal
write_number R s q p h g d e z = go (bad_path p) refl (seq_spent s) refl (sym z ∙ e)
  where
    given : (b : Bool) → bad_path p ≡ b → maybe (path_given q) false bad_path ≡ b
    given b x = rw g x

    go : {r : Refusal} (a : Bool) → bad_path p ≡ a → (b : Bool) → seq_spent s ≡ b → Err r ≡ cond a (Err PathLength) (cond b (Err StampsSpent) (Ok (tt {0}))) → refusal R s (Asked q) ≡ Some (refusal_code r)
    go {r} true x b y m = let n : r ≡ PathLength = cc in rw n (refused_two R s q h (given true x))
    go {r} false x true y m = let n : r ≡ StampsSpent = cc in rw n (refused_three R s q h (given false x) d y)
    go false x false y m = absurd (cc)

-- as `?` hands the refusal on
pub write_refused : {A : Type 0} (f : A → Answer) (l : List ℕ) (q : Call) (p : Path) {a : Result (Unit {0}) Refusal} {x : Refusal} (r : Result A Refusal)
    → sound (capacity l) (view l) ≡ true → path_given q ≡ Some p → draws_stamps q ≡ true → a ≡ write_refusal p (view l) → a ≡ Err x → IsErrAnd r (λ y. y ≡ x)
    → (said_as f r ≡ (call l q).answer) × (l ≡ (call l q).memory)
write_refused f l q p (Ok v) h g d e z w = absurd w
write_refused f l q p (Err y) h g d e z w = said l q (refusal_code y) (write_number (capacity l) (view l) q p h g d e (z ∙ ap (λ (v : Refusal). Err v) (sym w)))

-- a hint that goes on is not refused
pub hint_allowed : (l : List ℕ) (q : Call) (p : Path) → sound (capacity l) (view l) ≡ true → path_given q ≡ Some p → verified_write q ≡ None
    → Passed p (view l) → refusal (capacity l) (view l) (Asked q) ≡ None
hint_allowed l q p h g v w = write_allowed (capacity l) (view l) q h (rw g w.path) w.stamps (rw v)
