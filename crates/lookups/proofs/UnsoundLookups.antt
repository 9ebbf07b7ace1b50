-- Number 1, as lookups say it, and 0.
use mathlib.Core.Path.{◌≡◌, refl, sym, subst}
use Prim.Native.Nat.{ℕ}
use mathlib.Core.List.{List, []}
use Rattle.std.specs.Prelude.{Result, Ok, Err}
use mathlib.Core.Bool.{false, cond}
use Rattle.types.specs.declared.node_addr.NodeAddr.{NodeAddr}
use Rattle.types.specs.declared.refusal.Refusal.{Refusal}
use Rattle.types.specs.declared.refusal.Refusal.TheVariants.{UnsoundState}
use Rattle.types.specs.Values.{refusal_code}
use Rattle.rules.specs.Sound.{sound}
use Rattle.rules.specs.Calls.{Call, Get, GetAndTouch}
use Rattle.rules.specs.Answers.{refusal_of}
use Rattle.rules.specs.Memory.{capacity, view}
use Rattle.rules.specs.Lent.{call, got_part}
use Rattle.rules.proofs.Refused.{refused_one}
use Rattle.rules.proofs.Public.{unsound_one}
use Rattle.refusals.proofs.RefusalsSaid.{checked, unsound, one_numbered}
use Rattle.lookups.proofs.FoundRows.{get_zero}
use Rattle.lookups.proofs.TouchedRows.{touch_zero}

pub one_got : (l : List ℕ) (k : NodeAddr) (time : ℕ) → sound (capacity l) (view l) ≡ false → [] ≡ got_part k time l
unfolding got_part
one_got l k time h = rw (refused_one (capacity l) (view l) (Get k time) h)

pub one_got_after : (l : List ℕ) (k : NodeAddr) (time : ℕ) → sound (capacity l) (view l) ≡ false → [] ≡ got_part k time (call l (GetAndTouch k time)).memory
one_got_after l k time h = subst (λ (m : List ℕ). [] ≡ got_part k time m) (sym (unsound_one l (GetAndTouch k time) h).memory) (one_got l k time h)

-- a is what check_sound answers
module _ (l : List ℕ) {a : Result (Unit {0}) Refusal} (e : a ≡ cond (sound (capacity l) (view l)) (Ok tt) (Err UnsoundState)) where
  pub no_part : (k : NodeAddr) (time : ℕ) {r : Refusal} → a ≡ Err r → [] ≡ got_part k time l
  no_part k time h = one_got l k time (unsound l e h).0

  pub no_part_after : (k : NodeAddr) (time : ℕ) {r : Refusal} → a ≡ Err r → [] ≡ got_part k time (call l (GetAndTouch k time)).memory
  no_part_after k time h = one_got_after l k time (unsound l e h).0

  pub number : (q : Call) (r : Refusal) → a ≡ Err r → refusal_of (call l q).answer ≡ refusal_code r
  number q r h = sym (one_numbered l e q h refl).0

  pub left : (q : Call) {r : Refusal} → a ≡ Err r → l ≡ (call l q).memory
  left q h = (one_numbered l e q h refl).1

  pub got_zero : (k : NodeAddr) (time : ℕ) {u : Unit {0}} → a ≡ Ok u → 0 ≡ refusal_of (call l (Get k time)).answer
  got_zero k time h = get_zero l k time (checked l e h)

  pub touched_zero : (k : NodeAddr) (time : ℕ) {u : Unit {0}} → a ≡ Ok u → 0 ≡ refusal_of (call l (GetAndTouch k time)).answer
  touched_zero k time h = touch_zero l k time (checked l e h)

pub ruleset told = (no_part, no_part_after, number, left, got_zero, touched_zero)
