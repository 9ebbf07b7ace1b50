-- A refusal, as each call says it.
use mathlib.Core.Path.{◌≡◌, refl, sym, ap, ◌∙◌}
use Prim.Native.Nat.{ℕ}
use mathlib.Core.List.{List}
use Rattle.std.specs.Prelude.{Some, Result, Ok, Err, IsErrAnd}
use mathlib.Core.Bool.{Bool, true, false, cond}
use Rattle.types.specs.declared.refusal.Refusal.{Refusal}
use Rattle.types.specs.declared.refusal.Refusal.TheVariants.{UnsoundState}
use Rattle.types.specs.Values.{refusal_code}
use Rattle.rules.specs.Sound.{sound}
use Rattle.rules.specs.Calls.{Answer, Call, Refused}
use Rattle.rules.specs.Refusals.{Asked, refusal}
use Rattle.rules.specs.Answers.{refusal_of, said as said_as}
use Rattle.rules.specs.Memory.{capacity, view}
use Rattle.rules.specs.Lent.{call}
use Rattle.rules.proofs.Refused.{refused_one}
use Rattle.rules.proofs.Public.{call_refused}

pub said : (l : List ℕ) (q : Call) (n : ℕ) → refusal (capacity l) (view l) (Asked q) ≡ Some n → (Refused n ≡ (call l q).answer) × (l ≡ (call l q).memory)
said l q n e = let u = call_refused l q n e in (sym u.answer, sym u.memory)

-- the test of every public call: a is what check_sound answers
module _ (l : List ℕ) {a : Result (Unit {0}) Refusal} (e : a ≡ cond (sound (capacity l) (view l)) (Ok tt) (Err UnsoundState)) where
  -- the call goes on
  pub checked : {u : Unit {0}} → a ≡ Ok u → sound (capacity l) (view l) ≡ true
  checked h = go (sound (capacity l) (view l)) (sym h ∙ e)
    where
      go : {u : Unit {0}} (b : Bool) → Ok u ≡ cond b (Ok (tt {0})) (Err UnsoundState) → b ≡ true
      go true x = refl
      go false x = absurd (cc)

  -- or is refused by number 1
  pub unsound : {r : Refusal} → a ≡ Err r → (sound (capacity l) (view l) ≡ false) × (r ≡ UnsoundState)
  unsound h = go (sound (capacity l) (view l)) (sym h ∙ e)
    where
      go : {r : Refusal} (b : Bool) → Err r ≡ cond b (Ok (tt {0})) (Err UnsoundState) → (b ≡ false) × (r ≡ UnsoundState)
      go true x = absurd (cc)
      go false x = (refl, cc)

  pub one_said : (q : Call) {r : Refusal} → a ≡ Err r → (Refused (refusal_code r) ≡ (call l q).answer) × (l ≡ (call l q).memory)
  one_said q {r} h = let u = unsound h in rw u.1 (said l q 1 (refused_one (capacity l) (view l) q u.0))

  -- as `?` hands the refusal on
  pub one_told : {A : Type 0} (f : A → Answer) (q : Call) {x : Refusal} (r : Result A Refusal) → a ≡ Err x → IsErrAnd r (λ y. y ≡ x) → (said_as f r ≡ (call l q).answer) × (l ≡ (call l q).memory)
  one_told f q (Ok v) h w = absurd w
  one_told f q (Err y) h w = rw w (one_said q h)

  -- as a call says it that lends a number beside the state
  pub one_numbered : (q : Call) {r : Refusal} {n : ℕ} → a ≡ Err r → n ≡ refusal_code r → (n ≡ refusal_of (call l q).answer) × (l ≡ (call l q).memory)
  unfolding refusal_of
  one_numbered q h e = let u = one_said q h in (e ∙ ap refusal_of u.0, u.1)

-- what `?` hands on is the refusal that it met
pub err_is : {A : Type 0} {r : Result A Refusal} {x : Refusal} → IsErrAnd r (λ y. y ≡ x) → r ≡ Err x
err_is {r = Ok v} w = absurd w
err_is {r = Err y} w = ap (λ z. Err z) w

-- `one_told`, an equation each, of the refusal that `check_sound` gives
module _ (l : List ℕ) (q : Call) {x : Refusal} where
  pub unsound_said : {A : Type 0} (f : A → Answer) {r : Result A Refusal} → ◌≡◌ {A = Result (Unit {0}) Refusal} (Err x) (cond (sound (capacity l) (view l)) (Ok tt) (Err UnsoundState)) → r ≡ Err x → said_as f r ≡ (call l q).answer
  unsound_said f e w = rw w ((one_told l e f q (Err x) refl refl).0)

  pub unsound_kept : ◌≡◌ {A = Result (Unit {0}) Refusal} (Err x) (cond (sound (capacity l) (view l)) (Ok tt) (Err UnsoundState)) → l ≡ (call l q).memory
  unsound_kept e = (one_said l e q refl).1

pub ruleset unsound_told = (err_is, unsound_said, unsound_kept)
