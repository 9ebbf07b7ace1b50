-- A byte that is none of the codes: no code is found for it, it has no width, and it takes no path.
use mathlib.Core.Path.{◌≡◌, refl, sym}
use Prim.Native.Nat.{ℕ, zero, suc, ◌<◌}
use native.Mathlib.Omega.{arith}
use mathlib.Core.List.{List, [], ◌∷◌}
use Rattle.std.specs.Prelude.{None, Some}
use mathlib.Core.Bool.{Bool, true, false, not, ◌&&◌}
use lib.Dec.{ltb}
use borrow.Author.Tests.{ne_eqb, ltb-true, ltb-false, not-true}
use Rattle.rules.specs.Cases.{maybe}
use Rattle.rules.specs.Commands.{Code, code, codes, code_of, takes_path}
use Rattle.rules.proofs.SoundTest.{and_case}
use Rattle.commands.specs.Widths.{width_in, width_of}

-- beside T, that b is no code of the list: what a match on b knows once it is past these codes
abbrev pub NoneOf : ℕ → Type 0 → List Code → Type 0
NoneOf b T [] = T
NoneOf b T (c ∷ cs) = NoneOf b (T × (b ≡ c.byte → ⊥)) cs

none_of : (b : ℕ) (T : Type 0) (cs : List Code) → NoneOf b T cs → T × (code_of b cs ≡ None)
unfolding code_of
none_of b T [] n = (n, refl)
none_of b T (c ∷ cs) n =
    let k = none_of b (T × (b ≡ c.byte → ⊥)) cs n in
    (k.0.0, rw (ne_eqb b c.byte k.0.1) k.1)

-- past all of a table
pub unknown_code : (cs : List Code) (b : ℕ) → NoneOf b (Unit {0}) cs → code_of b cs ≡ None
unknown_code cs b n = (none_of b (Unit {0}) cs n).1

-- ---- the width that a match tells: of a code k, of none

pub known_width : (b : ℕ) {k w : ℕ} → b ≡ k → width_of k ≡ Some w → Some w ≡ width_of b
known_width b e h = rw e (sym h)

pub no_width : (b : ℕ) → NoneOf b (Unit {0}) codes → None ≡ width_of b
unfolding width_in
no_width b n = rw (unknown_code codes b n)

-- ---- every code from 10 to 15 is known, by a test of all bytes

all_below : ℕ → (ℕ → Bool) → Bool
all_below zero f = true
all_below (suc n) f = f n && all_below n f

below : (n : ℕ) (f : ℕ → Bool) → all_below n f ≡ true → (b : ℕ) → b < n → f b ≡ true
unfolding all_below
below zero f t b h = absurd (let z : ⊥ = omega arith in z)
below (suc n) f t b h = and_case (f n) (all_below n f) t (λ x y. go x (λ k. below n f y b k) (ltb b n) refl)
  where
    go : f n ≡ true → (b < n → f b ≡ true) → (a : Bool) → ltb b n ≡ a → f b ≡ true
    go x y true e = y (ltb-true b n e)
    go x y false e = let k = ltb-false b n e in let z : b ≡ n = omega arith in rw z x

-- known, or taking no path
known_or_plain : ℕ → Bool
known_or_plain b = maybe (code_of b codes) (not (takes_path b)) (λ c. true)

pub no_path : (b : ℕ) → b < 256 → code_of b codes ≡ None → takes_path b ≡ false
unfolding all_below known_or_plain takes_path code_of codes code
no_path b h e = not-true (takes_path b) (rw e at (below 256 known_or_plain refl b h))
