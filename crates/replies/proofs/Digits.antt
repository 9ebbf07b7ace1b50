-- Decimal digits, as the loops that count and write them go.
use mathlib.Core.Path.{◌≡◌, refl, sym}
use Prim.Native.Nat.{ℕ, zero, suc, ◌+◌, ◌*◌, ◌/◌, ◌%◌, ◌^◌, ◌≤◌, ◌<◌, max}
use native.Mathlib.Nat.{mod-eq_of_lt}
use native.Mathlib.Numerals.{add-one}
use native.Mathlib.Omega.{arith}
use mathlib.Core.Bool.{Bool, true, false, cond}
use mathlib.Core.List.{List, [], ◌∷◌, ◌++◌}
use lib.Dec.{ltb}
use lib.ListN.{length, length-append}
use borrow.Author.Tests.{ltb-true, lt-ltb, le-ltb}
use Rattle.rules.specs.Commands.{decimal_digits, decimal}

-- the last i digits of v
unfoldable pub last_digits : ℕ → ℕ → List ℕ
last_digits zero v = []
last_digits (suc i) v = last_digits i (v / 10) ++ ((48 + v % 10) ∷ [])

pub length_last : (i v : ℕ) → length (last_digits i v) ≡ i
unfolding last_digits
length_last zero v = refl
length_last (suc i) v = rw (length-append, length_last i (v / 10), add-one)

-- all digits are the last ones
all_last : (n v : ℕ) → last_digits (length (decimal_digits n v)) v ≡ decimal_digits n v
unfolding last_digits decimal_digits
all_last zero v = refl
all_last (suc n) v = go (ltb v 10) refl (all_last n (v / 10))
  where
    go : (b : Bool) → ltb v 10 ≡ b → last_digits (length (decimal_digits n (v / 10))) (v / 10) ≡ decimal_digits n (v / 10)
        → last_digits (length (cond b ((48 + v) ∷ []) (decimal_digits n (v / 10) ++ ((48 + v % 10) ∷ [])))) v ≡ cond b ((48 + v) ∷ []) (decimal_digits n (v / 10) ++ ((48 + v % 10) ∷ []))
    go true e h = rw (mod-eq_of_lt (ltb-true v 10 e))
    go false e h = rw (length-append, add-one, h)

pub all_digits : (v : ℕ) → last_digits (length (decimal v)) v ≡ decimal v
unfolding decimal
all_digits v = all_last 20 v

pub digits_most : (n v : ℕ) → length (decimal_digits n v) ≤ n
unfolding decimal_digits
digits_most zero v = omega arith
digits_most (suc n) v = go (ltb v 10) (digits_most n (v / 10))
  where
    go : (b : Bool) → length (decimal_digits n (v / 10)) ≤ n → length (cond b ((48 + v) ∷ []) (decimal_digits n (v / 10) ++ ((48 + v % 10) ∷ []))) ≤ suc n
    go true h = omega arith
    go false h = rw length-append (omega arith)

pub at_most : (v : ℕ) → length (decimal v) ≤ 20
unfolding decimal
at_most v = digits_most 20 v

-- a number below 10 is its digit
pub one_digit : (v : ℕ) → v < 10 → decimal v ≡ (48 + v) ∷ []
unfolding decimal decimal_digits
one_digit v h = rw (lt-ltb v 10 h)

-- a number from 10^k up to ten times as much has k + 1 digits
power : (k : ℕ) → 1 ≤ 10 ^ k
power zero = omega arith
power (suc k) = omega (arith, power k)

digits_of : (n k v : ℕ) → k < n → 10 ^ k ≤ v → v < 10 * 10 ^ k → length (decimal_digits n v) ≡ k + 1
unfolding decimal_digits
digits_of zero k v h a b = absurd (let z : ⊥ = omega arith in z)
digits_of (suc n) zero v h a b = let e : v < 10 = omega arith in rw (lt-ltb v 10 e)
digits_of (suc n) (suc k) v h a b =
    let e : 10 ≤ v = omega (arith, power k) in
    let f = digits_of n k (v / 10) (omega arith) (omega arith) (omega arith) in
    rw (le-ltb v 10 e, length-append, f) (omega arith)

-- 0 has as many as 1
pub counted : (v k : ℕ) → k < 20 → 10 ^ k ≤ max v 1 → max v 1 < 10 * 10 ^ k → k + 1 ≡ length (decimal v)
unfolding decimal decimal_digits
counted zero zero h a b = refl
counted zero (suc k) h a b = let z : ⊥ = omega (arith, power k) in absurd z
counted (suc v) k h a b =
    let e : max (suc v) 1 ≡ suc v = omega arith in
    sym (digits_of 20 k (suc v) h (rw e at a) (rw e at b))
