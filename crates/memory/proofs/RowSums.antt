-- Sums over rows, as loops make them.
use mathlib.Core.Path.{◌≡◌, refl, ◌∙◌}
use Prim.Native.Nat.{ℕ, ◌+◌, ◌≤◌, ◌<◌}
use native.Mathlib.Omega.{arith}
use native.Mathlib.Numerals.{add-one}
use mathlib.Core.Bool.{Bool, true, false, cond}
use mir.Val.{bool_byte}
use mathlib.Core.List.{List, [], ◌∷◌, map}
use Rattle.std.specs.List.{fold, sum}
use lib.ListN.{length, drop, drop_of_length-le}
use lib.Seq.{drop-cons}
use Rattle.rules.specs.Records.{Row}
use Rattle.rules.specs.Rows.{row_at, blank_row, total}

-- row i and those behind it
pub total_next : (f : Row → ℕ) (i : ℕ) (rs : List Row) → i < length rs → total f (drop i rs) ≡ f (row_at i rs) + total f (drop (i + 1) rs)
unfolding total
total_next f i rs h = rw (add-one, drop-cons rs i blank_row h)

pub total_end : (f : Row → ℕ) (i : ℕ) (rs : List Row) → length rs ≤ i → total f (drop i rs) ≡ 0
unfolding total
total_end f i rs h = rw (drop_of_length-le rs h)

-- ---- a test that counts

pub as_count : (b : Bool) → bool_byte b ≡ cond b 1 0
as_count true = refl
as_count false = refl

-- ---- rows that pass a test, counted

pub one_at_most : (b : Bool) → bool_byte b ≤ 1
one_at_most true = omega arith
one_at_most false = omega arith

-- ---- a 1 for each row that passes a test, summed

sum_from : (p : Row → Bool) (a : ℕ) (rs : List Row) → fold (λ s x. s + x) a (map (λ r. bool_byte (p r)) rs) ≡ a + total (λ r. cond (p r) 1 0) rs
unfolding total
sum_from p a [] = omega arith
sum_from p a (r ∷ rs) = sum_from p (a + bool_byte (p r)) rs ∙ omega (arith, as_count (p r))

pub sum_count : (p : Row → Bool) (rs : List Row) → sum (map (λ r. bool_byte (p r)) rs) ≡ total (λ r. cond (p r) 1 0) rs
sum_count p rs = sum_from p 0 rs ∙ omega arith

pub count_few : (p : Row → Bool) (rs : List Row) → total (λ r. cond (p r) 1 0) rs ≤ length rs
unfolding total
count_few p [] = omega arith
count_few p (r ∷ rs) = omega (arith, as_count (p r), one_at_most (p r), count_few p rs)
