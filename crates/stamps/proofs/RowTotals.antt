-- Rows counted and summed from the last one down.
use mathlib.Core.Path.{◌≡◌, refl, sym, ap, ◌∙◌, subst}
use Prim.Native.Nat.{ℕ, suc, ◌+◌, ◌-◌, ◌≤◌, ◌<◌}
use native.Mathlib.Omega.{arith}
use mathlib.Core.List.{List, [], ◌∷◌}
use mathlib.Core.Bool.{Bool, true, false, cond}
use mir.Val.{bool_byte}
use lib.ListN.{length, drop, drop_of_length-le}
use lib.Seq.{drop-cons}
use Rattle.rules.specs.Records.{Row}
use Rattle.rules.specs.Rows.{row_at, blank_row, total, count_rows}
use Rattle.rules.proofs.RowLists.{by_cond}

pub sum_down : (f : Row → ℕ) (k i : ℕ) (rs : List Row) → k ≡ suc i → i < length rs → total f (drop i rs) ≡ f (row_at i rs) + total f (drop k rs)
unfolding total
sum_down f k i rs e h = rw (e, drop-cons rs i blank_row h)

pub sum_none : (f : Row → ℕ) (i : ℕ) (rs : List Row) → length rs ≤ i → total f (drop i rs) ≡ 0
unfolding total
sum_none f i rs h = rw (drop_of_length-le rs h)

pub one_at_most : (b : Bool) → bool_byte b ≤ 1
one_at_most true = omega arith
one_at_most false = omega arith

as_count : (b : Bool) → bool_byte b ≡ cond b 1 0
as_count true = refl
as_count false = refl

-- of n rows those from i on were counted
pub record Counted (p : Row → Bool) (n i c : ℕ) (rs : List Row) : Type 0 where
  pub long : length rs ≡ n
  pub within : i ≤ n
  pub few : c + i ≤ n
  pub count : c ≡ count_rows p (drop i rs)

pub counted_start : {p : Row → Bool} {n : ℕ} {rs : List Row} → length rs ≡ n → Counted p n n 0 rs
counted_start {p} {n} {rs} h = record { long = h; within = omega arith; few = omega arith; count = sym (sum_none (λ r. cond (p r) 1 0) n rs (omega arith)) }

module _ {p : Row → Bool} {n i c : ℕ} {rs : List Row} (t : Counted p n i c rs) where
  pub counted_turn : {b : Bool} → 0 < i → b ≡ p (row_at (i - 1) rs) → Counted p n (i - 1) (c + bool_byte b) rs
  counted_turn {b} z q =
      let k = sum_down (λ r. cond (p r) 1 0) i (i - 1) rs (omega arith) (omega (arith, t.long, t.within)) in
      record {
        long = t.long;
        within = omega (arith, t.within);
        few = omega (arith, t.few, one_at_most b);
        count = omega (arith, t.count, k, as_count b ∙ ap (λ (x : Bool). cond x 1 0) q);
      }

  pub counted_end : i ≤ 0 → c ≡ count_rows p rs
  counted_end z = let e : i ≡ 0 = omega arith in subst (λ (j : ℕ). c ≡ count_rows p (drop j rs)) e t.count

pub count_few : (p : Row → Bool) (rs : List Row) → count_rows p rs ≤ length rs
unfolding total
count_few p [] = omega arith
count_few p (r ∷ rs) = let h = count_few p rs in by_cond (λ u. u + count_rows p rs ≤ suc (length rs)) (p r) (λ e. omega arith) (λ e. omega arith)
