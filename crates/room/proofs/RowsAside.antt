-- Rows set aside and put back.
use mathlib.Core.Path.{◌≡◌, refl, sym, ap, ◌∙◌}
use Prim.Native.Nat.{ℕ, zero, suc, ◌+◌, ◌-◌, ◌≤◌, ◌<◌}
use native.Mathlib.Omega.{arith}
use native.Mathlib.Numerals.{add-one}
use mathlib.Core.List.{List, [], ◌∷◌, map}
use mathlib.Core.Bool.{true}
use lib.ListN.{length}
use borrow.Author.Tests.{eq-eqb, ne_eqb}
use Rattle.rules.specs.Records.{Row, State, aside}
use Rattle.rules.specs.Rows.{row_at, at_place, change_row, with_rows}
use Rattle.rules.specs.Room.{at_new_place, put_back}
use Rattle.rules.proofs.RowLists.{change_at, change_none, length_change}
use Rattle.rules.specs.Memory.{view_rows}
use Rattle.memory.proofs.RowLaws.{view_length}
use Rattle.retention.proofs.KeptRows.{rows_same}
use Rattle.memory.specs.Edits.{stamped_as}
use Rattle.room.specs.Rooms.{LastAside}

-- ---- a row at another place, under its own stamp

own_stamp : (p f q : ℕ) (r : Row) → f ≡ r.stamp_first → q ≡ r.stamp_seq → stamped_as p f q r ≡ at_new_place p r
unfolding stamped_as at_new_place
own_stamp p f q r ef eq = rw (ef, eq)

pub placed : (i p f q : ℕ) (s x : State) → f ≡ (row_at i s.rows).stamp_first → q ≡ (row_at i s.rows).stamp_seq →
    x ≡ with_rows (change_row (stamped_as p f q) i s.rows) s → x ≡ with_rows (change_row (at_new_place p) i s.rows) s
placed i p f q s x ef eq ex =
    ex ∙ ap (λ (rs : List Row). with_rows rs s) (change_at (stamped_as p f q) (at_new_place p) i s.rows (own_stamp p f q (row_at i s.rows) ef eq))

-- ---- the row that was set aside last

aside_there : (i : ℕ) (rs : List Row) → i < length rs → at_place aside (row_at i (change_row (at_new_place aside) i rs)) ≡ true
unfolding change_row at_new_place at_place
aside_there i [] h = absurd (let z : ⊥ = omega arith in z)
aside_there zero (r ∷ rs) h = refl
aside_there (suc i) (r ∷ rs) h = aside_there i rs (omega arith)

pub last_aside : {count left : ℕ} (i : ℕ) (rs : List Row) → left ≤ count → i < length rs → LastAside count (left - 1) i (change_row (at_new_place aside) i rs)
last_aside i rs k h = record { few = omega arith; inside = omega (arith, length_change (at_new_place aside) i rs); there = aside_there i rs h }

-- ---- a row put back

pub back_here : (i : ℕ) (s x : State) → (row_at i s.rows).place ≡ 3 → x ≡ with_rows (change_row (at_new_place 0) i s.rows) s → x ≡ with_rows (change_row put_back i s.rows) s
unfolding put_back at_place
back_here i s x p e = e ∙ ap (λ (rs : List Row). with_rows rs s) (change_at (at_new_place 0) put_back i s.rows (rw (eq-eqb (row_at i s.rows).place 3 p)))

pub back_not_here : (i : ℕ) (s : State) → ((row_at i s.rows).place ≡ 3 → ⊥) → s ≡ with_rows (change_row put_back i s.rows) s
unfolding put_back at_place
back_not_here i s p = sym (ap (λ (rs : List Row). with_rows rs s) (change_none put_back i s.rows (rw (ne_eqb (row_at i s.rows).place 3 p))) ∙ rows_same s)

-- ---- all rows, from row 0 on

-- the first i rows were put back
unfoldable pub back_to : ℕ → List Row → List Row
back_to zero rs = rs
back_to (suc i) [] = []
back_to (suc i) (r ∷ rs) = put_back r ∷ back_to i rs

back_step : (i : ℕ) (rs : List Row) → change_row put_back i (back_to i rs) ≡ back_to (suc i) rs
unfolding back_to change_row
back_step zero [] = refl
back_step zero (r ∷ rs) = refl
back_step (suc i) [] = refl
back_step (suc i) (r ∷ rs) = ap (λ (xs : List Row). put_back r ∷ xs) (back_step i rs)

back_all : (i : ℕ) (rs : List Row) → i ≡ length rs → back_to i rs ≡ map put_back rs
unfolding back_to
back_all zero [] e = refl
back_all (suc i) [] e = refl
back_all zero (r ∷ rs) e = absurd (let z : ⊥ = omega arith in z)
back_all (suc i) (r ∷ rs) e = ap (λ (xs : List Row). put_back r ∷ xs) (back_all i rs (omega arith))

-- of n rows; memory x shows them, from memory l
pub record Backed (n i : ℕ) (l x : List ℕ) : Type 0 where
  pub within : i ≤ n
  pub long : length x ≡ length l
  pub same : view_rows n x ≡ with_rows (back_to i (view_rows n l).rows) (view_rows n l)

pub backed_start : {n : ℕ} {l : List ℕ} → Backed n 0 l l
unfolding back_to
backed_start {n} {l} = record { within = omega arith; long = refl; same = sym (rows_same (view_rows n l)) }

rows_twice : (f : List Row → List Row) (rs : List Row) (s : State) → with_rows (f (with_rows rs s).rows) (with_rows rs s) ≡ with_rows (f rs) s
unfolding with_rows
rows_twice f rs s = refl

module _ {n i : ℕ} {l x : List ℕ} (b : Backed n i l x) where
  pub backed_turn : {y : List ℕ} → i < n → length y ≡ length x → view_rows n y ≡ with_rows (change_row put_back i (view_rows n x).rows) (view_rows n x) → Backed n (i + 1) l y
  backed_turn h k e =
      let s = view_rows n l in
      let q = ap (λ (z : State). with_rows (change_row put_back i z.rows) z) b.same ∙ rows_twice (change_row put_back i) (back_to i s.rows) s in
      record { within = omega arith; long = k ∙ b.long; same = e ∙ q ∙ ap (λ (rs : List Row). with_rows rs s) (back_step i s.rows) ∙ rw add-one refl }

  pub backed_end : n ≤ i → view_rows n x ≡ with_rows (map put_back (view_rows n l).rows) (view_rows n l)
  backed_end h = b.same ∙ ap (λ (rs : List Row). with_rows rs (view_rows n l)) (back_all i (view_rows n l).rows (omega (arith, b.within, view_length n l)))
