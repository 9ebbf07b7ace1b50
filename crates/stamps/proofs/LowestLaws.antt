-- The lowest stamp of a place, by a loop from the last row down.
use mathlib.Core.Path.{◌≡◌, refl, sym, ap, ◌∙◌, subst}
use Prim.Native.Nat.{ℕ, suc, ◌+◌, ◌-◌, ◌≤◌, ◌<◌}
use native.Mathlib.Omega.{arith}
use mathlib.Core.List.{List}
use Rattle.std.specs.Prelude.{Option, None, Some}
use mathlib.Core.Bool.{Bool, true, false, cond, ◌&&◌, ◌||◌}
use lib.Dec.{ltb, eqb}
use lib.ListN.{length, drop, drop_of_length-le}
use borrow.Author.Tests.{lt-ltb, le-ltb, ltb-true}
use Rattle.rules.specs.Cases.{maybe}
use Rattle.rules.specs.Records.{Row}
use Rattle.rules.specs.Rows.{row_at, at_place, stamp_before, lowest_stamp}
use Rattle.rules.proofs.Loops.{from, better, lowest_down}
use Rattle.stamps.specs.declared.lowest.Best.{Best}
use Rattle.stamps.proofs.RowTotals.{Counted, counted_start, counted_turn, counted_end, one_at_most}
use Rattle.memory.proofs.RowLaws.{view_length}
use Rattle.stamps.specs.Walked.{no_row, best_row, lower_best, lower_row}

-- the rows from i on were searched
pub record Down (p n i : ℕ) (rs : List Row) (b : Best) : Type 0 where
  pub row : from i (lowest_stamp p (drop i rs)) ≡ best_row n b
  pub stamp : b.row < n → (b.first ≡ (row_at b.row rs).stamp_first) × (b.seq ≡ (row_at b.row rs).stamp_seq)

pub down_start : {p n : ℕ} {rs : List Row} {b : Best} → length rs ≡ n → b ≡ no_row n → Down p n n rs b
unfolding best_row from lowest_stamp
down_start {p} {n} {rs} h e =
    let k : length rs ≤ n = omega arith in
    rw e (record { row = rw (drop_of_length-le rs k, le-ltb n n (omega arith)); stamp = λ z. absurd (let e : ⊥ = omega arith in e) })

-- the best row's stamp is before row r's
abbrev under : Best → Row → Bool
under b r = ltb b.first r.stamp_first || (eqb b.first r.stamp_first && ltb b.seq r.stamp_seq)

-- the lowest of the rows from i on
abbrev lowest_from : ℕ → ℕ → List Row → Option ℕ
lowest_from p i rs = from i (lowest_stamp p (drop i rs))

-- row i is searched too
lower : (p n k i : ℕ) (rs : List Row) (b : Best) → k ≡ suc i → i < length rs → i < n → Down p n k rs b → Down p n i rs (lower_row n p i (row_at i rs) b)
unfolding lower_row lower_best best_row better stamp_before
lower p n k i rs b ek h hn d = go (at_place p r) (lowest_down p i rs h) (subst (λ (x : ℕ). lowest_from p x rs ≡ best_row n b) ek d.row)
  where
    r : Row
    r = row_at i rs

    mine : Best
    mine = record { row = i; first = r.stamp_first; seq = r.stamp_seq }

    taken : lowest_from p i rs ≡ Some i → Down p n i rs mine
    taken u = record { row = u ∙ rw (lt-ltb i n hn); stamp = λ z. (refl, refl) }

    go : (a : Bool) → lowest_from p i rs ≡ cond a (Some (maybe (lowest_from p (suc i) rs) i (λ j. cond (stamp_before (row_at j rs) r) j i))) (lowest_from p (suc i) rs) →
        lowest_from p (suc i) rs ≡ cond (ltb b.row n) (Some b.row) None → Down p n i rs (cond a (cond (ltb b.row n && under b r) b mine) b)
    go false u e = record { row = u ∙ e; stamp = d.stamp }
    go true u e = held (ltb b.row n) refl (u ∙ rw e)
      where
        held : (c : Bool) → ltb b.row n ≡ c → lowest_from p i rs ≡ Some (maybe (cond c (Some b.row) None) i (λ j. cond (stamp_before (row_at j rs) r) j i)) →
            Down p n i rs (cond (c && under b r) b mine)
        held false q u = taken u
        held true q u =
            let s = d.stamp (ltb-true b.row n q) in
            let t : under b r ≡ stamp_before (row_at b.row rs) r = rw (s.0, s.1) in
            rw t (pick (stamp_before (row_at b.row rs) r) u)
          where
            pick : (c : Bool) → lowest_from p i rs ≡ Some (cond c b.row i) → Down p n i rs (cond c b mine)
            pick true u = record { row = u ∙ rw q; stamp = d.stamp }
            pick false u = taken u

pub down_row : {q : Row → Bool} {p n i c : ℕ} {rs : List Row} {b x : Best} → Counted q n i c rs → 0 < i → x ≡ lower_row n p (i - 1) (row_at (i - 1) rs) b → Down p n i rs b →
    Down p n (i - 1) rs x
down_row {p = p} {n = n} {i = i} {rs = rs} {b = b} t z e d =
    rw e (lower p n i (i - 1) rs b (omega arith) (omega (arith, t.long, t.within)) (omega (arith, t.within)) d)

pub down_end : {p n i : ℕ} {rs : List Row} {b : Best} → i ≤ 0 → Down p n i rs b → best_row n b ≡ lowest_stamp p rs
unfolding from
down_end {p} {n} {i} {rs} {b} h d =
    let z : i ≡ 0 = omega arith in
    sym (whole (lowest_stamp p rs) ∙ subst (λ (x : ℕ). lowest_from p x rs ≡ best_row n b) z d.row)
  where
    whole : (o : Option ℕ) → o ≡ from 0 o
    whole None = refl
    whole (Some j) = ap Some (let e : j ≡ 0 + j = omega arith in e)

pub ruleset passed = (view_length, counted_start, counted_turn, counted_end, one_at_most, down_start, down_row, down_end)
