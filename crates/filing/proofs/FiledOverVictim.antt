-- A new row filed over a row that leaves, over plain variables.
use mathlib.Core.Path.{◌≡◌, refl, sym, ap, ◌∙◌}
use mathlib.Core.Bool.{Bool, true, false, cond}
use mathlib.Core.List.{List, [], ◌∷◌}
use Rattle.std.specs.Prelude.{None, Some, Err}
use Prim.Native.Nat.{ℕ, zero, suc, ◌+◌, ◌*◌, ◌-◌, ◌≤◌, ◌<◌}
use native.Mathlib.Omega.{arith}
use lib.Dec.{ltb}
use lib.ListN.{length, drop, length-replicate}
use lib.Seq.{drop_at}
use Rattle.types.specs.declared.node_addr.NodeAddr.{NodeAddr}
use Rattle.types.specs.Addresses.{same_addr, addr_before}
use Rattle.rules.specs.Records.{Entry, Row, State, with_seq}
use Rattle.rules.specs.Rows.{row_at, find, next_index, total, without_row, with_rows, with_only_rows, zero_rows}
use Rattle.rules.specs.Sound.{ascends}
use Rattle.rules.specs.Room.{file_new, take_out}
use Rattle.rules.specs.Memory.{view_rows}
use Rattle.rules.proofs.Addresses.{before_trans, contradiction}
use Rattle.rules.proofs.RowLists.{by_cond, next_none, total_without, rising_without}
use Rattle.rules.proofs.SoundTest.{ascends_ok, ascends_test}
use Rattle.rules.specs.Layout.{row_size}
use Rattle.search.specs.ByKey.{rows_before, searched}
use Rattle.search.proofs.RisingRows.{first_before, rest_ascends}
use Rattle.search.proofs.SearchLaws.{absent_inside, absent_none, none_searched}
use Rattle.memory.proofs.RowLaws.{length_without, view_length}
use Rattle.memory.specs.Edits.{with_stored_weight, with_row_count}
use Rattle.rows.specs.Insertions.{exchanged}
use Rattle.room.specs.declared.victims.Victim.{Victim}
use Rattle.filing.specs.Filings.{Over}
use Rattle.filing.proofs.FiledRows.{stamped_row, in_order}

-- ---- the place of a key once row i is gone

-- behind a row that doesn't stand before k no row does
none_before : (k : NodeAddr) (r : Row) (rs : List Row) → ascends (r ∷ rs) ≡ true → addr_before r.key k ≡ false → rows_before k rs ≡ 0
unfolding total
none_before k r [] a h = refl
none_before k r (x ∷ xs) a h =
    by_cond (λ u. u + rows_before k xs ≡ 0) (addr_before x.key k)
    (λ e. contradiction (before_trans r.key x.key k (first_before r (x ∷ xs) 0 a (omega arith)) e) h)
    (λ e. omega (arith, none_before k x xs (rest_ascends r (x ∷ xs) a) e))

-- the rows before k are the first
counted : (k : NodeAddr) (rs : List Row) (i : ℕ) → ascends rs ≡ true → i < length rs → addr_before (row_at i rs).key k ≡ true → i < rows_before k rs
unfolding total
counted k [] i a h e = absurd (let z : ⊥ = omega arith in z)
counted k (r ∷ rs) zero a h e = rw e (omega arith)
counted k (r ∷ rs) (suc i) a h e = rw (before_trans r.key (row_at i rs).key k (first_before r rs i a (omega arith)) e) (omega (arith, counted k rs i (rest_ascends r rs a) (omega arith) e))

not_counted : (k : NodeAddr) (rs : List Row) (i : ℕ) → ascends rs ≡ true → i < length rs → addr_before (row_at i rs).key k ≡ false → rows_before k rs ≤ i
unfolding total
not_counted k [] i a h e = absurd (let z : ⊥ = omega arith in z)
not_counted k (r ∷ rs) zero a h e = rw e (omega (arith, none_before k r rs a e))
not_counted k (r ∷ rs) (suc i) a h e =
    let c = not_counted k rs i (rest_ascends r rs a) (omega arith) e in
    by_cond (λ u. u + rows_before k rs ≤ suc i) (addr_before r.key k) (λ _. omega arith) (λ _. omega arith)

none_cons : (k : NodeAddr) (r : Row) (rs : List Row) → find k (r ∷ rs) ≡ None → (same_addr k r.key ≡ false) × (find k rs ≡ None)
unfolding find
none_cons k r rs h = go (same_addr k r.key) refl
  where
    go : (b : Bool) → same_addr k r.key ≡ b → (same_addr k r.key ≡ false) × (find k rs ≡ None)
    go true e = contradiction {b = true} refl (let z : Some 0 ≡ None = simp e at h in cc)
    go false e = (e, next_none (find k rs) (simp e at h))

none_without : (k : NodeAddr) (i : ℕ) (rs : List Row) → find k rs ≡ None → find k (without_row i rs) ≡ None
unfolding find next_index without_row
none_without k i [] h = refl
none_without k zero (r ∷ rs) h = (none_cons k r rs h).1
none_without k (suc i) (r ∷ rs) h = let p = none_cons k r rs h in rw (p.0, none_without k i rs p.1)

module _ (k : NodeAddr) (rs : List Row) (i p : ℕ) (a : ascends rs ≡ true) (l : i < length rs) (h : searched k rs ≡ Err p) where
  all_counted : rows_before k rs ≡ p
  all_counted = let z = sym (none_searched k rs (absent_none k rs p h)) ∙ h in cc

  count_without : rows_before k (without_row i rs) + cond (addr_before (row_at i rs).key k) 1 0 ≡ p
  count_without = total_without (λ (r : Row). cond (addr_before r.key k) 1 0) i rs l ∙ all_counted

  absent_at : (j : ℕ) → rows_before k (without_row i rs) ≡ j → searched k (without_row i rs) ≡ Err j
  absent_at j e = none_searched k (without_row i rs) (none_without k i rs (absent_none k rs p h)) ∙ ap Err e

  pub absent_behind : i < p → searched k (without_row i rs) ≡ Err (p - 1)
  absent_behind g = absent_at (p - 1) (go (addr_before (row_at i rs).key k) refl)
    where
      go : (b : Bool) → addr_before (row_at i rs).key k ≡ b → rows_before k (without_row i rs) ≡ p - 1
      go true e = omega (arith, rw e at count_without)
      go false e = omega (arith, not_counted k rs i a l e, all_counted)

  pub absent_before : p ≤ i → searched k (without_row i rs) ≡ Err p
  absent_before g = absent_at p (go (addr_before (row_at i rs).key k) refl)
    where
      go : (b : Bool) → addr_before (row_at i rs).key k ≡ b → rows_before k (without_row i rs) ≡ p
      go true e = omega (arith, counted k rs i a l e, all_counted)
      go false e = omega (arith, rw e at count_without)

-- it is among the rows
pub place_without : {k : NodeAddr} {n j : ℕ} {v : Victim} {l : List ℕ} → Over k n v l → searched k (without_row v.at (view_rows n l).rows) ≡ Err j → j < n
place_without {k} {n} {j} {v} {l} o e =
    let m = view_length n l in
    omega (arith, absent_inside k (without_row v.at (view_rows n l).rows) j e, length_without v.at (view_rows n l).rows (omega (arith, o.inside)), o.inside)

-- ---- the new row

zeros : (m : ℕ) → length (zero_rows m) ≡ m * row_size
unfolding zero_rows
zeros m = length-replicate {A = ℕ} (m * row_size) 0

-- the zero row that row i leaves behind goes to the new row
rest_kept : (i : ℕ) (s : State) → i < length s.rows → drop row_size (take_out i s).rest ≡ s.rest
unfolding take_out with_only_rows
rest_kept i s h =
    let n = length_without i s.rows h in
    drop_at (zero_rows (length s.rows - length (without_row i s.rows))) s.rest row_size (zeros (length s.rows - length (without_row i s.rows)) ∙ omega arith)

-- c is the weight that is stored with the new row
pub filed_over : {k : NodeAddr} {n : ℕ} {v : Victim} {l : List ℕ} (o : Over k n v l) {e : Entry} {w p j c q : ℕ} {r : Row} {t u y x : State}
    → searched k (without_row v.at (view_rows n l).rows) ≡ Err j → c ≡ v.stored + cond (ltb p 2) w 0 → t ≡ with_stored_weight c (view_rows n l) → q ≡ t.seq + 1 → u ≡ with_seq q t → y ≡ with_row_count n u
    → r ≡ stamped_row k e w p q → x ≡ exchanged v.at j r y → x ≡ file_new k e w p (take_out v.at (view_rows n l))
unfolding file_new take_out with_only_rows exchanged with_rows with_stored_weight with_seq with_row_count
filed_over {k} {n} {v} {l} o {e} {w} {p} {j} {c} {u = u} g ec et eq eu ey er ex =
    let s = view_rows n l in
    let i = v.at in
    let h : i < length s.rows = omega (arith, o.inside, view_length n l) in
    let b : ascends (without_row i s.rows) ≡ true = ascends_test (without_row i s.rows) (rising_without i s.rows (ascends_ok s.rows o.rising)) in
    let d = stamped_row k e w p (s.seq + 1) in
    let f = in_order d c j (take_out i s) b g refl (ec ∙ ap (λ (z : ℕ). z + cond (ltb p 2) w 0) o.weighs) in
    let m : n ≡ length (without_row i s.rows) + 1 = omega (arith, length_without i s.rows h, view_length n l) in
    ex ∙ rw (ey ∙ ap (λ (z : ℕ). with_row_count z u) (m ∙ f.2), eu, er, eq, et, f.0, f.1, rest_kept i s h)
