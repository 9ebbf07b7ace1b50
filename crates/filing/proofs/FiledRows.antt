-- A row filed, over plain variables.
use mathlib.Core.Path.{◌≡◌, refl, sym, ap, ◌∙◌}
use mathlib.Core.Bool.{true, cond}
use mathlib.Core.List.{List, [], ◌∷◌, ◌++◌}
use Rattle.std.specs.Prelude.{None, Err}
use Prim.Native.Nat.{ℕ, zero, suc, ◌+◌, ◌*◌, ◌/◌, ◌-◌, ◌≤◌, ◌<◌}
use native.Mathlib.Omega.{arith}
use lib.Dec.{ltb}
use lib.ListN.{length, take, drop, length-append, length-take, length-drop}
use Rattle.types.specs.declared.node_addr.NodeAddr.{NodeAddr}
use Rattle.types.specs.Values.{largest_number}
use Rattle.rules.specs.Records.{Entry, Row, State, max_rows, weight_limit, with_seq}
use Rattle.rules.specs.Rows.{row_at, in_main, find, change_row, insert_in_order, weigh_rows, main_weight, with_rows}
use Rattle.rules.specs.Sound.{ascends}
use Rattle.rules.specs.Room.{file_new, stamp, raised}
use Rattle.rules.specs.Memory.{capacity, view_rows}
use Rattle.rules.proofs.RowLists.{total_insert}
use Rattle.rules.proofs.SoundTest.{Sound, sound_is, ascends_test}
use Rattle.rules.proofs.Sizes.{light, few_rows}
use Rattle.rules.specs.Layout.{head_size, row_size}
use Rattle.rules.proofs.Foreign.{view_length}
use Rattle.search.specs.ByKey.{searched}
use Rattle.search.proofs.SearchLaws.{absent_inside, absent_insert}
use Rattle.memory.specs.Edits.{with_stored_weight, stamped_as}
use Rattle.memory.proofs.Fields.{same_head}
use Rattle.rows.specs.Insertions.{inserted}
use Rattle.filing.specs.Filings.{Free}

-- ---- what a row that is filed meets

long : (R n m : ℕ) → R ≡ (m - head_size) / row_size → n < R → head_size + (n + 1) * row_size ≤ m
long R n m e h = omega arith

module _ {k : NodeAddr} {n : ℕ} {l : List ℕ} (f : Free k n l) where
  pub one_more_fits : head_size + (n + 1) * row_size ≤ length l
  unfolding capacity
  one_more_fits = long ((length l - head_size) / row_size) n (length l) refl f.room

  whole : Sound (capacity l) (view_rows n l)
  whole = sound_is (capacity l) (view_rows n l) f.without.sound

  rows_rise : ascends (view_rows n l).rows ≡ true
  rows_rise = ascends_test (view_rows n l).rows whole.rising

  pub index_asks : (ascends (view_rows n l).rows ≡ true) × (head_size + n * row_size ≤ length l) × (find k (view_rows n l).rows ≡ None)
  index_asks = (rows_rise, omega (arith, one_more_fits), f.without.gone)

  pub head_there : head_size ≤ length l
  head_there = omega (arith, one_more_fits)

  pub stored_light : (view_rows 0 l).stored_weight ≤ max_rows * weight_limit
  stored_light =
      let r = light (view_rows n l).seq (view_rows n l).rows whole.each in
      omega (arith, (same_head 0 n l).stored_weight, whole.stored_weight, few_rows (capacity l) (view_rows n l) whole, whole.small)

  -- a new row's place is among the rows, or past the last
  pub place_inside : {i : ℕ} → searched k (view_rows n l).rows ≡ Err i → i ≤ n
  place_inside {i} h = omega (arith, absent_inside k (view_rows n l).rows i h, view_length n l)

-- ---- a new row

-- the row of an entry, under the stamp (last_used, q)
abbrev pub stamped_row : NodeAddr → Entry → ℕ → ℕ → ℕ → Row
stamped_row k e w p q = record { key = k; entry = e; place = p; stamp_first = e.last_used; stamp_seq = q; weight = w }

one_longer : (i : ℕ) (r : Row) (rs : List Row) → i ≤ length rs → length (take i rs ++ (r ∷ drop i rs)) ≡ length rs + 1
one_longer i r rs h = simp (length-append, length-take, length-drop) (omega arith)

pub in_order : (r : Row) (w i : ℕ) (s : State) → ascends s.rows ≡ true → searched r.key s.rows ≡ Err i
    → s.stored_weight ≡ main_weight s → w ≡ s.stored_weight + cond (ltb r.place 2) r.weight 0
    → (take i s.rows ++ (r ∷ drop i s.rows) ≡ insert_in_order r s.rows) × (w ≡ weigh_rows in_main (insert_in_order r s.rows)) × (length s.rows + 1 ≡ length (insert_in_order r s.rows))
unfolding in_main
in_order r w i s a h m e =
    let o = absent_insert r s.rows i a h in
    (sym o, omega (arith, total_insert (λ (x : Row). cond (ltb x.place 2) x.weight 0) r s.rows), sym (ap length o ∙ one_longer i r s.rows (absent_inside r.key s.rows i h)))

-- at i, once the weight v is stored and the stamp q drawn
pub filed : {k : NodeAddr} {n : ℕ} {l : List ℕ} (f : Free k n l) {e : Entry} {w p i v q : ℕ} {r : Row} {t u x : State}
    → searched k (view_rows n l).rows ≡ Err i → v ≡ (view_rows 0 l).stored_weight + cond (ltb p 2) w 0 → t ≡ with_stored_weight v (view_rows n l) → q ≡ t.seq + 1 → u ≡ with_seq q t
    → r ≡ stamped_row k e w p q → x ≡ inserted i r u → x ≡ file_new k e w p (view_rows n l)
unfolding file_new inserted with_stored_weight with_seq view_rows
filed {k} {n} {l} f {e} {w} {p} {i} {v} h ev et eq eu er ex =
    let c = stamped_row k e w p ((view_rows n l).seq + 1) in
    let o = in_order c v i (view_rows n l) (rows_rise f) h (whole f).stored_weight ev in
    ex ∙ rw (eu, er, eq, et, o.0, o.1, o.2)

-- ---- a saved row

row_in : (i : ℕ) (r : Row) (rs : List Row) → i ≤ length rs → row_at i (take i rs ++ (r ∷ drop i rs)) ≡ r
row_in zero r rs h = refl
row_in (suc i) r [] h = absurd (let z : ⊥ = omega arith in z)
row_in (suc i) r (x ∷ xs) h = row_in i r xs (omega arith)

change_in : (f : Row → Row) (i : ℕ) (r : Row) (rs : List Row) → i ≤ length rs → change_row f i (take i rs ++ (r ∷ drop i rs)) ≡ take i rs ++ (f r ∷ drop i rs)
unfolding change_row
change_in f zero r rs h = refl
change_in f (suc i) r [] h = absurd (let z : ⊥ = omega arith in z)
change_in f (suc i) r (x ∷ xs) h = ap (λ (ys : List Row). x ∷ ys) (change_in f i r xs (omega arith))

inserted_row : (i : ℕ) (r : Row) (s : State) → i ≤ length s.rows → row_at i (inserted i r s).rows ≡ r
unfolding inserted
inserted_row i r s h = row_in i r s.rows h

stamp_in : (f v i : ℕ) (r : Row) (s : State) → i ≤ length s.rows
    → stamp (stamped_as 0 f) i (with_stored_weight v (inserted i r s)) ≡ inserted i (stamped_as 0 f (s.seq + 1) r) (with_seq (s.seq + 1) (with_stored_weight v s))
unfolding stamp raised with_rows inserted with_stored_weight with_seq
stamp_in f v i r s h = rw (change_in (stamped_as 0 f (s.seq + 1)) i r s.rows h)

saved_row : (k : NodeAddr) (f q : ℕ) (r : Row) → r.key ≡ k → f ≡ r.entry.last_used
    → stamped_as 0 f q r ≡ stamped_row k r.entry r.weight 0 q
unfolding stamped_as
saved_row k f q r e g = rw (e, g)

-- row r, of key k, stands at i among the rows of memory m, as it was: those of memory l were n
pub record Standing (k : NodeAddr) (n i : ℕ) (r : Row) (l m : List ℕ) : Type 0 where
  pub free : Free k n l
  pub at : searched k (view_rows n l).rows ≡ Err i
  pub key : r.key ≡ k
  pub size : length m ≡ length l
  pub state : view_rows (n + 1) m ≡ inserted i r (view_rows n l)

module _ {k : NodeAddr} {n i : ℕ} {r : Row} {l m : List ℕ} (s : Standing k n i r l m) where
  pub row_there : (i < n + 1) × (head_size + (n + 1) * row_size ≤ length m)
  row_there = (omega (arith, place_inside s.free s.at), omega (arith, one_more_fits s.free, s.size))

  pub count_asks : (head_size ≤ length m) × ((view_rows 0 m).stored_weight ≤ max_rows * weight_limit)
  unfolding inserted
  count_asks = (omega (arith, row_there), omega (arith, stored_light s.free, (same_head 0 (n + 1) m).stored_weight, ap (λ (x : State). x.stored_weight) s.state, (same_head 0 n l).stored_weight))

  pub seq_left : (view_rows (n + 1) m).seq < largest_number
  unfolding inserted
  seq_left = rw s.state s.free.seq

  -- its weight counted, and a stamp drawn for it
  pub filed_unchanged : {w v first : ℕ} {u x : State} → w ≡ (row_at i (view_rows (n + 1) m).rows).weight → v ≡ (view_rows 0 m).stored_weight + w → u ≡ with_stored_weight v (view_rows (n + 1) m)
      → first ≡ (row_at i u.rows).entry.last_used → x ≡ stamp (stamped_as 0 first) i u → x ≡ file_new k r.entry r.weight 0 (view_rows n l)
  unfolding inserted with_stored_weight
  filed_unchanged {w} {v} {first} ew ev eu ef ex =
      let q = (view_rows n l).seq + 1 in
      let b = absent_inside k (view_rows n l).rows i s.at in
      let w1 : w ≡ r.weight = ew ∙ rw (s.state, inserted_row i r (view_rows n l) b) in
      let v1 : v ≡ (view_rows 0 l).stored_weight + r.weight = omega (arith, ev, w1, (same_head 0 (n + 1) m).stored_weight, (same_head 0 n l).stored_weight, ap (λ (y : State). y.stored_weight) s.state) in
      let u1 = eu ∙ ap (with_stored_weight v) s.state in
      let f1 : first ≡ r.entry.last_used = ef ∙ rw (u1, inserted_row i r (view_rows n l) b) in
      filed s.free s.at v1 refl refl refl (saved_row k first q r s.key f1) (ex ∙ ap (stamp (stamped_as 0 first) i) u1 ∙ stamp_in first v i r (view_rows n l) b)
