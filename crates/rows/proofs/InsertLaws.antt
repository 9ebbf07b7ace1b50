-- An insertion is an exchange: of one row more, the last leaves, and the new one goes in at its place.
use mathlib.Core.Path.{◌≡◌, sym, ap, ◌∙◌}
use mathlib.Core.List.{List, ◌++◌, append-nil}
use Prim.Native.Nat.{ℕ, suc, ◌+◌, ◌*◌, ◌≤◌}
use native.Mathlib.Omega.{arith}
use lib.ListN.{length, take, drop, drop_of_length-le}
use lib.Seq.{sets, slice, drop-drop}
use Rattle.rules.specs.Records.{Row}
use Rattle.rules.specs.Rows.{without_row, with_rows}
use Rattle.rules.specs.Memory.{row_of, view_rows}
use Rattle.rules.specs.Layout.{head_size, row_size}
use Rattle.memory.specs.Edits.{with_row_count}
use Rattle.memory.proofs.RowBlocks.{without_eq}
use Rattle.memory.proofs.RowLaws.{view_front, view_length}
use Rattle.rows.specs.Insertions.{exchanged, inserted}
use Rattle.rows.proofs.ExchangeLaws.{exchange_view, opened_up}

-- the n rows before the last of n + 1
front_rows : (n : ℕ) (l : List ℕ) → without_row n (view_rows (n + 1) l).rows ≡ (view_rows n l).rows
front_rows n l =
    let rs : List Row = (view_rows (n + 1) l).rows in
    let h : length rs ≤ suc n = omega (arith, view_length (n + 1) l) in
    without_eq n rs ∙ ap (λ (x : List Row). take n rs ++ x) (drop_of_length-le rs h) ∙ append-nil (take n rs) ∙ sym (view_front n 1 l)

exchange_inserted : (n i : ℕ) (r : Row) (l : List ℕ) → with_row_count (n + 1) (exchanged n i r (view_rows (n + 1) l)) ≡ inserted i r (view_rows n l)
unfolding view_rows exchanged inserted with_row_count with_rows
exchange_inserted n i r l =
    let e : head_size + (n + 1) * row_size ≡ head_size + n * row_size + row_size = omega arith in
    rw (front_rows n l, view_length n l, e, drop-drop row_size (head_size + n * row_size) l)

-- rows from i on move up by a row, and c is stored as row i
pub insert_view : (l m c : List ℕ) (n i : ℕ) → i ≤ n → head_size + (n + 1) * row_size ≤ length l → length c ≡ row_size → length m ≡ length l
    → m ≡ take (head_size + i * row_size + row_size) l ++ (slice (head_size + i * row_size) (head_size + n * row_size) l ++ drop (head_size + n * row_size + row_size) l)
    → with_row_count (n + 1) (view_rows (n + 1) (sets m (head_size + i * row_size) c)) ≡ inserted i (row_of c) (view_rows n l)
insert_view l m c n i h k w z e =
    ap (with_row_count (n + 1)) (exchange_view (view_rows (n + 1) l) m c (n + 1) n i (omega arith) (omega arith) w (rw e (opened_up l (n + 1) n i k h (omega arith)))) ∙ exchange_inserted n i (row_of c) l
