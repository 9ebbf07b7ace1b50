-- Any memory of bytes that holds a head: its view fits; and the memory of a state that fits is bytes.
use mathlib.Core.Path.{◌≡◌, refl, sym, ap, ◌∙◌}
use Prim.Native.Nat.{ℕ, zero, suc, ◌+◌, ◌*◌, ◌≤◌, ◌<◌}
use native.Mathlib.Omega.{arith}
use mathlib.Core.List.{List, [], ◌∷◌}
use lib.ListN.{length, take, drop, length-drop}
use lib.Seq.{drop-drop, length-take-le}
use Rattle.rules.specs.Cases.{Every}
use Rattle.rules.specs.Records.{Row, State}
use Rattle.rules.specs.Rows.{row_at}
use Rattle.rules.specs.Memory.{cut, entry_bytes, held_rows, memory, row_bytes, row_of, rows_bytes, rows_of, view, view_rows}
use Rattle.rules.specs.Lent.{Bytes}
use Rattle.rules.specs.Layout.{byte_size, default_ttl_offset, entry_offset, entry_size, head_size, key_offset, max_entries_offset, number_size, place_offset, row_count_offset, row_size, seq_offset, stamp_first_offset, stamp_seq_offset, stored_weight_offset, weight_offset}
use Rattle.rules.proofs.MemoryLaws.{address_fits, bytes_append, bytes_cut, bytes_drop, bytes_take, cut_small, le_bytes_lem, length_cut, number_then}
use Rattle.rules.proofs.EntryLaws.{entry_bytes_lem, entry_fits_of}
use Rattle.rules.proofs.ViewLaws.{Fits, RowFits, held_fits}

-- ---- a memory's view fits

row_fits_of : (c : List ℕ) → length c ≡ row_size → Bytes c → RowFits (row_of c)
unfolding row_of
row_fits_of c h b =
    record {
      key = address_fits key_offset c (omega arith) b;
      entry = entry_fits_of (cut entry_offset entry_size c) (length_cut entry_offset entry_size c (omega arith)) (bytes_cut entry_offset entry_size c b);
      place = cut_small place_offset byte_size c (omega arith) b;
      stamp_first = cut_small stamp_first_offset number_size c (omega arith) b;
      stamp_seq = cut_small stamp_seq_offset number_size c (omega arith) b;
      weight = cut_small weight_offset byte_size c (omega arith) b;
    }

rows_of_fit : (n : ℕ) (l : List ℕ) → n * row_size ≤ length l → Bytes l → Every RowFits (rows_of n l)
unfolding rows_of
rows_of_fit zero l h b = tt
rows_of_fit (suc n) l h b =
    let d : n * row_size ≤ length (drop row_size l) = rw length-drop (omega arith) in
    (row_fits_of (take row_size l) (length-take-le row_size l (omega arith)) (bytes_take row_size l b), rows_of_fit n (drop row_size l) d (bytes_drop row_size l b))

pub rows_of_length : (n : ℕ) (l : List ℕ) → length (rows_of n l) ≡ n
unfolding rows_of
rows_of_length zero l = refl
rows_of_length (suc n) l = ap suc (rows_of_length n (drop row_size l))

-- row i of n rows
pub row_of_rows : (n i : ℕ) (l : List ℕ) → i < n → row_at i (rows_of n l) ≡ row_of (cut (i * row_size) row_size l)
unfolding rows_of
row_of_rows zero i l h = absurd (let z : ⊥ = omega arith in z)
row_of_rows (suc n) zero l h = refl
row_of_rows (suc n) (suc i) l h =
    let e : suc i * row_size ≡ row_size + i * row_size = omega arith in
    row_of_rows n i (drop row_size l) (omega arith) ∙ ap (λ (c : List ℕ). row_of (take row_size c)) (drop-drop (i * row_size) row_size l ∙ ap (λ (k : ℕ). drop k l) (sym e))

pub view_length : (n : ℕ) (l : List ℕ) → length (view_rows n l).rows ≡ n
unfolding view_rows
view_length n l = rows_of_length n (drop head_size l)

-- ANY MEMORY'S VIEW FITS, where the head fits and counts the rows
pub view_fits : (l : List ℕ) → head_size ≤ length l → Bytes l → (view l).row_count ≡ length (view l).rows → Fits (length l) (view l)
unfolding view view_rows
view_fits l h b c =
    let n = held_rows l in
    let f = held_fits l h in
    let d : n * row_size ≤ length (drop head_size l) = rw length-drop (omega arith) in
    record {
      max_entries = cut_small max_entries_offset number_size l (omega arith) b;
      default_ttl = cut_small default_ttl_offset number_size l (omega arith) b;
      seq = cut_small seq_offset number_size l (omega arith) b;
      stored_weight = cut_small stored_weight_offset number_size l (omega arith) b;
      row_count = cut_small row_count_offset number_size l (omega arith) b;
      counted = c;
      rows = rows_of_fit n (drop head_size l) d (bytes_drop head_size l b);
      rest = bytes_drop (head_size + n * row_size) l b;
      size = rw (length-drop (head_size + n * row_size) l, rows_of_length n (drop head_size l)) (omega arith);
    }

-- ---- the memory of a state that fits is bytes

row_bytes_lem : (r : Row) → RowFits r → Bytes (row_bytes r)
unfolding row_bytes
row_bytes_lem r h = bytes_append r.key.0 _ h.key.bytes (bytes_append (entry_bytes r.entry) _ (entry_bytes_lem r.entry h.entry) (number_then byte_size r.place _ (number_then number_size r.stamp_first _ (number_then number_size r.stamp_seq _ (le_bytes_lem byte_size r.weight)))))

rows_bytes_lem : (rs : List Row) → Every RowFits rs → Bytes (rows_bytes rs)
unfolding rows_bytes
rows_bytes_lem [] h = tt
rows_bytes_lem (r ∷ rs) h = bytes_append (row_bytes r) (rows_bytes rs) (row_bytes_lem r h.0) (rows_bytes_lem rs h.1)

pub memory_bytes : (L : ℕ) (s : State) → Fits L s → Bytes (memory s)
unfolding memory
memory_bytes L s h = number_then number_size s.max_entries _ (number_then number_size s.default_ttl _ (number_then number_size s.seq _ (number_then number_size s.stored_weight _ (number_then number_size s.row_count _ (bytes_append (rows_bytes s.rows) s.rest (rows_bytes_lem s.rows h.rows) h.rest)))))
