-- A state whose numbers and lengths fit is the view of its memory, and a memory is the memory of its view.
use mathlib.Core.Path.{◌≡◌, refl, sym, ap, ◌∙◌}
use Prim.Native.Nat.{ℕ, zero, suc, ◌+◌, ◌*◌, ◌-◌, ◌/◌, ◌≤◌, min}
use native.Mathlib.Omega.{arith}
use mathlib.Core.List.{List, [], ◌∷◌, ◌++◌, append_assoc}
use lib.ListN.{length, take, drop, length-append, length-drop, take-append-drop}
use lib.Seq.{drop_at, drop-drop, length-take-le, take_at}
use Rattle.rules.specs.Cases.{Every}
use Rattle.rules.specs.Records.{Row, State}
use Rattle.rules.specs.Memory.{capacity, cut, entry_bytes, held_rows, le_bytes, le_number, memory, row_bytes, row_of, rows_bytes, rows_of, stamp_bytes, view, view_rows}
use Rattle.rules.specs.Lent.{AddrFits, Bytes, Small}
use Rattle.rules.specs.Layout.{address_size, byte_size, default_ttl_offset, entry_offset, entry_size, head_size, key_offset, max_entries_offset, number_size, place_offset, row_count_offset, row_size, seq_offset, stamp_first_offset, stamp_seq_offset, stored_weight_offset, weight_offset}
use Rattle.rules.proofs.MemoryLaws.{bytes_cut, bytes_drop, bytes_take, field, last_kept, last_number, length_cut, length_le, number, number_kept, part}
use Rattle.rules.proofs.EntryLaws.{EntryFits, entry_length, entry_memory, entry_view}

pub record RowFits (r : Row) : Type 0 where
  pub key : AddrFits r.key
  pub entry : EntryFits r.entry
  pub place : Small byte_size r.place
  pub stamp_first : Small number_size r.stamp_first
  pub stamp_seq : Small number_size r.stamp_seq
  pub weight : Small byte_size r.weight

-- L bytes in all
pub record Fits (L : ℕ) (s : State) : Type 0 where
  pub max_entries : Small number_size s.max_entries
  pub default_ttl : Small number_size s.default_ttl
  pub seq : Small number_size s.seq
  pub stored_weight : Small number_size s.stored_weight
  pub row_count : Small number_size s.row_count
  pub counted : s.row_count ≡ length s.rows
  pub rows : Every RowFits s.rows
  pub rest : Bytes s.rest
  pub size : head_size + length s.rows * row_size + length s.rest ≡ L

-- ---- what is written is read

row_read : (r : Row) (c : List ℕ) → c ≡ row_bytes r → RowFits r → row_of c ≡ r
unfolding row_of row_bytes
row_read r c q h =
    let f0 = field key_offset address_size c r.key.0 _ q h.key.size in
    let f1 = field entry_offset entry_size c (entry_bytes r.entry) _ f0.on (entry_length r.entry h.entry) in
    let f2 = number place_offset byte_size r.place c _ f1.on h.place in
    let f3 = number stamp_first_offset number_size r.stamp_first c _ f2.on h.stamp_first in
    let f4 = number stamp_seq_offset number_size r.stamp_seq c _ f3.on h.stamp_seq in
    let f5 = last_number weight_offset byte_size r.weight c f4.on h.weight in
    let z : row_of c ≡ record { key = record { 0 = r.key.0 }; entry = r.entry; place = r.place; stamp_first = r.stamp_first; stamp_seq = r.stamp_seq; weight = r.weight } = cc (f0.is, entry_view r.entry (cut entry_offset entry_size c) f1.is h.entry, f2.is, f3.is, f4.is, f5) in z

pub row_view : (r : Row) → RowFits r → row_of (row_bytes r) ≡ r
row_view r h = row_read r (row_bytes r) refl h

pub row_length : (r : Row) → RowFits r → length (row_bytes r) ≡ row_size
unfolding row_bytes
row_length r h = simp (length-append, length_le) (omega (arith, h.key.size, entry_length r.entry h.entry))

rows_length : (rs : List Row) → Every RowFits rs → length (rows_bytes rs) ≡ length rs * row_size
unfolding rows_bytes
rows_length [] h = refl
rows_length (r ∷ rs) h = simp length-append (omega (arith, row_length r h.0, rows_length rs h.1))

rows_view : (n : ℕ) (rs : List Row) (t : List ℕ) → length rs ≡ n → Every RowFits rs → rows_of n (rows_bytes rs ++ t) ≡ rs
unfolding rows_of rows_bytes
rows_view zero [] t l h = refl
rows_view zero (r ∷ rs) t l h = absurd (let z : ⊥ = omega arith in z)
rows_view (suc n) [] t l h = absurd (let z : ⊥ = omega arith in z)
rows_view (suc n) (r ∷ rs) t l h =
    let k = row_length r h.0 in
    rw (append_assoc (row_bytes r) (rows_bytes rs) t, take_at (row_bytes r) (rows_bytes rs ++ t) row_size k, drop_at (row_bytes r) (rows_bytes rs ++ t) row_size k) (cc (row_view r h.0, rows_view n rs t (omega arith) h.1))

pub memory_length : (L : ℕ) (s : State) → Fits L s → length (memory s) ≡ L
unfolding memory
memory_length L s h = simp (length-append, length_le) (omega (arith, rows_length s.rows h.rows, h.size))

whole : (s : State) → memory s ≡ le_bytes number_size s.max_entries ++ (le_bytes number_size s.default_ttl ++ (le_bytes number_size s.seq ++ (le_bytes number_size s.stored_weight ++ (le_bytes number_size s.row_count ++ (rows_bytes s.rows ++ s.rest)))))
unfolding memory
whole s = refl

same_state : {s : State} {a b c d e : ℕ} {rs : List Row} {re : List ℕ} → a ≡ s.max_entries → b ≡ s.default_ttl → c ≡ s.seq → d ≡ s.stored_weight → e ≡ s.row_count → rs ≡ s.rows → re ≡ s.rest → record { max_entries = a; default_ttl = b; seq = c; stored_weight = d; row_count = e; rows = rs; rest = re } ≡ s
same_state {s} {a} {b} {c} {d} {e} {rs} {re} p q r t u v w = let z : ◌≡◌ {A = State} (record { max_entries = a; default_ttl = b; seq = c; stored_weight = d; row_count = e; rows = rs; rest = re }) (record { max_entries = s.max_entries; default_ttl = s.default_ttl; seq = s.seq; stored_weight = s.stored_weight; row_count = s.row_count; rows = s.rows; rest = s.rest }) = cc in z

-- A STATE THAT FITS IS THE VIEW OF ITS MEMORY
pub memory_view : (L : ℕ) (s : State) → Fits L s → view (memory s) ≡ s
unfolding view view_rows held_rows capacity
memory_view L s h =
    let c = memory s in
    let n = length s.rows in
    let z = memory_length L s h in
    let f0 = number max_entries_offset number_size s.max_entries c _ (whole s) h.max_entries in
    let f1 = number default_ttl_offset number_size s.default_ttl c _ f0.on h.default_ttl in
    let f2 = number seq_offset number_size s.seq c _ f1.on h.seq in
    let f3 = number stored_weight_offset number_size s.stored_weight c _ f2.on h.stored_weight in
    let f4 = number row_count_offset number_size s.row_count c _ f3.on h.row_count in
    let m : min (le_number (cut row_count_offset number_size c)) ((length c - head_size) / row_size) ≡ n = rw f4.is (omega (arith, h.counted, h.size, z)) in
    let rs : rows_of n (drop head_size c) ≡ s.rows = ap (rows_of n) f4.on ∙ rows_view n s.rows s.rest refl h.rows in
    let re : drop (head_size + n * row_size) c ≡ s.rest = sym (drop-drop (n * row_size) head_size c) ∙ ap (drop (n * row_size)) f4.on ∙ drop_at (rows_bytes s.rows) s.rest (n * row_size) (rows_length s.rows h.rows) in
    rw m (same_state f0.is f1.is f2.is f3.is f4.is rs re)

-- ---- what is read is written back

row_memory : (c : List ℕ) → Bytes c → length c ≡ row_size → row_bytes (row_of c) ≡ c
unfolding row_bytes row_of
row_memory c b h =
    part c b key_offset address_size _ (ap (λ (u : List ℕ). u ++ stamp_bytes (row_of c)) (entry_memory (cut entry_offset entry_size c) (bytes_cut entry_offset entry_size c b) (length_cut entry_offset entry_size c (omega arith)))
    ∙ part c b entry_offset entry_size _ (number_kept c b place_offset byte_size _ (omega arith) (number_kept c b stamp_first_offset number_size _ (omega arith) (number_kept c b stamp_seq_offset number_size _ (omega arith) (last_kept c b weight_offset byte_size h)))))

rows_memory : (n : ℕ) (l : List ℕ) → n * row_size ≤ length l → Bytes l → rows_bytes (rows_of n l) ++ drop (n * row_size) l ≡ l
unfolding rows_of rows_bytes
rows_memory zero l h b = refl
rows_memory (suc n) l h b =
    let e : suc n * row_size ≡ row_size + n * row_size = omega arith in
    let t : length (take row_size l) ≡ row_size = length-take-le row_size l (omega arith) in
    let d : n * row_size ≤ length (drop row_size l) = rw length-drop (omega arith) in
    rw (e, row_memory (take row_size l) (bytes_take row_size l b) t, append_assoc, ← drop-drop (n * row_size) row_size l, rows_memory n (drop row_size l) d (bytes_drop row_size l b)) (take-append-drop row_size l)

pub held_fits : (l : List ℕ) → head_size ≤ length l → head_size + held_rows l * row_size ≤ length l
unfolding held_rows capacity
held_fits l h = omega arith

-- THE STATE SAYS ALL THAT THE MEMORY HOLDS, where the head fits
pub view_memory : (l : List ℕ) → head_size ≤ length l → Bytes l → memory (view l) ≡ l
unfolding view view_rows memory
view_memory l h b =
    let n = held_rows l in
    let f = held_fits l h in
    let d : n * row_size ≤ length (drop head_size l) = rw length-drop (omega arith) in
    let r : rows_bytes (rows_of n (drop head_size l)) ++ drop (head_size + n * row_size) l ≡ drop head_size l = rw (← drop-drop (n * row_size) head_size l) (rows_memory n (drop head_size l) d (bytes_drop head_size l b)) in
    number_kept l b max_entries_offset number_size _ (omega arith) (number_kept l b default_ttl_offset number_size _ (omega arith) (number_kept l b seq_offset number_size _ (omega arith) (number_kept l b stored_weight_offset number_size _ (omega arith) (number_kept l b row_count_offset number_size _ (omega arith) r))))
