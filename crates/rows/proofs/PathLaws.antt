-- A path's bytes: what the stores of one make, and what they are read as.
use mathlib.Core.Path.{◌≡◌, refl, sym, ap, ◌∙◌}
use mathlib.Core.List.{List, [], ◌∷◌, ◌++◌, append_assoc}
use Prim.Native.Nat.{ℕ, zero, suc, ◌+◌, ◌*◌, ◌-◌, ◌≤◌, ◌<◌}
use native.Mathlib.Omega.{arith}
use native.Mathlib.Numerals.{add-one}
use lib.ListN.{length, take, get_or, replicate, replicate-append-replicate}
use lib.Seq.{sets, take-suc, length-take-le}
use Rattle.types.specs.declared.coord.CoordEntry.{CoordEntry}
use Rattle.types.specs.declared.coord.Path.{Path}
use Rattle.types.specs.Paths.{zero_entry, elements, as_written, path_places}
use Rattle.types.proofs.PathLaws.{no_entry}
use Rattle.rules.specs.Records.{with_path}
use Rattle.rules.specs.Lookups.{rewrite}
use Rattle.rules.specs.Memory.{le_bytes, coord_entries_bytes, path_bytes, view_rows}
use Rattle.rules.specs.Lent.{CoordEntryFits, PathFits}
use Rattle.rules.proofs.RowLists.{every_take}
use Rattle.rules.proofs.MemoryLaws.{length_le, elements_length}
use Rattle.rules.proofs.EntryLaws.{path_length, path_read, written_fits}
use Rattle.rules.specs.Layout.{byte_size, coord_entry_size, entry_offset, head_size, length_offset, path_size, places_offset, row_size}
use Rattle.memory.proofs.Fields.{group_store}
use Rattle.memory.proofs.StoreRuns.{behind, three}

-- ---- the bytes of elements

entries_append : (xs ys : List CoordEntry) → coord_entries_bytes (xs ++ ys) ≡ coord_entries_bytes xs ++ coord_entries_bytes ys
unfolding coord_entries_bytes
entries_append [] ys = refl
entries_append (x ∷ xs) ys = rw (entries_append xs ys) (simp append_assoc)

entries_zero : (k : ℕ) → coord_entries_bytes (replicate k zero_entry) ≡ replicate (k * coord_entry_size) 0
unfolding coord_entries_bytes zero_entry le_bytes
entries_zero zero = refl
entries_zero (suc k) =
    let e : suc k * coord_entry_size ≡ coord_entry_size + k * coord_entry_size = omega arith in
    rw (entries_zero k, e) (replicate-append-replicate {A = ℕ} coord_entry_size (k * coord_entry_size) 0)

-- ---- the stores of a path

front_length : (p : Path) (i : ℕ) → PathFits p → i ≤ path_places → length (coord_entries_bytes (take i p.entries)) ≡ i * coord_entry_size
front_length p i f h =
    let n = f.places in
    elements_length (take i p.entries) (every_take CoordEntryFits i p.entries f.each) ∙ ap (λ (x : ℕ). x * coord_entry_size) (length-take-le i p.entries (omega arith))

-- a turn of the loop
pub entries_turn : (l s t : List ℕ) (at i : ℕ) (p : Path) → PathFits p → i < p.len → p.len ≤ path_places → s ≡ sets l at (coord_entries_bytes (take i p.entries))
    → t ≡ sets s (at + i * coord_entry_size) (coord_entries_bytes (get_or p.entries i no_entry ∷ [])) → t ≡ sets l at (coord_entries_bytes (take (i + 1) p.entries))
entries_turn l s t at i p f h k e g =
    let es = p.entries in
    let n = f.places in
    let b : i < length es = omega arith in
    let q : take (i + 1) es ≡ take i es ++ (get_or es i no_entry ∷ []) = rw add-one (take-suc es i no_entry b) in
    g ∙ ap (λ (x : List ℕ). sets x (at + i * coord_entry_size) (coord_entries_bytes (get_or es i no_entry ∷ []))) e
    ∙ behind l (coord_entries_bytes (take i es)) (coord_entries_bytes (get_or es i no_entry ∷ [])) at (i * coord_entry_size) (front_length p i f (omega arith))
    ∙ ap (sets l at) (sym (ap coord_entries_bytes q ∙ entries_append (take i es) (get_or es i no_entry ∷ [])))

-- the length, the elements, and zeros past them are the path's bytes
pub path_stored : (l : List ℕ) (at : ℕ) (p : Path) → PathFits p → p.len ≤ path_places
    → sets (sets (sets l at (le_bytes byte_size p.len)) (at + places_offset) (coord_entries_bytes (take p.len p.entries))) (at + places_offset + p.len * coord_entry_size) (replicate (at + path_size - (at + places_offset + p.len * coord_entry_size)) 0)
    ≡ sets l at (path_bytes (as_written p))
unfolding as_written elements
path_stored l at p f h =
    let n = p.len in
    let es = take n p.entries in
    let a : at + places_offset + n * coord_entry_size ≡ at + (places_offset + n * coord_entry_size) = omega arith in
    let z : at + path_size - (at + (places_offset + n * coord_entry_size)) ≡ (path_places - n) * coord_entry_size = omega arith in
    rw (a, z, ← entries_zero (path_places - n), entries_append es (replicate (path_places - n) zero_entry))
    (three l (le_bytes byte_size n) (coord_entries_bytes es) (coord_entries_bytes (replicate (path_places - n) zero_entry)) at places_offset (places_offset + n * coord_entry_size) (length_le byte_size n) (omega (arith, front_length p n f h)))

-- ---- what a path's bytes are read as

pub path_view : (l : List ℕ) (n i : ℕ) (p : Path) → PathFits p → p.len ≤ path_places → i < n → head_size + n * row_size ≤ length l
    → view_rows n (sets l (head_size + i * row_size + entry_offset) (path_bytes (as_written p))) ≡ rewrite (with_path p) i (view_rows n l)
path_view l n i p f h g k =
    let w = path_length (as_written p) (written_fits p f h) in
    group_store (with_path p) length_offset (path_bytes (as_written p)) (omega arith) (λ c d. path_read c d p f h) n i l g k
