-- The path of a row: its places in the row's bytes, and its elements.
use mathlib.Core.Path.{◌≡◌, refl, ap, ◌∙◌}
use mathlib.Core.Bool.{true, false, ◌&&◌, ◌||◌}
use mathlib.Core.List.{List}
use Prim.Native.Nat.{ℕ, zero, suc, ◌+◌, ◌*◌, ◌-◌, ◌≤◌, ◌<◌, min}
use native.Mathlib.Nat.{le_of_suc-le-suc, not-suc-le-zero}
use native.Mathlib.Omega.{arith}
use lib.ListN.{length, take, drop, get_or, length-take}
use lib.Seq.{drop-drop}
use Rattle.types.specs.declared.node_addr.NodeAddr.{NodeAddr}
use Rattle.types.specs.declared.coord.CoordEntry.{CoordEntry}
use Rattle.types.specs.declared.coord.Path.{Path}
use Rattle.types.specs.Addresses.{same_addr}
use Rattle.types.specs.Paths.{elements, same_entry, same_entries, among, root_of, path_places}
use Rattle.types.proofs.PathLaws.{entry_at, entries_turn, among_turn, last_element}
use Rattle.rules.specs.Records.{Row}
use Rattle.rules.specs.Memory.{cut, coord_entry_of, coord_entries_of, path_of, entry_of, row_of}
use Rattle.rules.specs.Layout.{address_size, coord_entry_size, entry_offset, entry_size, places_in_row, places_offset}
use Rattle.rules.proofs.MemoryLaws.{elements_of_length}
use Rattle.raw.proofs.StoreLaws.{cut_cut}
use Rattle.entries.proofs.Bytes.{element_addr}

pub entries_at : (n k : ℕ) (l : List ℕ) (d : CoordEntry) → k < n → get_or (coord_entries_of n l) k d ≡ coord_entry_of (cut (k * coord_entry_size) coord_entry_size l)
unfolding coord_entries_of
entries_at zero k l d h = absurd (not-suc-le-zero h)
entries_at (suc n) zero l d h = refl
entries_at (suc n) (suc k) l d h =
    let e : coord_entry_size + k * coord_entry_size ≡ suc k * coord_entry_size = omega arith in
    entries_at n k (drop coord_entry_size l) d (le_of_suc-le-suc h) ∙ ap (λ (m : List ℕ). coord_entry_of (take coord_entry_size m)) (drop-drop (k * coord_entry_size) coord_entry_size l ∙ ap (λ (j : ℕ). drop j l) e)

-- of a row's bytes
row_places : (c : List ℕ) → length (row_of c).entry.path.entries ≡ path_places
unfolding row_of entry_of path_of
row_places c = elements_of_length path_places (drop places_offset (cut entry_offset entry_size c))

row_place : (c : List ℕ) (k : ℕ) (d : CoordEntry) → k < path_places → get_or (row_of c).entry.path.entries k d ≡ coord_entry_of (cut (places_in_row + k * coord_entry_size) coord_entry_size c)
unfolding row_of entry_of path_of
row_place c k d h =
    let e : entry_offset + (places_offset + k * coord_entry_size) ≡ places_in_row + k * coord_entry_size = omega arith in
    entries_at path_places k (drop places_offset (cut entry_offset entry_size c)) d h
    ∙ ap coord_entry_of (ap (take coord_entry_size) (drop-drop (k * coord_entry_size) places_offset (cut entry_offset entry_size c)) ∙ cut_cut entry_offset entry_size (places_offset + k * coord_entry_size) coord_entry_size c (omega arith) ∙ ap (λ (j : ℕ). cut j coord_entry_size c) e)

module _ (c : List ℕ) (r : Row) (h : row_of c ≡ r) where
  pub places_length : length r.entry.path.entries ≡ path_places
  places_length = rw (← h) (row_places c)

  pub place_at : (k : ℕ) (d : CoordEntry) → k < path_places → get_or r.entry.path.entries k d ≡ coord_entry_of (cut (places_in_row + k * coord_entry_size) coord_entry_size c)
  place_at k d g = rw (← h) (row_place c k d g)

  place_addr : (k : ℕ) → k < path_places → (entry_at r.entry.path k).node_addr ≡ record { 0 = cut (places_in_row + k * coord_entry_size) address_size c }
  place_addr k g = ap (λ (x : CoordEntry). x.node_addr) (place_at k _ g) ∙ element_addr (places_in_row + k * coord_entry_size) c

  pub elements_count : length (elements r.entry.path) ≡ min r.entry.path.len path_places
  unfolding elements
  elements_count = length-take r.entry.path.len r.entry.path.entries ∙ ap (min r.entry.path.len) places_length

  pub elements_length : r.entry.path.len ≤ path_places → length (elements r.entry.path) ≡ r.entry.path.len
  elements_length g = elements_count ∙ omega arith

  -- a turn of the comparison with another path
  pub path_turn : (q : Path) (k : ℕ) → k < path_places → k < length (elements r.entry.path) → k < length (elements q)
      → same_entries (drop k (elements r.entry.path)) (drop k (elements q)) ≡ (same_entry (coord_entry_of (cut (places_in_row + k * coord_entry_size) coord_entry_size c)) (entry_at q k) && same_entries (drop (k + 1) (elements r.entry.path)) (drop (k + 1) (elements q)))
  path_turn q k g hp hq =
      entries_turn r.entry.path q k hp hq
      ∙ ap (λ (x : CoordEntry). same_entry x (entry_at q k) && same_entries (drop (k + 1) (elements r.entry.path)) (drop (k + 1) (elements q))) (place_at k _ g)

  -- a turn of the search for an address
  search_turn : (a : NodeAddr) (k : ℕ) → r.entry.path.len ≤ path_places → k < r.entry.path.len
      → among a (drop k (elements r.entry.path)) ≡ (same_addr a (record { 0 = cut (places_in_row + k * coord_entry_size) address_size c }) || among a (drop (k + 1) (elements r.entry.path)))
  search_turn a k g b =
      among_turn a r.entry.path k (omega (arith, elements_length g))
      ∙ ap (λ (x : NodeAddr). same_addr a x || among a (drop (k + 1) (elements r.entry.path))) (place_addr k (omega arith))

  pub search_hit : (a : NodeAddr) (k : ℕ) → r.entry.path.len ≤ path_places → k < r.entry.path.len
      → same_addr a (record { 0 = cut (places_in_row + k * coord_entry_size) address_size c }) ≡ true → among a (drop k (elements r.entry.path)) ≡ true
  search_hit a k g b e = search_turn a k g b ∙ rw e

  pub search_miss : (a : NodeAddr) (k : ℕ) → r.entry.path.len ≤ path_places → k < r.entry.path.len
      → same_addr a (record { 0 = cut (places_in_row + k * coord_entry_size) address_size c }) ≡ false → among a (drop k (elements r.entry.path)) ≡ among a (drop (k + 1) (elements r.entry.path))
  search_miss a k g b e = search_turn a k g b ∙ rw e

  -- the root stands in the last place up to the length
  pub root_place : r.entry.path.len ≤ path_places → 1 ≤ r.entry.path.len
      → root_of r.entry.path ≡ record { 0 = cut (places_in_row + (r.entry.path.len - 1) * coord_entry_size) address_size c }
  unfolding root_of
  root_place g b =
      last_element _ r.entry.path (λ e. omega (arith, elements_length g))
      ∙ ap (λ (k : ℕ). (entry_at r.entry.path (k - 1)).node_addr) (elements_length g)
      ∙ place_addr (r.entry.path.len - 1) (omega arith)
