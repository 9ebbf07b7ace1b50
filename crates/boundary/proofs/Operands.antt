-- Paths from bytes, and the bytes of the row that a removal takes out.
use mathlib.Core.Path.{◌≡◌, sym, ap, ◌∙◌, subst}
use Prim.Native.Nat.{ℕ, ◌+◌, ◌*◌, ◌-◌, ◌/◌, ◌≤◌, ◌<◌, min}
use native.Mathlib.Omega.{arith}
use mathlib.Core.List.{List, ◌++◌}
use Rattle.std.specs.Prelude.{Option, None, Some, Result, Ok, Err}
use mathlib.Core.Bool.{true, false}
use lib.ListN.{length, take, drop, get_or, set, replicate, length-set}
use lib.Seq.{take_all}
use Rattle.std.proofs.lemmas.List.{drop-replicate}
use Rattle.types.specs.declared.node_addr.NodeAddr.{NodeAddr}
use Rattle.types.specs.declared.coord.CoordEntry.{CoordEntry}
use Rattle.types.specs.Paths.{zero_entry, path_places}
use Rattle.rules.specs.Records.{State}
use Rattle.rules.specs.Rows.{find}
use Rattle.rules.specs.Sound.{sound}
use Rattle.rules.specs.Memory.{coord_entries_of, coord_entry_of, cut, capacity, view, view_rows}
use Rattle.rules.proofs.Public.{sound_memory}
use Rattle.search.specs.ByKey.{searched}
use Rattle.refusals.proofs.SoundCalls.{found_inside, found, missing}
use Rattle.rules.specs.Layout.{coord_entry_size, head_size, row_size}
use Rattle.raw.proofs.CopyLaws.{stored}
use Rattle.rules.proofs.MemoryLaws.{elements_of_length}
use Rattle.entries.proofs.PathElements.{entries_at}
use Rattle.boundary.specs.Exported.{path_from, row_held, row_taken}

-- ---- a path

-- k of the elements that are held have been copied over the zeros
pub record Copied (bs : List ℕ) (held k : ℕ) (entries : List CoordEntry) : Type 0 where
  pub within : k ≤ held
  pub part : entries ≡ take k (coord_entries_of held bs) ++ drop k (replicate path_places zero_entry)
  pub places : length entries ≡ path_places

-- one more
pub copied_more : {bs : List ℕ} {held k : ℕ} {entries : List CoordEntry} {v : CoordEntry} → Copied bs held k entries → k < held → held ≤ path_places
    → v ≡ coord_entry_of (cut (k * coord_entry_size) coord_entry_size bs) → Copied bs held (k + 1) (set entries k v)
copied_more {bs} {held} {k} {entries} {v} i h p e =
    let loaded : v ≡ get_or (coord_entries_of held bs) k zero_entry = e ∙ sym (entries_at held k bs zero_entry h) in
    let here : k < length (coord_entries_of held bs) = omega (arith, elements_of_length held bs) in
    record {
      within = omega arith;
      part = stored (coord_entries_of held bs) (replicate path_places zero_entry) entries k v zero_entry i.part loaded here (omega arith);
      places = simp length-set i.places;
    }

-- all of them
pub path_made : {bs : List ℕ} {n held k : ℕ} {entries : List CoordEntry} → Copied bs held k entries
    → n ≡ length bs / coord_entry_size → held ≡ min n path_places → k ≡ held → record { entries = entries; len = n } ≡ path_from bs
unfolding path_from
path_made {bs} {n} {held} {k} {entries} i e h g =
    let a : take k (coord_entries_of held bs) ≡ coord_entries_of held bs = take_all k (coord_entries_of held bs) (omega (arith, elements_of_length held bs)) in
    let b : drop k (replicate path_places zero_entry) ≡ replicate (path_places - held) zero_entry =
    drop-replicate k path_places zero_entry ∙ ap (λ (j : ℕ). replicate (path_places - j) zero_entry) g in
    let c : entries ≡ coord_entries_of held bs ++ replicate (path_places - held) zero_entry = i.part ∙ cc (a, b) in
    let d : held ≡ min (length bs / coord_entry_size) path_places = h ∙ ap (λ (j : ℕ). min j path_places) e in
    cc (e, c)

-- ---- the row of a key

-- the key was searched for among the n rows of a sound memory
pub record Searched (k : NodeAddr) (n : ℕ) (r : Result ℕ ℕ) (l : List ℕ) : Type 0 where
  pub sound : sound (capacity l) (view l) ≡ true
  pub counted : n ≡ (view_rows 0 l).row_count
  pub result : r ≡ searched k (view_rows n l).rows

module _ {k : NodeAddr} {n : ℕ} {r : Result ℕ ℕ} {l : List ℕ} (s : Searched k n r l) (i : ℕ) where
  same_rows : (o : Option ℕ) → find k (view_rows n l).rows ≡ o → find k (view l).rows ≡ o
  same_rows o f = subst (λ (x : State). find k x.rows ≡ o) (sound_memory l n s.sound s.counted).same f

  pub row_inside : r ≡ Ok i → (i < n) × (head_size + n * row_size ≤ length l)
  row_inside e = found_inside l n k i r s.sound s.counted s.result e

  pub row_taken_lem : (buffer : List ℕ) → r ≡ Ok i → cut (head_size + i * row_size) row_size l ≡ row_taken k l buffer
  unfolding row_taken row_held
  row_taken_lem buffer e = rw (s.sound, same_rows (Some i) (found k (view_rows n l).rows i r s.result e))

  pub row_left : (buffer : List ℕ) → r ≡ Err i → buffer ≡ row_taken k l buffer
  unfolding row_taken row_held
  row_left buffer e = rw (s.sound, same_rows None (missing k (view_rows n l).rows i r s.result e))

-- on a memory that is not sound nothing is taken out
pub none_taken : (l : List ℕ) (k : NodeAddr) (buffer : List ℕ) → sound (capacity l) (view l) ≡ false → buffer ≡ row_taken k l buffer
unfolding row_taken row_held
none_taken l k buffer h = rw h
