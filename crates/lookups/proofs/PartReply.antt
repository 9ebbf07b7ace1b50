-- A lookup's reply is read off the part that it hands back.
use mathlib.Core.Path.{◌≡◌, refl, sym, ◌∙◌, ap, subst}
use Prim.Native.Nat.{ℕ, ◌+◌, ◌*◌, ◌/◌, ◌≤◌, ◌<◌}
use native.Mathlib.Omega.{arith}
use mathlib.Core.List.{List, []}
use Rattle.std.specs.Prelude.{Option, None, Some}
use mathlib.Core.Bool.{true}
use lib.ListN.{length}
use borrow.Author.Tests.{ne_eqb}
use Rattle.types.specs.declared.node_addr.NodeAddr.{NodeAddr}
use Rattle.types.specs.Paths.{elements, path_places}
use Rattle.types.specs.Values.{says}
use Rattle.rules.specs.Cases.{maybe}
use Rattle.rules.specs.Records.{State}
use Rattle.rules.specs.Rows.{row_at, find}
use Rattle.rules.specs.Entries.{expired}
use Rattle.rules.specs.Sound.{sound}
use Rattle.rules.specs.Lookups.{unexpired_row, get}
use Rattle.rules.specs.Calls.{Get, PathFound, path_given, verified_write, draws_stamps}
use Rattle.rules.specs.Refusals.{gives, perform, perform_request, serve}
use Rattle.rules.specs.Memory.{capacity, view, view_rows}
use Rattle.rules.specs.Lent.{lent, call, path_part, found_part, got_part}
use Rattle.rules.specs.Commands.{reply}
use Rattle.rules.proofs.Addresses.{contradiction}
use Rattle.rules.proofs.RowLists.{by_maybe, by_cond, every_at, find_at}
use Rattle.rules.proofs.MemoryLaws.{length_cut}
use Rattle.rules.proofs.SoundTest.{RowOk}
use Rattle.rules.proofs.Public.{SoundMemory, sound_memory}
use Rattle.rules.specs.Layout.{coord_entry_size, head_size, places_in_row, row_size}
use Rattle.refusals.proofs.SoundCalls.{not_refused}
use Rattle.memory.proofs.Fields.{row_at_lem}
use Rattle.entries.proofs.PathElements.{elements_length}
use Rattle.replies.specs.Part.{part_reply}

-- ---- get: found, and the length, from the part that it hands back

found_reply : (n : ℕ) → 1 ≤ n → part_reply (n * coord_entry_size) ≡ says 1 n 0 0 0
unfolding part_reply
found_reply n h = rw (ne_eqb (n * coord_entry_size) 0 (λ e. let z : ⊥ = omega arith in z)) (ap (λ (x : ℕ). says 1 x 0 0 0) (let z : n * coord_entry_size / coord_entry_size ≡ n = omega arith in z))

-- row i's stored path, as long as its length says
record PartOf (l : List ℕ) (s : State) (i : ℕ) : Type 0 where
  bytes : length (path_part i (row_at i s.rows).entry.path.len l) ≡ (row_at i s.rows).entry.path.len * coord_entry_size
  count : length (elements (row_at i s.rows).entry.path) ≡ (row_at i s.rows).entry.path.len
  long : 1 ≤ (row_at i s.rows).entry.path.len

part_of : (l : List ℕ) (n i : ℕ) → SoundMemory l n → i < n → PartOf l (view l) i
unfolding path_part
part_of l n i s h =
    let ok = every_at (RowOk (view_rows n l).seq) i (view_rows n l).rows (omega (arith, s.rows)) s.sound.each in
    let k : (row_at i (view_rows n l).rows).entry.path.len ≤ path_places = ok.short in
    subst (λ (x : State). PartOf l x i) s.same (record {
      bytes = length_cut (head_size + i * row_size + places_in_row) ((row_at i (view_rows n l).rows).entry.path.len * coord_entry_size) l (omega (arith, s.long, k));
      count = elements_length _ _ (sym (row_at_lem n i l h)) k;
      long = ok.long;
    })

inside : (k : NodeAddr) (time : ℕ) (s : State) (i : ℕ) → unexpired_row k time s ≡ Some i → i < length s.rows
unfolding unexpired_row
inside k time s i = by_maybe P (find k s.rows) (λ e g. contradiction {b = true} refl (cc))
    (λ j e. by_cond P (expired time (row_at j s.rows).entry) (λ x g. contradiction {b = true} refl (cc))
    (λ x g. let z : j ≡ i = cc in subst (λ (n : ℕ). n < length s.rows) z (find_at k s.rows j e).inside))
  where
    P : Option ℕ → Type 0
    P o = o ≡ Some i → i < length s.rows

pub got_reply : (l : List ℕ) (k : NodeAddr) (time : ℕ) → sound (capacity l) (view l) ≡ true → part_reply (length (got_part k time l)) ≡ reply (call l (Get k time)).answer
unfolding got_part found_part lent serve perform_request perform get gives reply part_reply path_given verified_write draws_stamps
got_reply l k time h = rw (not_refused l (Get k time) h refl refl refl) (go (unexpired_row k time (view l)) refl)
  where
    go : (o : Option ℕ) → unexpired_row k time (view l) ≡ o → part_reply (length (maybe o [] (λ i. path_part i (row_at i (view l).rows).entry.path.len l)))
        ≡ reply (PathFound (maybe o None (λ i. Some (elements (row_at i (view l).rows).entry.path))))
    go None e = refl
    go (Some i) e =
        let s = sound_memory l (view_rows 0 l).row_count h refl in
        let j = subst (λ (n : ℕ). i < n) (ap (λ (x : State). length x.rows) (sym s.same) ∙ s.rows) (inside k time (view l) i e) in
        let p = part_of l (view_rows 0 l).row_count i s j in
        ap part_reply p.bytes ∙ found_reply (row_at i (view l).rows).entry.path.len p.long ∙ ap (λ (x : ℕ). says 1 x 0 0 0) (sym p.count)
