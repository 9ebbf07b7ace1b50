-- A row's bytes: what they are put together of.
use mathlib.Core.Path.{◌≡◌, ap, ◌∙◌}
use mathlib.Core.List.{List, ◌++◌, append_assoc, append-nil}
use Prim.Native.Nat.{ℕ, ◌+◌, ◌≤◌}
use native.Mathlib.Omega.{arith}
use lib.ListN.{length-append}
use lib.Seq.{sets}
use Rattle.types.specs.Paths.{as_written, path_places}
use Rattle.rules.specs.Records.{empty_entry, with_mtu, with_source, with_times}
use Rattle.rules.specs.Memory.{entry_bytes, le_bytes, marks_bytes, path_bytes, row_bytes, times_bytes}
use Rattle.rules.specs.Lent.{Small, AddrFits, PathFits}
use Rattle.rules.specs.Layout.{byte_size, created_at_in_row, entry_offset, mtu_mark_in_row, mtu_size, number_size, place_offset}
use Rattle.rules.proofs.MemoryLaws.{length_le}
use Rattle.rules.proofs.EntryLaws.{empty_fits, mtu_fits, path_fits, path_length, source_fits, times_fit, written_fits}
use Rattle.rules.proofs.ViewLaws.{RowFits}
use Rattle.rows.specs.declared.row.NewRow.{NewRow}
use Rattle.rows.specs.Insertions.{row_from}
use Rattle.memory.proofs.StoreRuns.{five}

-- how parts are put together
pub ruleset joined = (append_assoc, append-nil)

-- the groups as they are written
abbrev times : NewRow → List ℕ
times r = times_bytes (with_times r.last_used r.expires_at (empty_entry r.created_at))

abbrev marks : NewRow → List ℕ
marks r = marks_bytes (with_source r.source r.verified_until (with_mtu r.mtu_mark r.mtu (empty_entry 0)))

abbrev stamp : NewRow → List ℕ
stamp r = le_bytes byte_size r.place ++ (le_bytes number_size r.stamp_first ++ (le_bytes number_size r.stamp_seq ++ le_bytes byte_size r.weight))

row_parts : (r : NewRow) → r.key.0 ++ (path_bytes (as_written r.path) ++ (times r ++ (marks r ++ stamp r))) ≡ row_bytes (row_from r)
unfolding row_bytes entry_bytes row_from
row_parts r = simp append_assoc

-- stored one behind the other
pub row_stored : (l : List ℕ) (at : ℕ) (r : NewRow) → AddrFits r.key → PathFits r.path → r.path.len ≤ path_places
    → sets (sets (sets (sets (sets l at r.key.0) (at + entry_offset) (path_bytes (as_written r.path))) (at + created_at_in_row) (times r)) (at + mtu_mark_in_row) (marks r)) (at + place_offset) (stamp r) ≡ sets l at (row_bytes (row_from r))
row_stored l at r k p h =
    five l r.key.0 (path_bytes (as_written r.path)) (times r) (marks r) (stamp r) at entry_offset created_at_in_row mtu_mark_in_row place_offset k.size
    (omega (arith, path_length (as_written r.path) (written_fits r.path p h))) (simp (length-append, length_le)) (simp (length-append, length_le))
    ∙ ap (sets l at) (row_parts r)

pub new_row_fits : (r : NewRow) → AddrFits r.key → PathFits r.path → r.path.len ≤ path_places → Small number_size r.created_at × Small number_size r.last_used × Small number_size r.expires_at
    → Small byte_size r.mtu_mark × Small mtu_size r.mtu × Small byte_size r.source × Small number_size r.verified_until → Small byte_size r.place × Small number_size r.stamp_first × Small number_size r.stamp_seq × Small byte_size r.weight → RowFits (row_from r)
unfolding row_from
new_row_fits r k p h t m s =
    record {
      key = k;
      entry = source_fits _ _ _ m.2 m.3 (mtu_fits _ _ _ m.0 m.1 (times_fit _ _ _ t.1 t.2 (path_fits r.path _ p h (empty_fits _ t.0))));
      place = s.0;
      stamp_first = s.1;
      stamp_seq = s.2;
      weight = s.3;
    }
