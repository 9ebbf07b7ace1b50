-- The loop has copied the places before `place`.
use mathlib.Core.Path.{sym, ◌∙◌}
use native.Mathlib.Omega.{arith}
use lib.ListN.{length-set}
use Rattle.raw.proofs.CopyLaws.{stored}
use Rattle.entries.proofs.PathElements.{places_length, place_at}
use Rattle.entries.proofs.path.load_path.Goals as goal

pub loop-place-preserved : goal.loop-place-preserved
loop-place-preserved c =
    let h = c.bytes-bytes.ensures.row in
    let n = places_length _ _ h in
    let v = c.loop-place.invariant in
    (v.0, stored c.args.row.now.entry.path.entries _ c.loop-place.entries c.loop-place.place c.load_coord_entry.result c.load_coord_entry.result v.1 (c.load_coord_entry.ensures ∙ sym (place_at _ _ h c.loop-place.place _ (omega arith))) (omega arith) (omega arith), simp length-set v.2)
