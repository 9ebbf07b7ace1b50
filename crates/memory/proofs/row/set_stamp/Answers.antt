-- Three numbers stored one after the other are three changes of row i, and so one change of its place and stamp.
use mathlib.Core.Path.{refl}
use mathlib.Core.List.{[], ◌∷◌}
use Rattle.rules.specs.Layout.{byte_size, number_size, place_offset, stamp_first_offset, stamp_seq_offset}
use Rattle.memory.specs.Edits.{stamped_as}
use Rattle.memory.proofs.Fields.{field_store, with_number}
use Rattle.memory.proofs.row.set_stamp.Goals as goal

pub returns : goal.returns
unfolding stamped_as with_number
returns c =
    rw (c.write_u64-2.ensures, c.write_u64.ensures, c.write_u8.ensures)
    (field_store ((place_offset, byte_size, c.args.place) ∷ (stamp_first_offset, number_size, c.args.first) ∷ (stamp_seq_offset, number_size, c.args.seq) ∷ [])
    ((refl, c.ranges.place.fits), ((refl, c.ranges.first.fits), ((refl, c.ranges.seq.fits), tt))) c.args.state.now c.args.n c.args.i c.requires.0 c.requires.1)
