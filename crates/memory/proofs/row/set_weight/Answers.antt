-- The store is in the last byte of row i alone, so that key, entry, place and stamp are read as they were.
use mathlib.Core.Path.{refl}
use mathlib.Core.List.{[], ◌∷◌}
use Rattle.rules.specs.Layout.{byte_size, weight_offset}
use Rattle.memory.specs.Edits.{with_weight}
use Rattle.memory.proofs.Fields.{field_store, with_number}
use Rattle.memory.proofs.row.set_weight.Goals as goal

pub returns : goal.returns
unfolding with_weight with_number
returns c =
    rw c.write_u8.ensures
    (field_store ((weight_offset, byte_size, c.args.weight) ∷ []) ((refl, c.ranges.weight.fits), tt) c.args.state.now c.args.n c.args.i c.requires.0 c.requires.1)
