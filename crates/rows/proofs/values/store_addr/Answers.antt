-- Owning an address tells that it has 16 bytes, each below 256; by `part_stored` a part that has them is a run of stores.
use mathlib.Core.Path.{◌≡◌}
use Prim.Native.Nat.{◌+◌, ◌-◌}
use native.Mathlib.Omega.{arith}
use Rattle.rules.specs.Layout.{address_size}
use Rattle.raw.proofs.StoreLaws.{part_stored}
use Rattle.memory.proofs.OwnedValues.{owned_addr}
use Rattle.rows.proofs.values.store_addr.Goals as goal

pub returns : goal.returns
returns c =
    let f = owned_addr c.args.a _ c.well_formed.1.1.0 in
    let e : c.args.at + address_size - c.args.at ≡ address_size = omega arith in
    record { s_after = rw (e, c.copy_from_slice.ensures.after) (part_stored c.args.s.now c.args.a.0 c.args.at address_size f.size c.requires); addr_fits = f }
