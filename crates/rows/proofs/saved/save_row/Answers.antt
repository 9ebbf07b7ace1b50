-- The array is made from the bytes of row i.
use mathlib.Core.Path.{◌≡◌}
use Prim.Native.Nat.{◌+◌, ◌*◌, ◌-◌}
use native.Mathlib.Omega.{arith}
use Rattle.rules.specs.Layout.{head_size, row_size}
use Rattle.rows.proofs.saved.save_row.Goals as goal

pub returns : goal.returns
returns c =
    let e : head_size + c.args.i * row_size + row_size - (head_size + c.args.i * row_size) ≡ row_size = omega arith in
    rw e at (rw c.unwrap.ensures at c.try_into.ensures.1).same
