-- At the loop's end all bytes of the row are copied.
use mathlib.Core.Path.{◌≡◌}
use native.Mathlib.Omega.{arith}
use Rattle.rules.specs.Layout.{row_size}
use Rattle.memory.proofs.rows.copy_row.Goals as goal

pub returns : goal.returns
returns c =
    let all : c.loop-k.k ≡ row_size = omega arith in
    rw all at c.loop-k.invariant
