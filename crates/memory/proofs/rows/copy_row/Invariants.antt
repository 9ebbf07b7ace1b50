-- The first k bytes are copied; row j ends where row i begins or before, so no store changes a byte still to be read.
use mathlib.Core.Path.{◌≡◌}
use Prim.Native.Nat.{◌+◌, ◌*◌}
use lib.Seq.{sets}
use Rattle.rules.specs.Memory.{cut}
use Rattle.rules.specs.Layout.{head_size, row_size}
use Rattle.memory.proofs.rows.copy_row.Given as goal

abbrev pub invariant-loop-k : goal.invariant-loop-k
invariant-loop-k l = l.state ≡ sets l.initial.state (head_size + l.j * row_size) (cut (head_size + l.i * row_size) l.k l.initial.state)
