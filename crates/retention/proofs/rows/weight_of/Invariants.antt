-- The sum and the weight of the rows still to come are the whole weight, and at most 256 for each row fits.
use mathlib.Core.Path.{◌≡◌}
use Prim.Native.Nat.{◌+◌, ◌*◌, ◌≤◌}
use lib.ListN.{length}
use Rattle.rules.specs.Rows.{in_main, weigh_rows}
use Rattle.rules.specs.Memory.{view_rows}
use Rattle.retention.proofs.rows.weight_of.Given as goal

abbrev pub invariant-loop-row : goal.invariant-loop-row
invariant-loop-row l = (l.sum + length l.row-iterator * 256 ≤ l.n * 256) × (l.sum + weigh_rows in_main l.row-iterator ≡ weigh_rows in_main (view_rows l.n l.state).rows)
