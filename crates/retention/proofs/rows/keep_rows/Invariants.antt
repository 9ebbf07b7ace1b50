-- The first j rows are those kept of the first i, and the rows from i on are still as they were.
use Rattle.std.specs.Fn.{FnReturnsAt}
use Rattle.retention.proofs.KeptRows.{Kept}
use Rattle.retention.proofs.rows.keep_rows.Given as goal

abbrev pub invariant-loop-i : goal.invariant-loop-i
invariant-loop-i g l = Kept (FnReturnsAt g.F.Fn l.leaves) l.n l.i l.j l.initial.state l.state
