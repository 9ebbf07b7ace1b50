-- No row so far leaves, so all of them are kept where they are.
use Rattle.std.specs.Fn.{FnReturnsAt}
use Rattle.retention.proofs.KeptRows.{Kept}
use Rattle.retention.proofs.rows.any_leaves.Given as goal

abbrev pub invariant-loop-i : goal.invariant-loop-i
invariant-loop-i g l = Kept (FnReturnsAt g.F.Fn l.leaves) l.n l.i l.i l.state l.state
