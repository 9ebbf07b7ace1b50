-- Each call adds at most 1, so the count is at most the calls made, which are 21 at the end.
use Rattle.std.proofs.Common.{◌≤◌}
use Rattle.checks.proofs.refusals.Given as goal

abbrev pub invariant-loop-call : goal.invariant-loop-call
invariant-loop-call l = l.count ≤ l.call-index
