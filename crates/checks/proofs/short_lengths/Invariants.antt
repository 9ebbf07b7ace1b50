-- The count is at most 22 for each length passed, and the lengths are few, so no sum overflows.
use Rattle.std.proofs.Common.{◌≤◌, ◌*◌}
use Rattle.checks.proofs.short_lengths.Given as goal

abbrev pub invariant-loop-length : goal.invariant-loop-length
invariant-loop-length l = l.count ≤ 22 * l.length
