-- Each turn compares one row of those of which it is not known whether they stand before the key or behind it.
use Prim.Native.Nat.{◌-◌, ◌≤◌}
use Rattle.rules.specs.Memory.{view_rows}
use Rattle.search.proofs.RisingRows.{Halved}
use Rattle.search.proofs.keys.search.Given as goal

abbrev pub invariant-loop-lo : goal.invariant-loop-lo
invariant-loop-lo l = (l.hi ≤ l.n) × Halved l.key (view_rows l.n l.state).rows l.lo l.hi

abbrev pub decreases-loop-lo : goal.decreases-loop-lo
decreases-loop-lo l = l.hi - l.lo
