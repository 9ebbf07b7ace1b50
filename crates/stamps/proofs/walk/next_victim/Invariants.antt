-- A row restamped or parked leaves one visit fewer and the same victim to find; the visits left bound seq and examined.
use mathlib.Core.Path.{◌≡◌}
use Rattle.rules.specs.Records.{by_use}
use Rattle.rules.specs.Rows.{lowest_stamp, total}
use Rattle.rules.specs.Room.{main_visits}
use Rattle.rules.specs.Memory.{view_rows}
use Rattle.rules.proofs.Loops.{seeking}
use Rattle.stamps.proofs.WalkLaws.{Going}
use Rattle.stamps.proofs.walk.next_victim.Given as goal

abbrev pub invariant-loop-next : goal.invariant-loop-next
invariant-loop-next l = Going seeking l.time l.n l.initial.examined l.examined l.initial.state l.state × (l.next ≡ lowest_stamp by_use (view_rows l.n l.state).rows)

abbrev pub decreases-loop-next : goal.decreases-loop-next
decreases-loop-next l = total (main_visits l.time) (view_rows l.n l.state).rows
