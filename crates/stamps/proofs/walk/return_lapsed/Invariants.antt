-- Each lapsed row that is restamped takes one visit off those left, and what the walk still has to do stays the same.
use mathlib.Core.Path.{◌≡◌}
use Rattle.rules.specs.Records.{by_use, parked}
use Rattle.rules.specs.Rows.{lowest_stamp, total}
use Rattle.rules.specs.Room.{main_visits}
use Rattle.rules.specs.Memory.{view_rows}
use Rattle.rules.proofs.Loops.{waking}
use Rattle.stamps.proofs.WalkLaws.{Going}
use Rattle.stamps.proofs.walk.return_lapsed.Given as goal

abbrev pub invariant-loop-parked : goal.invariant-loop-parked
invariant-loop-parked l = Going waking l.time l.n 0 l.rows l.initial.state l.state × (l.parked ≡ lowest_stamp parked (view_rows l.n l.state).rows) × (l.next ≡ lowest_stamp by_use (view_rows l.n l.state).rows)

abbrev pub decreases-loop-parked : goal.decreases-loop-parked
decreases-loop-parked l = total (main_visits l.time) (view_rows l.n l.state).rows
