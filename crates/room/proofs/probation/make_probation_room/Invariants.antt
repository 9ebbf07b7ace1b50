-- Restamping leaves probation at Q rows, its bound in a sound state, so without the first row not stale there is room.
use mathlib.Core.Path.{◌≡◌}
use Rattle.rules.specs.Records.{probation}
use Rattle.rules.specs.Rows.{lowest_stamp, total}
use Rattle.rules.specs.Room.{probation_visits}
use Rattle.rules.specs.Memory.{view_rows}
use Rattle.room.proofs.ProbationVictims.{Evicting}
use Rattle.room.proofs.probation.make_probation_room.Given as goal

abbrev pub invariant-loop-next : goal.invariant-loop-next
invariant-loop-next l = Evicting l.n l.examined l.initial.state l.state × (l.next ≡ lowest_stamp probation (view_rows l.n l.state).rows)

abbrev pub decreases-loop-next : goal.decreases-loop-next
decreases-loop-next l = total probation_visits (view_rows l.n l.state).rows
