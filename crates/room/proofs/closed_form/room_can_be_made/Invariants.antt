-- Count and weight are those of the rows seen that are verified in main; at most 255 a row over 1,024 rows fits.
use Rattle.rules.specs.Memory.{view_rows}
use Rattle.room.proofs.ClosedForm.{Bounds, Weighed}
use Rattle.room.proofs.closed_form.room_can_be_made.Given as goal

abbrev pub invariant-loop-row : goal.invariant-loop-row
invariant-loop-row l = Bounds l.w l.max l.cut l.n l.state × Weighed l.time l.n l.count l.weight l.row-iterator (view_rows l.n l.state).rows
