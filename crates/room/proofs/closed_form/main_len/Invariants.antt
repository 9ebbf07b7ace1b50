-- The count of main rows from i on grows by at most 1 as i falls by 1, so it never passes n.
use Rattle.rules.specs.Rows.{in_main}
use Rattle.rules.specs.Memory.{view_rows}
use Rattle.stamps.proofs.RowTotals.{Counted}
use Rattle.room.proofs.closed_form.main_len.Given as goal

abbrev pub invariant-loop-i : goal.invariant-loop-i
invariant-loop-i l = Counted in_main l.n l.i l.count (view_rows l.n l.state).rows

abbrev pub decreases-loop-i : goal.decreases-loop-i
decreases-loop-i l = l.i
