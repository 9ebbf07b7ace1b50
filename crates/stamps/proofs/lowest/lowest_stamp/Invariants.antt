-- The best row and the count are those of the rows from i on; a row that ties replaces the best, so the lower key wins.
use Rattle.rules.specs.Rows.{at_place}
use Rattle.rules.specs.Memory.{view_rows}
use Rattle.stamps.proofs.RowTotals.{Counted}
use Rattle.stamps.proofs.LowestLaws.{Down}
use Rattle.stamps.proofs.lowest.lowest_stamp.Given as goal

abbrev pub invariant-loop-i : goal.invariant-loop-i
invariant-loop-i l = Counted (at_place l.place) l.n l.i l.count (view_rows l.n l.state).rows × Down l.place l.n l.i (view_rows l.n l.state).rows l.best
