-- Each place has its own best of the rows from i on, and the count of main rows plus i is at most n, so it fits.
use Rattle.rules.specs.Records.{by_use, parked}
use Rattle.rules.specs.Rows.{in_main}
use Rattle.rules.specs.Memory.{view_rows}
use Rattle.stamps.proofs.RowTotals.{Counted}
use Rattle.stamps.proofs.LowestLaws.{Down}
use Rattle.stamps.proofs.lowest.lowest_of_main.Given as goal

abbrev pub invariant-loop-i : goal.invariant-loop-i
invariant-loop-i l = Counted in_main l.n l.i l.count (view_rows l.n l.state).rows × Down parked l.n l.i (view_rows l.n l.state).rows l.parked × Down by_use l.n l.i (view_rows l.n l.state).rows l.by_use
