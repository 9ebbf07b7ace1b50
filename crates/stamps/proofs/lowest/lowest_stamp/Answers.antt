-- The best row and the count are those of the rows from i on; a row that ties replaces the best, so the lower key wins.
use mathlib.Core.Path.{ap, ◌∙◌}
use Prim.Native.Nat.{ℕ, ◌-◌}
use lib.Dec.{eqb}
use Rattle.rules.specs.Records.{Row}
use Rattle.rules.specs.Rows.{at_place}
use Rattle.stamps.specs.Walked.{lower_row}
use Rattle.stamps.proofs.RowTotals.{counted_turn}
use Rattle.stamps.proofs.LowestLaws.{down_row}
use Rattle.stamps.proofs.lowest.lowest_stamp.Goals as goal

pub loop-i-preserved : goal.loop-i-preserved
unfolding at_place
loop-i-preserved c =
    let v = c.loop-i.invariant in
    let r = c.row_at-row.ensures in
    let q = ap (λ (x : ℕ). eqb x c.args.place) (c.place.ensures ∙ ap (λ (x : Row). x.place) r) in
    let best = c.lower_row-best.ensures ∙ ap (λ (x : Row). lower_row c.args.n c.args.place (c.loop-i.i - 1) x c.loop-i.best) r in
    (counted_turn v.0 c.loop-i-test.true q, down_row v.0 c.loop-i-test.true best v.1)
