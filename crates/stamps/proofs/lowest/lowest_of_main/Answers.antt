-- Each place has its own best of the rows from i on, and the count of main rows plus i is at most n, so it fits.
use mathlib.Core.Path.{ap, ◌∙◌}
use Prim.Native.Nat.{ℕ, ◌-◌}
use lib.Dec.{ltb}
use Rattle.rules.specs.Records.{Row, by_use, parked}
use Rattle.rules.specs.Rows.{in_main}
use Rattle.stamps.specs.Walked.{lower_row}
use Rattle.stamps.proofs.RowTotals.{counted_turn}
use Rattle.stamps.proofs.LowestLaws.{down_row}
use Rattle.stamps.proofs.lowest.lowest_of_main.Goals as goal

pub loop-i-preserved : goal.loop-i-preserved
unfolding in_main
loop-i-preserved c =
    let z = c.loop-i-test.true in
    let v = c.loop-i.invariant in
    let r = c.row_at-row.ensures in
    let i = c.loop-i.i - 1 in
    let parks = down_row v.0 z (c.lower_row-parked.ensures ∙ ap (λ (x : Row). lower_row c.args.n parked i x c.loop-i.parked) r) v.1 in
    let uses = down_row v.0 z (c.lower_row-by_use.ensures ∙ ap (λ (x : Row). lower_row c.args.n by_use i x c.loop-i.by_use) r) v.2 in
    (counted_turn v.0 z (ap (λ (x : ℕ). ltb x 2) (c.place.ensures ∙ ap (λ (x : Row). x.place) r)), parks, uses)
