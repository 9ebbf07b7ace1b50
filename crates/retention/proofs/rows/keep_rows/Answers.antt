-- The first j rows are those kept of the first i, and the rows from i on are still as they were.
use mathlib.Core.Path.{sym, subst, ◌∙◌}
use mathlib.Core.Bool.{true, false}
use Rattle.rules.specs.Records.{Row}
use Rattle.std.proofs.iter.Next.{says_at}
use Rattle.std.specs.Fn.{FnReturnsAt}
use Rattle.retention.specs.Sweep.{PathFit}
use Rattle.retention.proofs.KeptRows.{kept_start, kept_end, path_at, same_row, row_leaves, row_stays}
use Rattle.retention.proofs.rows.keep_rows.Goals as goal

pub loop-i-init : goal.loop-i-init
loop-i-init g c = kept_start

pub leaves-requires : goal.leaves-requires
leaves-requires g c =
    let h = c.loop-i-test.true in
    let e = c.row_at.ensures ∙ same_row c.loop-i.invariant h in
    c.requires.callable _ (subst PathFit (sym e) (path_at _ _ _ h c.requires.rows.1))

pub loop-i-preserved-then-leaves : goal.loop-i-preserved-then-leaves
loop-i-preserved-then-leaves g c =
    let h = c.loop-i-test.true in
    let q = c.loop-i.invariant in
    let s = says_at g.F.Fn c.leaves.ensures c.if-leaves.true in
    row_leaves q h c.requires.rows.1 (subst (λ (r : Row). FnReturnsAt g.F.Fn c.args.leaves.now r true) (c.row_at.ensures ∙ same_row q h) s)

pub loop-i-preserved : goal.loop-i-preserved
loop-i-preserved g c =
    let h = c.loop-i-test.true in
    let q = c.loop-i.invariant in
    let s = says_at g.F.Fn c.leaves.ensures c.if-leaves.false in
    row_stays q h c.requires.rows.1 c.requires.rows.0 c.keep_row.auto.state c.keep_row.ensures (subst (λ (r : Row). FnReturnsAt g.F.Fn c.args.leaves.now r false) (c.row_at.ensures ∙ same_row q h) s)

pub returns : goal.returns
returns g c = kept_end c.loop-i.invariant c.loop-i-test.false
