-- No row so far leaves, so all of them are kept where they are.
use mathlib.Core.Path.{refl, sym, subst}
use mathlib.Core.Bool.{false}
use native.Mathlib.Omega.{arith}
use Rattle.rules.specs.Records.{Row}
use Rattle.std.proofs.iter.Next.{says_at}
use Rattle.std.specs.Fn.{FnReturnsAt}
use Rattle.retention.specs.Sweep.{PathFit}
use Rattle.retention.proofs.KeptRows.{kept_start, all_kept, down_stays, path_at, row_stays}
use Rattle.retention.proofs.rows.any_leaves.Goals as goal

pub loop-i-init : goal.loop-i-init
loop-i-init g c = kept_start

pub leaves-requires : goal.leaves-requires
leaves-requires g c = c.requires.callable _ (subst PathFit (sym c.row_at-row.ensures) (path_at _ _ _ c.loop-i-test.true c.requires.rows.1))

pub loop-i-preserved : goal.loop-i-preserved
loop-i-preserved g c =
    let h = c.loop-i-test.true in
    let q = c.loop-i.invariant in
    let s = says_at g.F.Fn c.leaves.ensures c.if-leaves.false in
    row_stays q h c.requires.rows.1 c.requires.rows.0 refl (down_stays _ _ _ (omega arith)) (subst (λ (r : Row). FnReturnsAt g.F.Fn c.args.leaves.now r false) c.row_at-row.ensures s)

pub returns : goal.returns
returns g c = λ z. all_kept c.loop-i.invariant c.loop-i-test.false
