-- What is divided by halves is the quotient, and the quotient is at most the largest number.
use mathlib.Core.Path.{sym, ◌∙◌}
use Prim.Native.Nat.{◌<◌}
use native.Mathlib.Omega.{arith}
use Rattle.statistics.proofs.Means.{mean_fits, mean_of, by_halves}
use Rattle.statistics.proofs.mean.Goals as goal

pub overflow_add-result : goal.overflow_add-result
overflow_add-result c =
    let some : 0 < c.args.n = omega (arith, c.if-n-eq0.false) in
    record { fits = omega (arith, by_halves c.args.total c.args.n some, mean_fits c.args.total c.args.n c.requires.fits some) }

pub returns : goal.returns
returns c =
    let some : 0 < c.args.n = omega (arith, c.if-n-eq0.false) in
    sym (by_halves c.args.total c.args.n some) ∙ mean_of c.args.total c.args.n some
