-- A row leaves where its root is another.
use Rattle.std.proofs.Common.{rules, tests}
use Rattle.sweeps.proofs.SweepCalls.{roots_sweeps}
use Rattle.sweeps.proofs.invalidate_other_roots_unchecked.Goals as goal

pub returns : goal.returns
returns c = c.sweep.ensures _ _ (roots_sweeps c.args.addr) (λ x b f k. search (rules, tests))
