-- A row leaves where its entry is expired.
use Rattle.std.proofs.Common.{rules, tests}
use Rattle.sweeps.proofs.SweepCalls.{purge_sweeps}
use Rattle.sweeps.proofs.purge_expired_unchecked.Goals as goal

pub returns : goal.returns
returns c = c.sweep.ensures _ _ (purge_sweeps c.args.time) (λ x b f k. search (rules, tests))
