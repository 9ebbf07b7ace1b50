-- A row leaves where its path contains the address.
use Rattle.std.proofs.Common.{rules, tests}
use Rattle.sweeps.proofs.SweepCalls.{via_sweeps}
use Rattle.sweeps.proofs.invalidate_via_node_unchecked.Goals as goal

pub returns : goal.returns
returns c = c.sweep.ensures _ _ (via_sweeps c.args.addr) (λ x b f k. search (rules, tests))
