-- The rows kept are those that the call does not sweep, and n - kept is how many it does.
use Rattle.rules.proofs.MemoryLaws.{all_bytes}
use Rattle.sweeps.proofs.SweepCalls.{sweepable, sweep_done}
use Rattle.sweeps.proofs.sweep.Goals as goal

pub retain_entries-kept-requires-clause-rows : goal.retain_entries-kept-requires-clause-rows
retain_entries-kept-requires-clause-rows g c = sweepable _ _ c.requires.is_sound c.row_count-n.ensures

pub returns : goal.returns
returns g c =
    let r = c.retain_entries-kept in
    λ q test s t. sweep_done s _ _ _ _ c.requires.is_sound c.row_count-n.ensures (all_bytes r.new.state (λ i. (c.slice_known-2-1.given i).fits)) r.auto.state (r.ensures.swept _ t)
