-- No rows weigh 0, so the counted rows shrunk to none with weight 0 are the cleared state.
use native.Mathlib.Omega.{arith}
use Rattle.rules.proofs.MemoryLaws.{all_bytes}
use Rattle.rules.proofs.Public.{sound_memory}
use Rattle.sweeps.proofs.SweepCalls.{cleared}
use Rattle.sweeps.proofs.clear_unchecked.Goals as goal

pub shrink-requires : goal.shrink-requires
shrink-requires c = (omega arith, (sound_memory _ _ c.requires c.row_count-n.ensures).long)

pub returns : goal.returns
returns c =
    let r = c.shrink in
    cleared _ _ _ c.requires c.row_count-n.ensures (all_bytes r.new.state (λ i. (c.slice_known-2-1.given i).fits)) r.auto.state r.ensures
