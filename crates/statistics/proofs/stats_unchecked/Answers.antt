-- A sound head counts at most 1,024 rows, all in the memory, and the call neither draws stamps nor takes a path.
use Rattle.rules.proofs.Public.{sound_memory}
use Rattle.statistics.proofs.stats_unchecked.Goals as goal

pub stats_of-requires : goal.stats_of-requires
stats_of-requires c =
    let s = sound_memory _ _ c.requires c.row_count-n.ensures in (s.few, s.long)
