-- The rows that a sound head counts are those of the view, and a call that only reads is answered by them.
use Rattle.rules.proofs.Public.{sound_memory}
use Rattle.statistics.proofs.next_expiry_unchecked.Goals as goal

pub next_expiry_of-requires : goal.next_expiry_of-requires
next_expiry_of-requires c = (sound_memory _ _ c.requires c.row_count-n.ensures).long
