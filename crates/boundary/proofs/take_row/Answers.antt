-- The search settles both ways: at the row that it found stand the bytes that a removal takes out, and where it found none the room is left.
use Rattle.refusals.proofs.SoundCalls.{searchable}
use Rattle.boundary.proofs.take_row.Goals as goal

pub search-at-requires : goal.search-at-requires
search-at-requires c = searchable _ _ c.requires c.row_count-n.ensures
