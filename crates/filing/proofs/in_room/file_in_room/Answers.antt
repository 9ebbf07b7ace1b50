-- Takes says of the victim what file_over_victim asks.
use borrow.Author.Rules.{rules}
use Rattle.filing.proofs.in_room.file_in_room.Goals as goal

pub file_over_victim-requires : goal.file_over_victim-requires
file_over_victim-requires c = (c.requires.0.over _ c.in-Some.is, search rules)
