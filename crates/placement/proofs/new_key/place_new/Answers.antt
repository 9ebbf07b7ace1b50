-- Without room no victim is left, and stamps are.
use Rattle.filing.proofs.RoomSought.{sought_for}
use Rattle.placement.proofs.NewKeys.{unmade_leaves}
use Rattle.placement.proofs.new_key.place_new.Goals as goal

pub new_without_room-requires : goal.new_without_room-requires
new_without_room-requires c = unmade_leaves c.requires.0 c.requires.1 (sought_for c.weight-w.ensures c.make_room-room.auto.state c.make_room-room.ensures) c.if-room.false
