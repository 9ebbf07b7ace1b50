-- Reached says that the key is out, Sought what room was made; since no_place_for is false main is below M, so Takes holds.
use mathlib.Core.Path.{ap}
use native.Mathlib.Omega.{arith}
use Rattle.types.specs.declared.coord.Path.{Path}
use Rattle.filing.proofs.RoomSought.{Sought, sought}
use Rattle.verification.proofs.VerifiedRows.{KeyOut, room_asked, row_asked, insert_said, insert_left}
use Rattle.verification.proofs.insert.file_anew.Goals as goal
use Rattle.verification.proofs.insert.file_anew.Goals.{After-weight-weight, After-make_room-room}

key_out : (c : After-weight-weight) → KeyOut c.args.key c.args.path c.args.n c.take_out-rows.result c.weight-weight.result c.args.state.now c.take_out-rows.new.state
key_out c =
    let o = c.take_out-rows in
    record { sound = c.requires.0.sound; reached = record { size = o.auto.state; state = o.ensures _ c.requires.1 }; weight = c.weight-weight.ensures }

room_sought : (c : After-make_room-room) → Sought c.take_out-rows.new.state c.make_room-room.new.state c.take_out-rows.result c.args.time c.weight-weight.result c.make_room-room.result
room_sought c = sought _ _ _ _ _ _ c.make_room-room.auto.state c.make_room-room.ensures

pub make_room-room-requires : goal.make_room-room-requires
make_room-room-requires c = room_asked (key_out (goal.at.make_room-room-requires c).After-weight-weight) _ c.requires.0.seq

pub file_in_room-requires : goal.file_in_room-requires
file_in_room-requires c =
    let a = goal.at.file_in_room-requires c in (
      row_asked (key_out a.After-weight-weight) _ (room_sought a.After-make_room-room) c.requires.0.seq c.requires.0.place,
      omega (arith, ap (λ (p : Path). p.len) c.verified_entry_of-e.ensures.1, c.requires.0.path.short),
    )

pub returns : goal.returns
returns c =
    let a = goal.at.returns c in
    let k = key_out a.After-weight-weight in
    let r = room_sought a.After-make_room-room in
    record { says = insert_said k _ r _; state = insert_left k _ r _ (c.verified_entry_of-e.ensures.0 _ c.requires.1) _ _ c.file_in_room.ensures }
