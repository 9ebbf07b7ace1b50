-- The row taken out leaves probation below Q, so without a victim a row is free whether or not room was made in main (out_takes).
use mathlib.Core.Path.{◌≡◌, refl, ap, ◌∙◌}
use mathlib.Core.Bool.{cond}
use Rattle.types.specs.declared.placed.Segment.TheVariants.{Main, Probation}
use Rattle.rules.specs.Records.{Row, by_use, probation}
use Rattle.placement.specs.Operands.{update}
use Rattle.placement.proofs.HeldKeys.{lifted, out_takes, promoted_is}
use Rattle.placement.proofs.held_key.promote.Goals.{then-room, else-room}
use Rattle.placement.proofs.held_key.promote.Goals as goal

pub file_in_room-requires : goal.file_in_room-requires
file_in_room-requires c = (out_takes (lifted c.requires c.remove_row.auto.state c.remove_row.ensures refl c.make_room-room.auto.state c.make_room-room.ensures), rw c.updated_entry-e.ensures.1 c.args.hint.now.writable.short)

pub returns : goal.returns
unfolding update
returns c =
    let goes : (c.if-room.place ≡ cond c.make_room-room.result.made (by_use, Main, c.args.weight) (probation, Probation, 0)) = elim c.if-room.branch [ then-room w ↦ rw (w.place-is, w.if-room.true) | else-room w ↦ rw (w.place-is, w.if-room.false) ] in
    promoted_is (lifted c.requires c.remove_row.auto.state c.remove_row.ensures refl c.make_room-room.auto.state c.make_room-room.ensures) _
    (c.updated_entry-e.ensures.0 ∙ ap (λ (r : Row). update c.args.hint.now r.entry) c.row_at.ensures) goes c.file_in_room.ensures
