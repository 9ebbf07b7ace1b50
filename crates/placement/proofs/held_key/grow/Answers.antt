-- The row taken out leaves main below M, so there is a row to file in; the saved bytes are row i, and unmade room leaves no victim.
use mathlib.Core.Path.{refl, ap, ◌∙◌}
use Rattle.rules.specs.Records.{Row}
use Rattle.placement.specs.Operands.{update}
use Rattle.placement.proofs.HeldKeys.{lifted, out_takes, grown_is, goes_back_asks, goes_back}
use Rattle.placement.proofs.held_key.grow.Goals as goal

pub file_in_room-requires : goal.file_in_room-requires
file_in_room-requires c = (out_takes (lifted (c.requires.0, c.requires.1) c.remove_row.auto.state c.remove_row.ensures refl c.make_room-room.auto.state c.make_room-room.ensures), rw c.updated_entry-e.ensures.1 c.args.hint.now.writable.short)

pub returns-then-room-hint : goal.returns-then-room-hint
unfolding update
returns-then-room-hint c = grown_is (lifted (c.requires.0, c.requires.1) c.remove_row.auto.state c.remove_row.ensures refl c.make_room-room.auto.state c.make_room-room.ensures) _
    (c.updated_entry-e.ensures.0 ∙ ap (λ (r : Row). update c.args.hint.now r.entry) c.row_at.ensures) c.requires.2 c.if-room-hint.true c.file_in_room.ensures

pub file_unchanged-requires : goal.file_unchanged-requires
file_unchanged-requires c = goes_back_asks (lifted (c.requires.0, c.requires.1) c.remove_row.auto.state c.remove_row.ensures refl c.make_room-room.auto.state c.make_room-room.ensures) c.save_row-saved.ensures c.if-room-hint.false

pub returns-else-room-hint : goal.returns-else-room-hint
returns-else-room-hint c = goes_back (lifted (c.requires.0, c.requires.1) c.remove_row.auto.state c.remove_row.ensures refl c.make_room-room.auto.state c.make_room-room.ensures) c.save_row-saved.ensures c.if-room-hint.false c.reject.ensures c.file_unchanged.ensures
