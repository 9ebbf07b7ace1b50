-- A probation row makes the conjunction false; for a main row, the count less 1 and the weight less its own are those of take_out.
use mathlib.Core.Path.{◌≡◌, ◌∙◌, ap}
use mathlib.Core.Bool.{true}
use Rattle.rules.specs.Rows.{row_at, in_main}
use Rattle.rules.specs.Memory.{view_rows}
use Rattle.room.proofs.RoomToFile.{laid_out}
use Rattle.verification.proofs.InPlace.{main_some, in_main_lem}
use Rattle.rules.specs.Records.{State, Row}
use Rattle.verification.proofs.in_place.has_room_without.Goals as goal

pub other_main_rows-others-requires : goal.other_main_rows-others-requires
other_main_rows-others-requires c =
    let state : State = view_rows c.args.n c.args.state.now in
    let row_in_main : in_main (row_at c.args.i state.rows) ≡ true = in_main_lem c.args.i state (c.place.ensures ∙ ap (λ (r : Row). r.place) c.row_at.ensures) c.if-place-ge-PROBATION.false in
    (laid_out _ _ c.requires.0, main_some _ _ _ c.requires.1 row_in_main)
