-- Count and weight are those of the rows seen that are verified in main; at most 255 a row over 1,024 rows fits.
use Rattle.room.proofs.ClosedForm.{weighed_in, weighed_past, weighed_asks}
use Rattle.room.proofs.closed_form.room_can_be_made.Goals as goal

pub loop-row-preserved-then-is_verified_in_main : goal.loop-row-preserved-then-is_verified_in_main
loop-row-preserved-then-is_verified_in_main c =
    let v = c.loop-row.invariant in
    (v.0, weighed_in c.in-Some.ensures.steps v.1 c.is_verified_in_main.ensures c.if-is_verified_in_main.true c.weight.ensures c.weight.type_inv)

pub loop-row-preserved : goal.loop-row-preserved
loop-row-preserved c =
    let v = c.loop-row.invariant in
    (v.0, weighed_past c.in-Some.ensures.steps v.1 c.is_verified_in_main.ensures c.if-is_verified_in_main.false)

pub has_room-requires : goal.has_room-requires
has_room-requires c =
    let v = c.loop-row.invariant in weighed_asks v.0 v.1
