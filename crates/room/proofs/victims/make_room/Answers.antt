-- One victim left aside is what a sweep would remove; several leave.
use native.Mathlib.Omega.{arith}
use Rattle.room.proofs.ClosedForm.{bounds_read}
use Rattle.room.proofs.RoomSettled.{Aside, stand_aside, drop_asks, one_left, all_dropped}
use Rattle.room.proofs.victims.make_room.Goals as goal
use Rattle.room.proofs.victims.make_room.Goals.{After-choose_victims-choice}

aside : (c : After-choose_victims-choice) → Aside c.args.time c.args.w c.args.n c.lowest_of_main-lowest.result.count c.choose_victims-choice.result c.args.state.now c.choose_victims-choice.new.state
aside c =
    stand_aside (bounds_read c.requires.1 c.max_entries-max.ensures c.cut_to_bound-cut.ensures) c.requires.0 c.lowest_of_main-lowest.ensures.count
    c.choose_victims-choice.auto.state c.choose_victims-choice.ensures.chosen c.choose_victims-choice.ensures.aside

pub overflow_sub-count : goal.overflow_sub-count
overflow_sub-count c = omega (arith, (c.choose_victims-choice.ensures.aside c.in-Some.chosen c.in-Some.is).last.few)

pub returns-then-count-chosen-eq1 : goal.returns-then-count-chosen-eq1
returns-then-count-chosen-eq1 c = one_left (aside (goal.at.returns-then-count-chosen-eq1 c).After-choose_victims-choice) c.in-Some.is c.if-count-chosen-eq1.true

pub drop_aside-rows-requires : goal.drop_aside-rows-requires
drop_aside-rows-requires c = drop_asks (aside (goal.at.drop_aside-rows-requires c).After-choose_victims-choice)

pub returns-else-count-chosen-eq1 : goal.returns-else-count-chosen-eq1
returns-else-count-chosen-eq1 c = all_dropped (aside (goal.at.returns-else-count-chosen-eq1 c).After-choose_victims-choice) _ _ c.in-Some.is c.drop_aside-rows.ensures
