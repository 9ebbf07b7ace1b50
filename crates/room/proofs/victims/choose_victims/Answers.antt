-- Each victim set aside takes 1 from the count and its weight from main's sum; what is still to choose stays the same.
use mathlib.Core.Path.{refl, sym, ap, ◌∙◌}
use Prim.Native.Nat.{◌+◌, ◌-◌}
use native.Mathlib.Omega.{arith}
use Rattle.rules.specs.Records.{Row}
use Rattle.rules.specs.Memory.{view_rows}
use Rattle.room.specs.Rooms.{chosen_of, SetAside}
use Rattle.room.proofs.LeftVictims.{at_none, at_one}
use Rattle.room.proofs.ChosenVictims.{Gone, Victim, Came, choice_start, chosen_enough, set_aside_lem, came}
use Rattle.room.proofs.victims.choose_victims.Goals as goal
use Rattle.room.proofs.victims.choose_victims.Goals.{After-next_victim-sought, In-Some, After-set_place}

came_there : (c : After-next_victim-sought) → Came (record { now = c.args.time; w = c.args.w; n = c.args.n; memory = c.args.state.now; max = c.max_entries-max.result; mains = c.args.lowest.count })
    c.loop-i.left c.loop-i.stored c.loop-i.examined c.next_victim-sought.new.state c.next_victim-sought.result
came_there c = let v = c.loop-i.invariant in came v.0 v.2 c.next_victim-sought.auto.state c.next_victim-sought.ensures

victim : (c : In-Some) → Victim (record { now = c.args.time; w = c.args.w; n = c.args.n; memory = c.args.state.now; max = c.max_entries-max.result; mains = c.args.lowest.count })
    c.loop-i.left c.loop-i.stored (c.loop-i.examined + c.next_victim-sought.result.examined) c.in-Some.i c.next_victim-sought.new.state
victim c = let v = c.loop-i.invariant in (came v.0 v.2 c.next_victim-sought.auto.state c.next_victim-sought.ensures).victim c.in-Some.is

gone : (c : After-set_place) → Gone (record { now = c.args.time; w = c.args.w; n = c.args.n; memory = c.args.state.now; max = c.max_entries-max.result; mains = c.args.lowest.count })
    (c.loop-i.left - 1) (c.loop-i.stored - c.weight.result) (c.loop-i.examined + c.next_victim-sought.result.examined) c.in-Some.i c.set_place.new.state
gone c =
    let v = c.loop-i.invariant in
    ((came v.0 v.2 c.next_victim-sought.auto.state c.next_victim-sought.ensures).victim c.in-Some.is).goes
    (c.weight.ensures ∙ ap (λ (r : Row). r.weight) c.row_at.ensures) c.set_place.auto.state c.set_place.ensures

pub loop-i-init : goal.loop-i-init
loop-i-init c =
    let p = c.requires in
    choice_start _ p.size p.sound p.stamps p.lowest refl p.bound p.full c.max_entries-max.ensures c.stored_weight-stored.ensures

pub overflow_add-examined : goal.overflow_add-examined
overflow_add-examined c = let s = came_there (goal.at.overflow_add-examined c).After-next_victim-sought in omega (arith, s.keys)

pub returns-in-None : goal.returns-in-None
unfolding chosen_of
returns-in-None c = record { chosen = (came_there (goal.at.returns-in-None c).After-next_victim-sought).none_left c.in-None.is; aside = at_none _ }

pub overflow_sub-left : goal.overflow_sub-left
overflow_sub-left c = (victim (goal.at.overflow_sub-left c).In-Some).some_left

pub row_at-requires : goal.row_at-requires
row_at-requires c = let v = victim (goal.at.row_at-requires c).In-Some in (v.inside, v.size)

pub overflow_sub-stored : goal.overflow_sub-stored
overflow_sub-stored c = let v = victim (goal.at.overflow_sub-stored c).In-Some in omega (arith, v.enough, c.weight.ensures ∙ ap (λ (r : Row). r.weight) c.row_at.ensures)

pub set_place-requires : goal.set_place-requires
set_place-requires c = let v = victim (goal.at.set_place-requires c).In-Some in (v.inside, v.size)

pub returns-then-has_room : goal.returns-then-has_room
unfolding chosen_of
returns-then-has_room c =
    let g = gone (goal.at.returns-then-has_room c).After-set_place in
    record {
      chosen = chosen_enough g.choice c.has_room.ensures c.if-has_room.true;
      aside = at_one (λ x. SetAside c.args.lowest.count x (view_rows c.args.n c.set_place.new.state)) _ (set_aside_lem g.choice c.in-Some.i g.last);
    }

pub loop-i-smaller : goal.loop-i-smaller
loop-i-smaller c = let v = victim (goal.at.loop-i-smaller c).In-Some in omega (arith, v.some_left)

pub loop-i-preserved : goal.loop-i-preserved
loop-i-preserved c = let g = gone (goal.at.loop-i-preserved c).After-set_place in (g.choice, c.lowest_of_main-main.ensures, sym c.has_room.ensures ∙ c.if-has_room.false)
