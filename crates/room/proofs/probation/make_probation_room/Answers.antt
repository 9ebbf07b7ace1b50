-- Restamping leaves probation at Q rows, its bound in a sound state, so without the first row not stale there is room.
use mathlib.Core.Path.{ap, ◌∙◌}
use Rattle.rules.specs.Room.{stale}
use Rattle.room.proofs.ProbationVictims.{room_free, evict_start, turn_less, turned, yielded}
use Rattle.room.proofs.probation.make_probation_room.Goals as goal

pub returns-then-count-bound : goal.returns-then-count-bound
returns-then-count-bound c = room_free _ _ c.max_entries.ensures c.probation_bound-bound.ensures c.lowest_stamp-lowest.ensures c.if-count-bound.true

pub loop-next-init : goal.loop-next-init
loop-next-init c =
    let p = c.requires in
    let o = c.lowest_stamp-lowest.ensures in
    (evict_start _ _ c.max_entries.ensures c.probation_bound-bound.ensures o p.0 p.1 p.2 c.if-count-bound.false, o.row)

pub loop-next-smaller : goal.loop-next-smaller
loop-next-smaller c =
    let v = c.loop-next.invariant in
    turn_less v.0 v.1 c.in-Some.is _ (c.is_stale.ensures ∙ ap stale c.row_at.ensures) c.if-is_stale.true c.restamp.ensures

pub loop-next-preserved : goal.loop-next-preserved
loop-next-preserved c =
    let v = c.loop-next.invariant in
    (turned v.0 v.1 c.in-Some.is _ (c.is_stale.ensures ∙ ap stale c.row_at.ensures) c.if-is_stale.true c.restamp.ensures c.restamp.auto.state, c.lowest_stamp-again.ensures.row)

pub returns-else-is_stale : goal.returns-else-is_stale
returns-else-is_stale c =
    let v = c.loop-next.invariant in
    yielded v.0 v.1 c.in-Some.is (c.is_stale.ensures ∙ ap stale c.row_at.ensures) c.if-is_stale.false c.stored_weight.ensures
