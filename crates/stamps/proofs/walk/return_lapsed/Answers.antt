-- Each lapsed row that is restamped takes one visit off those left, and what the walk still has to do stays the same.
use mathlib.Core.Path.{refl, ap, ◌∙◌, sym}
use native.Mathlib.Omega.{arith}
use Rattle.rules.specs.Records.{Row, parked}
use Rattle.rules.proofs.Loops.{waking}
use Rattle.stamps.proofs.WalkLaws.{Found, Turned, found_row, lapsed_turn, lapsed_rests, lapsed_ends}
use Rattle.stamps.proofs.walk.return_lapsed.Goals as goal

pub returns-in-None : goal.returns-in-None
returns-in-None c =
    let v = c.loop-parked.invariant in record { walked = lapsed_ends v.0 (sym v.1 ∙ c.in-None.is); next = v.2 }

pub returns-then-time-stamp_first : goal.returns-then-time-stamp_first
returns-then-time-stamp_first c =
    let found : Found waking parked c.args.time c.args.n 0 c.loop-parked.rows c.in-Some.i c.args.state.now c.loop-parked.state = let l = c.loop-parked in found_row l.invariant.0 l.invariant.1 c.in-Some.is in
    record { walked = lapsed_rests found (rw (c.stamp_first.ensures ∙ ap (λ (r : Row). r.stamp_first) c.row_at.ensures) at c.if-time-stamp_first.true); next = c.loop-parked.invariant.2 }

pub loop-parked-preserved : goal.loop-parked-preserved
loop-parked-preserved c =
    let found : Found waking parked c.args.time c.args.n 0 c.loop-parked.rows c.in-Some.i c.args.state.now c.loop-parked.state = let l = c.loop-parked in found_row l.invariant.0 l.invariant.1 c.in-Some.is in
    let restamped : Turned waking c.args.time c.args.n 0 c.loop-parked.rows c.args.state.now c.loop-parked.state c.restamp.new.state = lapsed_turn found (rw (c.stamp_first.ensures ∙ ap (λ (r : Row). r.stamp_first) c.row_at.ensures) at c.if-time-stamp_first.false) c.restamp.auto.state c.restamp.ensures in
    let m = c.lowest_of_main-again.ensures in (restamped.going, m.parked, m.by_use)
