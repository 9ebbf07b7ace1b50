-- A row restamped or parked leaves one visit fewer and the same victim to find; the visits left bound seq and examined.
use mathlib.Core.Path.{ap, ◌∙◌, sym}
use Prim.Native.Nat.{ℕ}
use native.Mathlib.Omega.{arith}
use mathlib.Core.List.{List}
use Rattle.rules.specs.Records.{Row, by_use}
use Rattle.rules.specs.Entries.{verified}
use Rattle.rules.specs.Room.{stale}
use Rattle.rules.proofs.Loops.{seeking}
use Rattle.stamps.proofs.WalkLaws.{Found, Turned, found_row, seek_start, stale_turn, park_turn, none_yielded, yielded}
use Rattle.stamps.proofs.walk.next_victim.Goals as goal

pub loop-next-init : goal.loop-next-init
loop-next-init c =
    let k = c.return_lapsed-returned.auto.state in
    (seek_start c.args.state.now c.return_lapsed-returned.ensures.walked (omega arith) c.requires.1, c.return_lapsed-returned.ensures.next)

pub loop-next-preserved-then-is_stale : goal.loop-next-preserved-then-is_stale
loop-next-preserved-then-is_stale c =
    let found : let l = c.loop-next in
    Found seeking by_use c.args.time c.args.n c.return_lapsed-returned.result.rows l.examined c.in-Some.i c.return_lapsed-returned.new.state l.state = let l = c.loop-next in found_row l.invariant.0 l.invariant.1 c.in-Some.is in
    let Goes : List ℕ → Type 0 = λ x. let l = c.loop-next in
    Turned seeking c.args.time c.args.n c.return_lapsed-returned.result.rows l.examined c.return_lapsed-returned.new.state l.state x in
    let restamped : Goes c.restamp.new.state = stale_turn found (c.is_stale.ensures ∙ ap stale c.row_at-row.ensures) c.if-is_stale.true c.restamp.auto.state c.restamp.ensures in
    (restamped.going, c.lowest_stamp-again.ensures.row)

pub loop-next-preserved : goal.loop-next-preserved
loop-next-preserved c =
    let found : let l = c.loop-next in
    Found seeking by_use c.args.time c.args.n c.return_lapsed-returned.result.rows l.examined c.in-Some.i c.return_lapsed-returned.new.state l.state = let l = c.loop-next in found_row l.invariant.0 l.invariant.1 c.in-Some.is in
    let Goes : List ℕ → Type 0 = λ x. let l = c.loop-next in
    Turned seeking c.args.time c.args.n c.return_lapsed-returned.result.rows l.examined c.return_lapsed-returned.new.state l.state x in
    let parked : Goes c.park.new.state = park_turn found (c.is_stale.ensures ∙ ap stale c.row_at-row.ensures) c.if-is_stale.false (c.is_verified.ensures ∙ ap (λ (r : Row). verified c.args.time r.entry) c.row_at-row.ensures) c.if-is_verified.true c.park.auto.state c.park.ensures in
    (parked.going, c.lowest_stamp-again-then-is_verified.ensures.row)

pub returns-in-None : goal.returns-in-None
returns-in-None c = none_yielded _ c.loop-next.invariant.0 (sym c.loop-next.invariant.1 ∙ c.in-None.is) c.return_lapsed-returned.ensures.walked

pub returns-else-is_verified : goal.returns-else-is_verified
returns-else-is_verified c =
    let found : let l = c.loop-next in
    Found seeking by_use c.args.time c.args.n c.return_lapsed-returned.result.rows l.examined c.in-Some.i c.return_lapsed-returned.new.state l.state = let l = c.loop-next in found_row l.invariant.0 l.invariant.1 c.in-Some.is in
    let r = c.return_lapsed-returned.ensures in
    yielded found (c.is_stale.ensures ∙ ap stale c.row_at-row.ensures) c.if-is_stale.false (c.is_verified.ensures ∙ ap (λ (r : Row). verified c.args.time r.entry) c.row_at-row.ensures) _ c.if-is_verified.false r.walked
