-- The loop has the rest of the rows still to check, and the totals are those of the rows passed.
use mathlib.Core.Path.{◌≡◌, ap, sym, ◌∙◌}
use Prim.Native.Nat.{◌+◌, ◌<◌}
use native.Mathlib.Omega.{arith}
use mathlib.Core.Bool.{true}
use lib.ListN.{length, drop}
use borrow.Author.Rules.{rules}
use Rattle.rules.specs.Records.{Row}
use Rattle.rules.specs.Rows.{row_at}
use Rattle.rules.specs.Sound.{leads, row_sound}
use Rattle.rules.specs.Memory.{view_rows}
use Rattle.rules.proofs.Foreign.{view_length}
use Rattle.state.proofs.PassLaws.{passing_turn, row_stops, key_stops}
use Rattle.state.proofs.KeyLaws.{leads_next, leads_none}
use Rattle.state.proofs.pass.rows_are_sound.Goals.{else-j-n-via-then-j-n+else-not-key_rises, else-j-n-via-else-j-n}
use Rattle.state.proofs.pass.rows_are_sound.Goals as goal

pub returns-then-not-row_is_sound : goal.returns-then-not-row_is_sound
returns-then-not-row_is_sound c =
    let rs = (view_rows c.args.n c.args.state.now).rows in
    let h : c.loop-i.i < length rs = rw view_length (omega arith) in
    row_stops c.args.seq rs c.loop-i.t c.loop-i.i c.loop-i.invariant h _ _ _ (c.row_is_sound.ensures ∙ ap (row_sound c.args.seq) c.row_at-row.ensures) c.if-not-row_is_sound.true

pub returns-then-not-key_rises : goal.returns-then-not-key_rises
returns-then-not-key_rises c =
    let rs = (view_rows c.args.n c.args.state.now).rows in
    let h : c.loop-i.i + 1 < length rs = rw view_length c.if-j-n.true in
    key_stops c.args.seq rs c.loop-i.t c.loop-i.i c.loop-i.invariant (omega arith) _ _ _ (c.key_rises.ensures ∙ leads_next rs c.loop-i.i h c.row_at-row.ensures c.row_at.ensures) c.if-not-key_rises.true

pub loop-i-preserved : goal.loop-i-preserved
loop-i-preserved c =
    let rs = (view_rows c.args.n c.args.state.now).rows in
    let n = view_length c.args.n c.args.state.now in
    let r = c.row_at-row.ensures in
    let leads_on : leads (row_at c.loop-i.i rs) (drop (c.loop-i.i + 1) rs) ≡ true = elim c.else-j-n.branch [
      | else-j-n-via-then-j-n+else-not-key_rises w ↦ sym (leads_next rs c.loop-i.i (omega (arith, n, w.if-j-n.true)) r w.row_at.ensures) ∙ sym w.key_rises.ensures ∙ w.if-not-key_rises.false
      | else-j-n-via-else-j-n w ↦ leads_none (row_at c.loop-i.i rs) rs (c.loop-i.i + 1) (omega (arith, n, w.if-j-n.false))
    ] in
    rw c.counted-t.ensures (passing_turn c.args.seq rs c.loop-i.t c.loop-i.i c.loop-i.invariant (omega (arith, n)) (c.row_is_sound.ensures ∙ ap (row_sound c.args.seq) r) c.if-not-row_is_sound.false leads_on (c.place-place.ensures ∙ ap (λ (x : Row). x.place) r) (c.weight-weight.ensures ∙ ap (λ (x : Row). x.weight) r) (search rules))
