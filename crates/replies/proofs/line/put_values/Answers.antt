-- The text of the values that are left, stored at `end`, makes the whole; each value took at most 21 bytes, so there is room.
use native.Mathlib.Omega.{arith}
use Rattle.replies.proofs.Texts.{number_turn}
use Rattle.replies.proofs.line.put_values.Goals as goal

pub loop-value-preserved : goal.loop-value-preserved
loop-value-preserved c =
    let e = c.put_number-end.ensures in number_turn _ _ _ _ _ _ _ _ (omega arith) e.0 e.1 c.loop-value.invariant
