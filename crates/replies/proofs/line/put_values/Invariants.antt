-- The text of the values that are left, stored at `end`, makes the whole; each value took at most 21 bytes, so there is room.
use Rattle.replies.proofs.Texts.{Written}
use Rattle.replies.proofs.line.put_values.Given as goal

abbrev pub invariant-loop-value : goal.invariant-loop-value
invariant-loop-value l = Written l.initial.out l.at l.value-items l.out l.end l.value-index
