-- The bytes from `at` up to i are those that stood a row further on; the byte read, at i + ROW, is past every store so far.
use mathlib.Core.Path.{◌≡◌}
use Rattle.raw.proofs.MoveLaws.{down}
use Rattle.rules.specs.Layout.{row_size}
use Rattle.raw.proofs.moves.shift_down.Given as goal

abbrev pub invariant-loop-i : goal.invariant-loop-i
invariant-loop-i l = l.s ≡ down l.at l.i row_size l.initial.s
