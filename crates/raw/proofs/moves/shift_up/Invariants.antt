-- The bytes from i up to `to` have moved, from the last one down, so the byte read is below every store so far.
use mathlib.Core.Path.{◌≡◌}
use Prim.Native.Nat.{◌≤◌}
use Rattle.raw.proofs.MoveLaws.{up}
use Rattle.rules.specs.Layout.{row_size}
use Rattle.raw.proofs.moves.shift_up.Given as goal

abbrev pub invariant-loop-i : goal.invariant-loop-i
invariant-loop-i l = (l.from ≤ l.i) × (l.i ≤ l.to) × (l.s ≡ up l.i l.to row_size l.initial.s)
