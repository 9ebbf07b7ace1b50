-- The last i digits of the rest, stored over what stands, would make the whole text; at i = 0 nothing is left to store.
use mathlib.Core.Path.{◌≡◌}
use Prim.Native.Nat.{◌≤◌}
use lib.Seq.{sets}
use Rattle.rules.specs.Commands.{decimal}
use Rattle.replies.proofs.Digits.{last_digits}
use Rattle.replies.proofs.line.put_decimal.Given as goal

-- the digits that are left, written over what stands, lead to the whole number
abbrev pub invariant-loop-i : goal.invariant-loop-i
invariant-loop-i l = (l.i ≤ 20) × (sets l.out l.at (last_digits l.i l.rest) ≡ sets l.initial.out l.at (decimal l.v))
