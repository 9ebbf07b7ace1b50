-- Behind the length stand the bytes of the first i elements; the zeros stored past the last are those of zero elements.
use mathlib.Core.Path.{◌≡◌}
use Prim.Native.Nat.{◌+◌}
use lib.ListN.{take}
use lib.Seq.{sets}
use Rattle.rules.specs.Memory.{coord_entries_bytes}
use Rattle.rows.proofs.values.store_path.Given as goal

abbrev pub invariant-loop-i : goal.invariant-loop-i
invariant-loop-i l = l.s ≡ sets l.initial.s (l.at + 1) (coord_entries_bytes (take l.i l.p.entries))
