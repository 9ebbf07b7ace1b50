-- The loop has the rest of the bytes still to compare, and the answer depends on them alone.
use mathlib.Core.Path.{◌≡◌}
use lib.ListN.{drop}
use Rattle.types.specs.Addresses.{addr_before, bytes_before}
use Rattle.state.proofs.key.key_rises.Given as goal

abbrev pub invariant-loop-at : goal.invariant-loop-at
invariant-loop-at l = addr_before l.row.key l.next.key ≡ bytes_before (drop l.at l.row.key.0) (drop l.at l.next.key.0)
