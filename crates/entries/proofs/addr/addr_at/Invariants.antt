-- The whole comparison is `same` and that of the bytes from i on; a turn moves the test of one byte into `same`.
use mathlib.Core.Path.{◌≡◌}
use mathlib.Core.Bool.{◌&&◌}
use lib.ListN.{length, drop}
use Rattle.types.specs.Addresses.{same_bytes}
use Rattle.rules.specs.Memory.{cut}
use Rattle.rules.specs.Layout.{address_size}
use Rattle.entries.proofs.addr.addr_at.Given as goal

abbrev pub invariant-loop-i : goal.invariant-loop-i
invariant-loop-i l = (length l.a.0 ≡ address_size) × (same_bytes l.a.0 (cut l.at address_size l.state) ≡ (l.same && same_bytes (drop l.i l.a.0) (drop l.i (cut l.at address_size l.state))))
