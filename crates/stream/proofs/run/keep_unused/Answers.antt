-- A block that is copied to the front is, by `moved`, cut out and followed by what stood behind it.
use mathlib.Core.Path.{refl}
use Prim.Native.Nat.{◌-◌}
use native.Mathlib.Omega.{arith}
use Rattle.raw.proofs.MoveLaws.{moved}
use Rattle.stream.proofs.run.keep_unused.Goals as goal

pub returns : goal.returns
returns c = (refl, rw c.copy_within.ensures.after (moved c.args.buffer.now c.args.used c.args.held 0 (c.args.held - c.args.used) (omega arith) (omega arith)))
