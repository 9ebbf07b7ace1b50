-- An address that a function holds by value has sixteen bytes, each below 256, which its type tells the prover.
use mathlib.Core.Path.{refl}
use Rattle.memory.proofs.OwnedValues.{owned_addr}
use Rattle.boundary.proofs.owned.Goals as goal

pub returns : goal.returns
returns c = (refl, owned_addr c.args.a _ c.well_formed.0)
