-- The bytes that the array has are the cut, and std's number of them is that of `goes_on`.
use mathlib.Core.Path.{◌≡◌}
use Prim.Native.Nat.{◌+◌, ◌-◌}
use native.Mathlib.Omega.{arith}
use Rattle.rules.specs.Memory.{cut}
use Rattle.search.proofs.BigEndianLaws.{eight_number}
use Rattle.search.proofs.keys.be_u64.Goals as goal

pub returns : goal.returns
returns c =
    let e : c.args.at + 8 - c.args.at ≡ 8 = omega arith in
    let bytes : c.unwrap.result ≡ cut c.args.at 8 c.args.s.now = rw e at (rw c.unwrap.ensures at c.try_into.ensures.1).same in
    rw (c.from_be_bytes.ensures, bytes) (eight_number c.args.s.now c.args.at c.requires (λ i. (c.type_inv.s i).fits))
