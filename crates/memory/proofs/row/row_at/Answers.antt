-- The bytes of row i are those that the view reads as row i.
use mathlib.Core.Path.{◌≡◌, ap, sym, ◌∙◌}
use Prim.Native.Nat.{ℕ, ◌+◌, ◌*◌, ◌-◌}
use native.Mathlib.Omega.{arith}
use lib.ListN.{take, drop}
use Rattle.rules.specs.Memory.{row_of}
use Rattle.rules.specs.Layout.{head_size, row_size}
use Rattle.memory.proofs.Fields.{row_at_lem}
use Rattle.memory.proofs.row.row_at.Goals as goal

pub returns : goal.returns
returns c =
    let at : ℕ = head_size + c.args.i * row_size in
    let e : at + row_size - at ≡ row_size = omega arith in
    ap (λ (k : ℕ). row_of (take k (drop at c.args.state.now))) e ∙ sym (row_at_lem c.args.n c.args.i c.args.state.now c.requires.0)
