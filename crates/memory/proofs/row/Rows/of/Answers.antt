-- The rows of a view are read from the bytes behind the head.
use mathlib.Core.Path.{ap, ◌∙◌}
use Prim.Native.Nat.{ℕ, ◌-◌}
use native.Mathlib.Omega.{arith}
use mathlib.Core.List.{List}
use lib.ListN.{length, drop, length-drop}
use lib.Seq.{take_all}
use Rattle.rules.specs.Memory.{rows_of, view_rows}
use Rattle.rules.specs.Layout.{head_size}
use Rattle.rules.proofs.Foreign.{rows_of_length}
use Rattle.memory.proofs.row.Rows.of.Goals as goal

pub returns : goal.returns
unfolding view_rows
returns c =
    let l : List ℕ = c.args.state.now in
    let e = ap (rows_of c.args.n) (take_all (length l - head_size) (drop head_size l) (rw length-drop (omega arith))) in
    record { rows = e; len = ap length e ∙ rows_of_length c.args.n (drop head_size l) }
