-- The loop has the rest of the rows still to check, and the totals are those of the rows passed.
use Rattle.rules.specs.Memory.{view_rows}
use Rattle.state.proofs.PassLaws.{Passing}
use Rattle.state.proofs.pass.rows_are_sound.Given as goal

abbrev pub invariant-loop-i : goal.invariant-loop-i
invariant-loop-i l = Passing l.seq (view_rows l.n l.state).rows l.t l.i
