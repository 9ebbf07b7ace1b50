-- The rows before the key come first, so where row i is none of them the index stays.
use native.Mathlib.Omega.{arith}
use Rattle.memory.proofs.RowLaws.{view_length}
use Rattle.filing.proofs.FiledOverVictim.{absent_before}
use Rattle.filing.proofs.file.index_without.Goals as goal

pub returns-else-i-at : goal.returns-else-i-at
returns-else-i-at c = absent_before _ _ _ _ c.requires.0 (omega (arith, view_length c.args.n c.args.state.now, c.requires.3)) c.index_for-at.ensures c.if-i-at.false
