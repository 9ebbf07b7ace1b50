-- The first i rows were put back and the rest left; after n turns that is put_back on every row.
use Rattle.room.proofs.RowsAside.{Backed}
use Rattle.room.proofs.victims.put_back.Given as goal

abbrev pub invariant-loop-i : goal.invariant-loop-i
invariant-loop-i l = Backed l.n l.i l.initial.state l.state
