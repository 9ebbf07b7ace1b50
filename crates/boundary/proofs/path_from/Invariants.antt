-- Before each turn the first k places hold the bytes' first k elements and the rest are zeros; when k is the number held, that is the path.
use Rattle.boundary.proofs.Operands.{Copied}
use Rattle.boundary.proofs.path_from.Given as goal

abbrev pub invariant-loop-k : goal.invariant-loop-k
invariant-loop-k l = Copied l.bytes l.held l.k l.entries
