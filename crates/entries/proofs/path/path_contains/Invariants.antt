-- The loop has the rest of the elements still to look at, and the answer depends on them alone.
use mathlib.Core.Path.{◌≡◌}
use lib.ListN.{drop}
use Rattle.types.specs.Paths.{elements, among, contains}
use Rattle.entries.proofs.path.path_contains.Given as goal

abbrev pub invariant-loop-k : goal.invariant-loop-k
invariant-loop-k l = contains l.a l.row.entry.path ≡ among l.a (drop l.k (elements l.row.entry.path))
