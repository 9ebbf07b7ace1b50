-- Paths with different counts differ; with equal counts the answer is that for the elements from k on, by `path_turn`.
use mathlib.Core.Path.{◌≡◌}
use lib.ListN.{drop}
use Rattle.types.specs.Paths.{elements, same_entries, same_path}
use Rattle.entries.proofs.path.path_is.Given as goal

abbrev pub invariant-loop-k : goal.invariant-loop-k
invariant-loop-k l = same_path l.row.entry.path l.path ≡ same_entries (drop l.k (elements l.row.entry.path)) (drop l.k (elements l.path))
