-- What was added up, and what the rows still to come add, are the totals; each row adds at most 1, and at most the largest number.
use mathlib.Core.Path.{◌≡◌}
use Prim.Native.Nat.{◌+◌, ◌*◌, ◌≤◌}
use lib.ListN.{length}
use Rattle.types.specs.Values.{largest_number}
use Rattle.rules.specs.Rows.{total, count_rows}
use Rattle.rules.specs.Entries.{expired}
use Rattle.rules.specs.Memory.{view_rows}
use Rattle.statistics.proofs.Means.{age}
use Rattle.statistics.proofs.add_up.Given as goal

abbrev pub invariant-loop-row : goal.invariant-loop-row
invariant-loop-row l =
    (l.expired + length l.row-iterator ≤ l.n) × (l.expired + count_rows (λ x. expired l.time x.entry) l.row-iterator ≡ count_rows (λ x. expired l.time x.entry) (view_rows l.n l.state).rows)
    × (l.total + length l.row-iterator * largest_number ≤ l.n * largest_number) × (l.total + total (age l.time) l.row-iterator ≡ total (age l.time) (view_rows l.n l.state).rows)
