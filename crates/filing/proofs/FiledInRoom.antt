-- The rows that a memory shows, once a row was filed in it.
use mathlib.Core.Path.{◌≡◌, sym, ap, ◌∙◌}
use Prim.Native.Nat.{ℕ}
use mathlib.Core.List.{List}
use lib.ListN.{length}
use Rattle.rules.specs.Records.{State}
use Rattle.rules.specs.Memory.{view_rows}
use Rattle.memory.proofs.RowLaws.{view_length}

-- a view tells how many rows it has
pub rows_there : (n : ℕ) (m : List ℕ) (s : State) → view_rows n m ≡ s → view_rows (length s.rows) m ≡ s
rows_there n m s e = ap (λ (j : ℕ). view_rows j m) (sym (ap (λ (x : State). length x.rows) e) ∙ view_length n m) ∙ e
