-- What a sweep keeps.
use Rattle.std.specs.Prelude.{ℕ, ◌≡◌, ◌+◌, ◌*◌, ◌≤◌, List, length, Bool, cond, not, ltb}
use Rattle.std.proofs.lemmas.List.Edits.{sets}
use Rattle.types.specs.Paths.{path_places}
use Rattle.rules.specs.Cases.{Every}
use Rattle.rules.specs.Records.{Row}
use Rattle.rules.specs.Rows.{keep_rows, with_only_rows}
use Rattle.rules.specs.Memory.{cut, view_rows}
use Rattle.rules.specs.Layout.{head_size, row_size}
use Rattle.memory.specs.Edits.{OnlyRows}

-- the rows that stay, where those that pass the test leave
unfoldable pub kept_rows : (Row → Bool) → List Row → List Row
kept_rows test rs = keep_rows (λ r. not (test r)) rs

-- row i copied to place j before it
unfoldable pub kept_down : ℕ → ℕ → List ℕ → List ℕ
kept_down i j l = cond (ltb j i) (sets l (head_size + j * row_size) (cut (head_size + i * row_size) row_size l)) l

-- a row's path has 1 to 32 elements
pub record PathFit (r : Row) : Type 0 where
  pub long : 1 ≤ r.entry.path.len
  pub short : r.entry.path.len ≤ path_places

abbrev pub PathsFit : List Row → Type 0
PathsFit rs = Every PathFit rs

-- where R says b of a row whose path fits, so does the test
abbrev pub Tests : (Row → Bool → Type 0) → (Row → Bool) → Type 0
Tests R test = (r : Row) (b : Bool) → PathFit r → R r b → b ≡ test r

-- of n rows those that stay, by R, are the first j
pub record OnlyKept (R : Row → Bool → Type 0) (n j : ℕ) (l m : List ℕ) : Type 0 where
  pub few : j ≤ n
  pub rows : List Row
  pub counted : j ≡ length rows
  pub only : OnlyRows n j rows l m
  pub tested : (test : Row → Bool) → Tests R test → kept_rows test (view_rows n l).rows ≡ rows

-- of n rows those that do not pass the test are the only ones now, and j of them
abbrev pub Swept : (Row → Bool) → ℕ → ℕ → List ℕ → List ℕ → Type 0
Swept test n j l m = (j ≡ length (kept_rows test (view_rows n l).rows)) × (view_rows j m ≡ with_only_rows (kept_rows test (view_rows n l).rows) (view_rows n l))
