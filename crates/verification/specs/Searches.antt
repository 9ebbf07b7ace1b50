-- A row that was searched for.
use Rattle.std.specs.Prelude.{ℕ, ◌<◌, Result, Ok, Err}

-- a row that was found is one of n
abbrev pub Within : ℕ → Result ℕ ℕ → Type 0
Within n (Ok i) = i < n
Within n (Err i) = Unit {0}
