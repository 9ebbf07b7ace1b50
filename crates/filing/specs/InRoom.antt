-- What a row asks that is filed once room was sought, and what it leaves.
use Rattle.std.specs.Prelude.{◌≡◌, ℕ, List, Option, Some, None, length}
use Rattle.types.specs.declared.node_addr.NodeAddr.{NodeAddr}
use Rattle.rules.specs.Records.{State}
use Rattle.rules.specs.Memory.{view_rows}
use Rattle.room.specs.declared.victims.Victim.{Victim}
use Rattle.filing.specs.Filings.{Free, Over}

-- n rows, from which the victim leaves for a row of key k, or beside which one is free
pub record Takes (k : NodeAddr) (v : Option Victim) (n : ℕ) (l : List ℕ) : Type 0 where
  pub free : v ≡ None → Free k n l
  pub over : (x : Victim) → v ≡ Some x → Over k n x l

-- memory l has the rows of state s, and shows it
abbrev pub Shows : State → List ℕ → Type 0
Shows s l = view_rows (length s.rows) l ≡ s
