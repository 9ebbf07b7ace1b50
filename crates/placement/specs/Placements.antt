-- What a branch of placement meets, and what it leaves: its answer, and its state in the memory.
use Rattle.std.specs.Prelude.{◌≡◌, List, Bool, true, false, ℕ, ◌≤◌, ◌<◌, length}
use Rattle.types.specs.declared.node_addr.NodeAddr.{NodeAddr}
use Rattle.types.specs.declared.placed.Segment.{Segment}
use Rattle.types.specs.declared.placed.Segment.TheVariants.{Main}
use Rattle.types.specs.declared.placed.HintOutcome.TheVariants.{Inserted, Rejected}
use Rattle.types.specs.declared.placed.Placed.{Placed}
use Rattle.rules.specs.Records.{Row, State}
use Rattle.rules.specs.Room.{Room}
use Rattle.rules.specs.Rows.{row_at}
use Rattle.rules.specs.Sound.{sound}
use Rattle.rules.specs.Placement.{PlaceResult}
use Rattle.rules.specs.Refusals.{last_seq}
use Rattle.rules.specs.Memory.{capacity, view_rows}
use Rattle.placement.specs.declared.operands.Hint.{Hint}
use Rattle.placement.specs.declared.held_key.Held.{Held}
use Rattle.placement.specs.Operands.{held_outcome}

pub record Placing (u : PlaceResult) (r : Placed) (m : List ℕ) : Type 0 where
  pub says : r ≡ u.placed
  pub state : view_rows (length u.state.rows) m ≡ u.state

-- no room was made
abbrev pub no_room : State → ℕ → Room
no_room s examined = record { made = false; state = s; examined = examined }

-- a new key that is written
abbrev pub inserted_as : ℕ → Segment → Bool → ℕ → Placed
inserted_as added segment unfunded examined = record { outcome = Inserted; added_weight = added; segment = segment; unfunded = unfunded; examined = examined }

-- Rejected: added 0, segment Main
abbrev pub rejected_as : Bool → ℕ → Placed
rejected_as unfunded examined = record { outcome = Rejected; added_weight = 0; segment = Main; unfunded = unfunded; examined = examined }

-- row i of n
abbrev pub row_in : ℕ → ℕ → List ℕ → Row
row_in n i l = row_at i (view_rows n l).rows

-- n rows of a sound state; row i is that of key k
pub record Holds (k : NodeAddr) (n i : ℕ) (l : List ℕ) : Type 0 where
  pub sound : sound (capacity l) (view_rows n l) ≡ true
  pub inside : i < n
  pub key : (row_in n i l).key ≡ k

-- a hint past step 3: its key holds the row, and the outcome is that of the two paths
pub record HeldHint (h : Hint) (at : Held) (l : List ℕ) : Type 0 where
  pub holds : Holds h.key at.n at.i l
  pub seq : (view_rows at.n l).seq ≤ last_seq
  pub outcome : at.outcome ≡ held_outcome h (row_in at.n at.i l)
