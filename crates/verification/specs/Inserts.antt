-- What a verified insert meets that is done, and what it leaves: its answer, and its state in the memory.
use Rattle.std.specs.Prelude.{◌≡◌, ◌≤◌, ℕ, List, true, false}
use Rattle.types.specs.declared.node_addr.NodeAddr.{NodeAddr}
use Rattle.types.specs.declared.coord.Path.{Path}
use Rattle.types.specs.declared.placed.VerifiedInsert.{VerifiedInsert}
use Rattle.types.specs.Paths.{path_weight}
use Rattle.rules.specs.Sound.{sound}
use Rattle.rules.specs.Room.{Walk}
use Rattle.rules.specs.Refusals.{last_seq, no_place_for}
use Rattle.rules.specs.Memory.{capacity, view_rows}
use Rattle.filing.specs.Filings.{Writable}
use Rattle.filing.specs.InRoom.{Shows}

-- n rows of a sound state, with stamps left, and a place in main for path p of key k
pub record Allowed (k : NodeAddr) (p : Path) (time n : ℕ) (l : List ℕ) : Type 0 where
  pub sound : sound (capacity l) (view_rows n l) ≡ true
  pub path : Writable p
  pub seq : (view_rows n l).seq ≤ last_seq
  pub place : no_place_for (capacity l) (view_rows n l) (record { key = k; path = p; time = time }) ≡ false

pub record Inserting (v : Walk) (p : Path) (r : VerifiedInsert) (m : List ℕ) : Type 0 where
  pub says : r ≡ record { weight = path_weight p; examined = v.examined }
  pub state : Shows v.state m
