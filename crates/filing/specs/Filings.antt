-- A path that can be written; a row that is free, or may leave for another.
use Rattle.std.specs.Prelude.{ℕ, ◌+◌, ◌*◌, ◌≤◌, ◌<◌, ◌≡◌, true, List, length, None}
use Rattle.types.specs.declared.coord.Path.{Path}
use Rattle.types.specs.declared.node_addr.NodeAddr.{NodeAddr}
use Rattle.types.specs.Paths.{path_places}
use Rattle.types.specs.Values.{largest_number}
use Rattle.rules.specs.Records.{max_rows, weight_limit}
use Rattle.rules.specs.Rows.{find, in_main, weigh_rows, without_row}
use Rattle.rules.specs.Sound.{ascends}
use Rattle.rules.specs.Memory.{capacity, view_rows}
use Rattle.rules.specs.Layout.{head_size, row_size}
use Rattle.room.specs.declared.victims.Victim.{Victim}
use Rattle.room.specs.Rooms.{Without}

-- a path that can be written: 1 to 32 elements
pub record Writable (p : Path) : Type 0 where
  pub long : 1 ≤ p.len
  pub short : p.len ≤ path_places

-- n rows of a sound state without key k, a row free for it, and a stamp left to draw
pub record Free (k : NodeAddr) (n : ℕ) (l : List ℕ) : Type 0 where
  pub without : Without k n l
  pub room : n < capacity l
  pub seq : (view_rows n l).seq < largest_number

-- v is a row of n, and may leave for a row of key k
pub record Over (k : NodeAddr) (n : ℕ) (v : Victim) (l : List ℕ) : Type 0 where
  pub fits : head_size + n * row_size ≤ length l
  pub inside : v.at < n
  pub rising : ascends (view_rows n l).rows ≡ true
  pub gone : find k (view_rows n l).rows ≡ None
  pub weighs : v.stored ≡ weigh_rows in_main (without_row v.at (view_rows n l).rows)
  pub light : v.stored ≤ max_rows * weight_limit
  pub seq : (view_rows n l).seq < largest_number
