-- The code's answers in the rules' terms.
use Rattle.std.specs.Prelude.{◌≡◌, ℕ, ◌+◌, ◌≤◌, ◌<◌, ◌*◌, List, true, false, length, None, Option, Some, is_some}
use Rattle.std.specs.Option.{ForSome}
use Rattle.types.specs.declared.node_addr.NodeAddr.{NodeAddr}
use Rattle.types.specs.Values.{largest_number}
use Rattle.rules.specs.Records.{Row, State, aside, max_rows, weight_limit}
use Rattle.rules.specs.Rows.{row_at, at_place, in_main, find, without_row, total, weigh_rows, main_count, main_weight}
use Rattle.rules.specs.Sound.{sound, ascends}
use Rattle.rules.specs.Room.{Chosen, Room, make_room, probation_visits, take_out}
use Rattle.rules.specs.Memory.{capacity, view_rows}
use Rattle.stamps.specs.Walked.{walk_from}
use Rattle.room.specs.declared.victims.Choice.{Choice}
use Rattle.room.specs.declared.victims.Chosen.{Chosen as ChosenAnswer}
use Rattle.room.specs.declared.victims.Victim.{Victim}
use Rattle.room.specs.declared.victims.Room.{Room as RoomAnswer}

unfoldable pub chosen_of : Choice → State → Chosen
chosen_of c s = record { made = is_some c.chosen; walk = walk_from s c.examined }

-- ---- a victim left in place

-- a state without the victim, if there is one
unfoldable pub without_victim : Option Victim → State → State
without_victim (Some v) s = take_out v.at s
without_victim None s = s

unfoldable pub room_of : RoomAnswer → State → Room
room_of r s = record { made = r.made; state = without_victim r.victim s; examined = r.examined }

-- the main rows fell from count to left; row i was set aside last
pub record LastAside (count left i : ℕ) (rs : List Row) : Type 0 where
  pub few : left ≤ count
  pub inside : i < length rs
  pub there : at_place aside (row_at i rs) ≡ true

-- the victims stand aside in s, which had count main rows
pub record SetAside (count : ℕ) (c : ChosenAnswer) (s : State) : Type 0 where
  pub mains : c.left ≡ main_count s
  pub weighs : c.stored ≡ main_weight s
  pub light : c.stored ≤ max_rows * weight_limit
  pub last : LastAside count c.left c.last s.rows

-- v is a row of ts, left for the row that takes its place, and the keys are those of rs
pub record LeftAt (v : Victim) (rs ts : List Row) : Type 0 where
  pub inside : v.at < length ts
  pub weighs : v.stored ≡ weigh_rows in_main (without_row v.at ts)
  pub light : v.stored ≤ max_rows * weight_limit
  pub rising : ascends ts ≡ true
  pub gone : (k : NodeAddr) → find k rs ≡ None → find k ts ≡ None

abbrev pub Leaves : Option Victim → List Row → List Row → Type 0
Leaves v rs ts = ForSome v (λ x. LeftAt x rs ts)

-- r, and memory m, tell the room that was sought for w among the n rows of memory l
pub record Settled (time w n : ℕ) (r : RoomAnswer) (l m : List ℕ) : Type 0 where
  pub room : room_of r (view_rows r.rows m) ≡ make_room time w (view_rows n l)
  pub rows : r.rows ≤ n
  pub leaves : Leaves r.victim (view_rows n l).rows (view_rows r.rows m).rows
  pub none : r.made ≡ false → r.victim ≡ None

-- ---- what a row that is filed meets

-- n rows of a sound state, without key k
pub record Without (k : NodeAddr) (n : ℕ) (l : List ℕ) : Type 0 where
  pub sound : sound (capacity l) (view_rows n l) ≡ true
  pub gone : find k (view_rows n l).rows ≡ None

-- enough stamps for room in probation and a row filed
abbrev pub StampsLeft : ℕ → List ℕ → Type 0
StampsLeft n l = (view_rows n l).seq + total probation_visits (view_rows n l).rows < largest_number
