-- The code's answers in the rules' terms.
use Rattle.std.specs.Prelude.{ℕ, List, cond, ◌&&◌, ◌||◌, ltb, eqb, ◌≡◌, ◌+◌, ◌*◌, ◌≤◌, ◌<◌, length, Option, None, Some}
use Rattle.rules.specs.Records.{Row, State, by_use, parked}
use Rattle.rules.specs.Rows.{at_place, in_main, lowest_stamp, count_rows}
use Rattle.rules.specs.Room.{Walk, Sought, visits_left}
use Rattle.rules.specs.Memory.{view_rows}
use Rattle.rules.specs.Layout.{head_size, number_limit, row_size}
use Rattle.stamps.specs.declared.lowest.Best.{Best}
use Rattle.stamps.specs.declared.lowest.LowestStamp.{LowestStamp}
use Rattle.stamps.specs.declared.lowest.LowestOfMain.{LowestOfMain}
use Rattle.stamps.specs.declared.walk.Victim.{Victim}

-- a state, after e keys were taken up
abbrev pub walk_from : State → ℕ → Walk
walk_from s e = record { state = s; examined = e }

unfoldable pub sought_of : Victim → State → Sought
sought_of v s = record { victim = v.found; walk = walk_from s v.examined }

-- ---- the best row of a search, of n rows

abbrev pub no_row : ℕ → Best
no_row n = record { row = n; first = 0; seq = 0 }

unfoldable pub best_row : ℕ → Best → Option ℕ
best_row n b = cond (ltb b.row n) (Some b.row) None

-- the best so far, if there is one and its stamp is before row i's
unfoldable pub lower_best : ℕ → Best → ℕ → ℕ → ℕ → Best
lower_best n b i f q = cond (ltb b.row n && (ltb b.first f || (eqb b.first f && ltb b.seq q))) b (record { row = i; first = f; seq = q })

-- row r, which stands at i, against the best so far, if it is at place p
unfoldable pub lower_row : ℕ → ℕ → ℕ → Row → Best → Best
lower_row n p i r b = cond (at_place p r) (lower_best n b i r.stamp_first r.stamp_seq) b

-- ---- what one pass finds

pub record LowestIs (p : ℕ) (m : LowestStamp) (rs : List Row) : Type 0 where
  pub row : m.row ≡ lowest_stamp p rs
  pub count : m.count ≡ count_rows (at_place p) rs

pub record MainIs (m : LowestOfMain) (rs : List Row) : Type 0 where
  pub parked : m.parked ≡ lowest_stamp parked rs
  pub by_use : m.by_use ≡ lowest_stamp by_use rs
  pub count : m.count ≡ count_rows in_main rs

-- n rows are there, with their lowest stamps, and no stamp of a walk overflows
abbrev pub Walkable : ℕ → ℕ → LowestOfMain → List ℕ → Type 0
Walkable n time lowest l =
    (head_size + n * row_size ≤ length l) × ((view_rows n l).seq + visits_left time (walk_from (view_rows n l) 0) < number_limit) × MainIs lowest (view_rows n l).rows
