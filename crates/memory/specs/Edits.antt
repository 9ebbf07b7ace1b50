-- States with one number of the head changed; rows with some fields changed.
use Rattle.std.specs.Prelude.{ℕ, ◌+◌, ◌*◌, ◌-◌, ◌≡◌, List, ◌++◌, length, take, drop}
use Rattle.rules.specs.Records.{Row, State, with_held}
use Rattle.rules.specs.Rows.{zero_rows}
use Rattle.rules.specs.Memory.{view_rows}
use Rattle.rules.specs.Layout.{head_size, row_size}

unfoldable pub with_stored_weight : ℕ → State → State
with_stored_weight v s = with_held v s.row_count s.rows s.rest s

unfoldable pub with_row_count : ℕ → State → State
with_row_count v s = with_held s.stored_weight v s.rows s.rest s

-- a place and a stamp
unfoldable pub stamped_as : ℕ → ℕ → ℕ → Row → Row
stamped_as p f q r = record { key = r.key; entry = r.entry; place = p; stamp_first = f; stamp_seq = q; weight = r.weight }

unfoldable pub with_weight : ℕ → Row → Row
with_weight w r = record { key = r.key; entry = r.entry; place = r.place; stamp_first = r.stamp_first; stamp_seq = r.stamp_seq; weight = w }

-- of a memory l with n rows, m has the same head, the same bytes past them, and these j rows in front
pub record OnlyRows (n j : ℕ) (rs : List Row) (l m : List ℕ) : Type 0 where
  pub size : length m ≡ length l
  pub head : take head_size m ≡ take head_size l
  pub rows : (view_rows j m).rows ≡ rs
  pub rest : (view_rows n m).rest ≡ (view_rows n l).rest

-- the first j of n rows stay, with this stored weight; the others become zero
unfoldable pub shrunk : ℕ → ℕ → ℕ → List ℕ → State
shrunk n j w l = with_held w j (view_rows j l).rows (zero_rows (n - j) ++ (view_rows n l).rest) (view_rows n l)

-- while rows are kept together: of a memory l, m has the same head, these j rows in front, and from row i on the same bytes
pub record Keeping (i j : ℕ) (rs : List Row) (l m : List ℕ) : Type 0 where
  pub size : length m ≡ length l
  pub head : take head_size m ≡ take head_size l
  pub rows : (view_rows j m).rows ≡ rs
  pub tail : drop (head_size + i * row_size) m ≡ drop (head_size + i * row_size) l
