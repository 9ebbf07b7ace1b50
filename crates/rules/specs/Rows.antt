-- Rows of a state: by key, by stamp, by index; sums over them; states with other rows.
use Rattle.std.specs.Prelude.{ℕ, zero, suc, ◌+◌, ◌*◌, ◌-◌, List, [], ◌∷◌, ◌++◌, Bool, cond, ◌&&◌, ◌||◌, ltb, eqb, length, get_or, replicate, Option, None, Some}
use Rattle.types.specs.declared.node_addr.NodeAddr.{NodeAddr}
use Rattle.types.specs.Addresses.{same_addr, addr_before}
use Rattle.rules.specs.Records.{Row, State, empty_entry, probation, with_held}
use Rattle.rules.specs.Layout.{row_size}

-- what stands past the last row; nothing reads it
unfoldable pub blank_row : Row
blank_row = record { key = record { 0 = [] }; entry = empty_entry 0; place = 0; stamp_first = 0; stamp_seq = 0; weight = 0 }

-- row i
abbrev pub row_at : ℕ → List Row → Row
row_at i rs = get_or rs i blank_row

unfoldable pub at_place : ℕ → Row → Bool
at_place p r = eqb r.place p

-- ByUse and Parked are segment Main
unfoldable pub in_main : Row → Bool
in_main r = ltb r.place probation

abbrev pub in_probation : Row → Bool
in_probation r = at_place probation r

-- stamps compare by first, then seq
unfoldable pub stamp_before : Row → Row → Bool
stamp_before a b = ltb a.stamp_first b.stamp_first || (eqb a.stamp_first b.stamp_first && ltb a.stamp_seq b.stamp_seq)

-- ---- rows by key, by stamp, by index

unfoldable pub next_index : Option ℕ → Option ℕ
next_index None = None
next_index (Some i) = Some (suc i)

-- the row of key k
unfoldable pub find : NodeAddr → List Row → Option ℕ
find k [] = None
find k (r ∷ rs) = cond (same_addr k r.key) (Some 0) (next_index (find k rs))

-- row 0, or the lowest of the rows behind it
unfoldable pub lower_of : Row → List Row → Option ℕ → ℕ
lower_of r rs None = 0
lower_of r rs (Some i) = cond (stamp_before (row_at i rs) r) (suc i) 0

-- the lowest stamp of a place; equal stamps go to the lower key
unfoldable pub lowest_stamp : ℕ → List Row → Option ℕ
lowest_stamp p [] = None
lowest_stamp p (r ∷ rs) = cond (at_place p r) (Some (lower_of r rs (lowest_stamp p rs))) (next_index (lowest_stamp p rs))

-- f at row i, and every other row as it was
unfoldable pub change_row : (Row → Row) → ℕ → List Row → List Row
change_row f i [] = []
change_row f zero (r ∷ rs) = f r ∷ rs
change_row f (suc i) (r ∷ rs) = r ∷ change_row f i rs

-- every row but row i
unfoldable pub without_row : ℕ → List Row → List Row
without_row i [] = []
without_row zero (r ∷ rs) = rs
without_row (suc i) (r ∷ rs) = r ∷ without_row i rs

-- the rows that pass
unfoldable pub keep_rows : (Row → Bool) → List Row → List Row
keep_rows p [] = []
keep_rows p (r ∷ rs) = cond (p r) (r ∷ keep_rows p rs) (keep_rows p rs)

-- a new row at its place in the order of keys
unfoldable pub insert_in_order : Row → List Row → List Row
insert_in_order r [] = r ∷ []
insert_in_order r (x ∷ xs) = cond (addr_before r.key x.key) (r ∷ x ∷ xs) (x ∷ insert_in_order r xs)

-- ---- sums over rows

unfoldable pub total : (Row → ℕ) → List Row → ℕ
total f [] = 0
total f (r ∷ rs) = f r + total f rs

abbrev pub count_rows : (Row → Bool) → List Row → ℕ
count_rows p rs = total (λ r. cond (p r) 1 0) rs

abbrev pub weigh_rows : (Row → Bool) → List Row → ℕ
weigh_rows p rs = total (λ r. cond (p r) r.weight 0) rs

abbrev pub main_count : State → ℕ
main_count s = count_rows in_main s.rows

-- the sum of main weights
abbrev pub main_weight : State → ℕ
main_weight s = weigh_rows in_main s.rows

abbrev pub probation_count : State → ℕ
probation_count s = count_rows in_probation s.rows

-- ---- states with other rows

-- n zero rows, as bytes
unfoldable pub zero_rows : ℕ → List ℕ
zero_rows n = replicate (n * row_size) 0

-- rows changed in place
unfoldable pub with_rows : List Row → State → State
with_rows rs s = with_held s.stored_weight s.row_count rs s.rest s

-- only these rows stay; each row vacated at the end becomes zero, and what is beyond that stays
unfoldable pub with_only_rows : List Row → State → State
with_only_rows rs s = with_held (weigh_rows in_main rs) (length rs) rs (zero_rows (length s.rows - length rs) ++ s.rest) s
