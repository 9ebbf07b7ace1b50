-- When a state of R rows is sound, in the order of document 01.
use Rattle.std.specs.Prelude.{ℕ, ◌+◌, List, [], ◌∷◌, Bool, true, ◌&&◌, ◌||◌, not, leb, eqb, length}
use Rattle.types.specs.Addresses.{addr_before}
use Rattle.types.specs.Paths.{path_places, path_weight}
use Rattle.rules.specs.Records.{Entry, Row, State, parked, probation, hint_source, verified_source, some_mtu, max_rows, probation_limit, main_limit, weight_limit}
use Rattle.rules.specs.Rows.{at_place, main_count, main_weight, probation_count}

-- the row's key stands before the first of these
unfoldable pub leads : Row → List Row → Bool
leads r [] = true
leads r (x ∷ xs) = addr_before r.key x.key

-- keys strictly ascend
unfoldable pub ascends : List Row → Bool
ascends [] = true
ascends (r ∷ rs) = leads r rs && ascends rs

unfoldable pub all : (Row → Bool) → List Row → Bool
all p [] = true
all p (r ∷ rs) = p r && all p rs

abbrev pub from_verified : Entry → Bool
from_verified e = eqb e.source verified_source

-- places, sources, MTU marks and path lengths are legal
unfoldable pub legal : Row → Bool
legal r = leb r.place probation && (leb r.entry.source hint_source && (leb r.entry.mtu_mark some_mtu && (leb 1 r.entry.path.len && leb r.entry.path.len path_places)))

-- each weight is from its path weight to the limit
unfoldable pub weighed : Row → Bool
weighed r = leb (path_weight r.entry.path) r.weight && leb r.weight weight_limit

-- hints have verified_until 0; probation rows are hints; a parked row is Verified with stamp first = verified_until
unfoldable pub sourced : Row → Bool
sourced r =
    (from_verified r.entry || eqb r.entry.verified_until 0)
    && ((not (at_place probation r) || not (from_verified r.entry))
    && (not (at_place parked r) || (from_verified r.entry && eqb r.stamp_first r.entry.verified_until)))

-- what is asked of each row; q is the head's seq, and each stamp's seq is ≤ q
unfoldable pub row_sound : ℕ → Row → Bool
row_sound q r = legal r && (weighed r && (leb r.stamp_seq q && sourced r))

-- the head counts the rows: of a count over R some rows are missing, and main and probation rows would be more than M + Q
unfoldable pub sound : ℕ → State → Bool
sound R s =
    leb R max_rows
    && (leb (s.max_entries + probation_limit s) R
    && (leb (main_count s) (main_limit R s)
    && (leb (probation_count s) (probation_limit s)
    && (eqb s.row_count (length s.rows)
    && (eqb s.stored_weight (main_weight s)
    && (ascends s.rows
    && all (row_sound s.seq) s.rows))))))
