-- Parts of the calls' rules, by row.
use Rattle.std.specs.Prelude.{ℕ, Option, None, Some, ◌+◌, ◌-◌, ◌*◌, ◌≤◌, ◌≡◌, List, cond, length}
use Rattle.entries.specs.declared.path.PathPlace.{PathPlace}
use Rattle.types.specs.declared.node_addr.NodeAddr.{NodeAddr}
use Rattle.rules.specs.Cases.{maybe}
use Rattle.rules.specs.Records.{State}
use Rattle.rules.specs.Rows.{row_at}
use Rattle.rules.specs.Entries.{expired, refresh}
use Rattle.rules.specs.Room.{take_out}
use Rattle.rules.specs.Lookups.{rewrite, unexpired_row}
use Rattle.rules.specs.Memory.{cut, view}
use Rattle.rules.specs.Lent.{got_part}
use Rattle.rules.specs.Layout.{coord_entry_size, entry_offset, head_size, places_offset, row_size}

-- get_and_touch, where the key's row is row i
unfoldable pub touched_at : ℕ → ℕ → State → State
touched_at i now s = cond (expired now (row_at i s.rows).entry) (take_out i s) (rewrite (refresh now s.default_ttl) i s)

unfoldable pub touch_says : ℕ → ℕ → State → Option ℕ
touch_says i now s = cond (expired now (row_at i s.rows).entry) None (Some (row_at i s.rows).entry.path.len)

-- the first byte of the path in row i
abbrev pub path_start : ℕ → ℕ
path_start i = head_size + i * row_size + (entry_offset + places_offset)

-- the first byte of an unexpired key's path; 0 where there is none
unfoldable pub place_found : NodeAddr → ℕ → List ℕ → ℕ
place_found k now l = maybe (unexpired_row k now (view l)) 0 path_start

-- the part that a lookup hands back stands at these bytes of the memory, in the key's own row; no bytes where nothing is found
pub record StandsAt (k : NodeAddr) (now : ℕ) (l : List ℕ) (start end : ℕ) : Type 0 where
  pub part : cut start (end - start) l ≡ got_part k now l
  pub ordered : start ≤ end
  pub inside : end ≤ length l
  pub own : start ≡ place_found k now l

-- where the path of row i stands after it; nowhere where the row leaves
unfoldable pub touched_place : ℕ → ℕ → State → PathPlace
touched_place i now s =
    cond (expired now (row_at i s.rows).entry)
    (record { start = 0; end = 0 })
    (record { start = path_start i; end = path_start i + (row_at i s.rows).entry.path.len * coord_entry_size })
