-- Lookups and sweeps of document 01.
use Rattle.std.specs.Prelude.{ℕ, List, Bool, true, false, cond, not, Option, None, Some}
use Rattle.types.specs.declared.node_addr.NodeAddr.{NodeAddr}
use Rattle.types.specs.declared.coord.CoordEntry.{CoordEntry}
use Rattle.types.specs.Paths.{elements}
use Rattle.types.specs.declared.entry.CacheEntry.{CacheEntry}
use Rattle.rules.specs.Cases.{maybe}
use Rattle.rules.specs.Records.{Entry, Row, State, parked, entry_value}
use Rattle.rules.specs.Rows.{row_at, at_place, find, change_row, keep_rows, count_rows, with_rows, with_only_rows}
use Rattle.rules.specs.Entries.{expired, refresh, mark_hint, drop_mtu}
use Rattle.rules.specs.Room.{refile, take_out}

-- the row of an unexpired key
unfoldable pub unexpired_row : NodeAddr → ℕ → State → Option ℕ
unexpired_row k now s = maybe (find k s.rows) None (λ i. cond (expired now (row_at i s.rows).entry) None (Some i))

-- get: an unexpired key's stored path, the elements up to its length and no more
unfoldable pub get : NodeAddr → ℕ → State → Option (List CoordEntry)
get k now s = maybe (unexpired_row k now s) None (λ i. Some (elements (row_at i s.rows).entry.path))

unfoldable pub with_entry : Entry → Row → Row
with_entry e r = record { key = r.key; entry = e; place = r.place; stamp_first = r.stamp_first; stamp_seq = r.stamp_seq; weight = r.weight }

-- row i with another entry; the stamp stays as it is
unfoldable pub rewrite : (Entry → Entry) → ℕ → State → State
rewrite f i s = with_rows (change_row (λ r. with_entry (f r.entry) r) i s.rows) s

-- get_and_touch: removes an expired row, otherwise refreshes a held key
unfoldable pub touched : NodeAddr → ℕ → State → State
touched k now s = maybe (find k s.rows) s (λ i. cond (expired now (row_at i s.rows).entry) (take_out i s) (rewrite (refresh now s.default_ttl) i s))

-- remove: the removed entry or nothing, expired or not
unfoldable pub removed_entry : NodeAddr → State → Option CacheEntry
removed_entry k s = maybe (find k s.rows) None (λ i. Some (entry_value (row_at i s.rows).entry))

-- demote: makes the key's entry a hint, refiles it if parked
unfoldable pub demoted : NodeAddr → State → State
demoted k s = maybe (find k s.rows) s (λ i.
    let r = row_at i s.rows in
    cond (at_place parked r) (refile (mark_hint r.entry) r.weight i s) (rewrite mark_hint i s))

-- a key is held if it has a row
unfoldable pub holds : NodeAddr → State → Bool
holds k s = maybe (find k s.rows) false (λ i. true)

-- clear_path_mtu: drops the MTU of a held key
unfoldable pub clear_path_mtu : NodeAddr → State → State
clear_path_mtu k s = maybe (find k s.rows) s (λ i. rewrite drop_mtu i s)

-- a sweep: the rows whose entries match leave
unfoldable pub sweep : (Entry → Bool) → State → State
sweep m s = with_only_rows (keep_rows (λ r. not (m r.entry)) s.rows) s

-- how many rows match
unfoldable pub matching : (Entry → Bool) → State → ℕ
matching m s = count_rows (λ r. m r.entry) s.rows
