-- Records of document 01: entry, row, head; their codes; the bounds.
-- Fields have 01's names.
use Rattle.std.specs.Prelude.{ℕ, ◌*◌, ◌-◌, ◌/◌, max, List, cond, eqb, None, Some}
use Rattle.types.specs.declared.node_addr.NodeAddr.{NodeAddr}
use Rattle.types.specs.declared.coord.Path.{Path}
use Rattle.types.specs.Paths.{addrs_per_entry, as_written, empty_path, path_places}
use Rattle.types.specs.declared.entry.CacheEntry.{CacheEntry}
use Rattle.types.specs.Values.{source_of}

-- path, created_at, last_used, expires_at; path_mtu as a mark and a value; source; verified_until (0 for a hint)
pub record Entry : Type 0 where
  pub path : Path
  pub created_at : ℕ
  pub last_used : ℕ
  pub expires_at : ℕ
  pub mtu_mark : ℕ
  pub mtu : ℕ
  pub source : ℕ
  pub verified_until : ℕ

-- a key address, an entry, a place, a stamp (first, seq) and a weight
pub record Row : Type 0 where
  pub key : NodeAddr
  pub entry : Entry
  pub place : ℕ
  pub stamp_first : ℕ
  pub stamp_seq : ℕ
  pub weight : ℕ

-- the head's five numbers, the rows held from row 0 on, and all bytes past them
pub record State : Type 0 where
  pub max_entries : ℕ
  pub default_ttl : ℕ
  pub seq : ℕ
  pub stored_weight : ℕ
  pub row_count : ℕ
  pub rows : List Row
  pub rest : List ℕ

-- ---- a state with some fields changed; every change of a state is made of these two, but for fresh, which sets the limits

unfoldable pub with_seq : ℕ → State → State
with_seq v s = record { max_entries = s.max_entries; default_ttl = s.default_ttl; seq = v; stored_weight = s.stored_weight; row_count = s.row_count; rows = s.rows; rest = s.rest }

-- the stored weight, the row count, the rows held, and all bytes past them
abbrev pub with_held : ℕ → ℕ → List Row → List ℕ → State → State
with_held w n rs past s = record { max_entries = s.max_entries; default_ttl = s.default_ttl; seq = s.seq; stored_weight = w; row_count = n; rows = rs; rest = past }

-- ---- codes: numbers, so that every byte of the memory is seen, also one that names no kind

-- places
abbrev pub by_use : ℕ
by_use = 0

abbrev pub parked : ℕ
parked = 1

abbrev pub probation : ℕ
probation = 2

-- where a victim waits until it is known whether there is room; no state at rest has it (SoundKept.no_row_aside)
abbrev pub aside : ℕ
aside = 3

-- sources
abbrev pub verified_source : ℕ
verified_source = 0

abbrev pub hint_source : ℕ
hint_source = 1

-- MTU marks
abbrev pub no_mtu : ℕ
no_mtu = 0

abbrev pub some_mtu : ℕ
some_mtu = 1

-- ---- entries, made and with some fields changed; what makes or changes an entry is made of these, but for Memory.entry_of

-- created at this time; path, times and source are still to be set
abbrev pub empty_entry : ℕ → Entry
empty_entry now = record { path = empty_path; created_at = now; last_used = 0; expires_at = 0; mtu_mark = no_mtu; mtu = 0; source = 0; verified_until = 0 }

-- a path, as a row holds it
abbrev pub with_path : Path → Entry → Entry
with_path p e = record { path = as_written p; created_at = e.created_at; last_used = e.last_used; expires_at = e.expires_at; mtu_mark = e.mtu_mark; mtu = e.mtu; source = e.source; verified_until = e.verified_until }

-- last_used and expires_at
abbrev pub with_times : ℕ → ℕ → Entry → Entry
with_times used expires e = record { path = e.path; created_at = e.created_at; last_used = used; expires_at = expires; mtu_mark = e.mtu_mark; mtu = e.mtu; source = e.source; verified_until = e.verified_until }

-- path_mtu
abbrev pub with_mtu : ℕ → ℕ → Entry → Entry
with_mtu mark m e = record { path = e.path; created_at = e.created_at; last_used = e.last_used; expires_at = e.expires_at; mtu_mark = mark; mtu = m; source = e.source; verified_until = e.verified_until }

-- source and verified_until
abbrev pub with_source : ℕ → ℕ → Entry → Entry
with_source source until e = record { path = e.path; created_at = e.created_at; last_used = e.last_used; expires_at = e.expires_at; mtu_mark = e.mtu_mark; mtu = e.mtu; source = source; verified_until = until }

-- every field by value, the path as a row holds it
abbrev pub whole_entry : Path → ℕ → ℕ → ℕ → ℕ → ℕ → ℕ → ℕ → Entry
whole_entry p created used expires mark m source until = with_source source until (with_mtu mark m (with_times used expires (with_path p (empty_entry created))))

-- an entry as `remove` answers it; an MTU value under mark 0 is not shown
unfoldable pub entry_value : Entry → CacheEntry
entry_value e =
    record {
      path = e.path;
      created_at = e.created_at;
      last_used = e.last_used;
      expires_at = e.expires_at;
      path_mtu = cond (eqb e.mtu_mark some_mtu) (Some e.mtu) None;
      source = source_of e.source;
      verified_until = e.verified_until;
    }

-- ---- bounds

-- R is at most this
abbrev pub max_rows : ℕ
max_rows = 1024

abbrev pub probation_divisor : ℕ
probation_divisor = 32

-- no row weighs more: a path weighs its length, and sixteen at least
abbrev pub weight_limit : ℕ
weight_limit = path_places

-- B = 16 × max_entries
abbrev pub weight_bound : ℕ → ℕ
weight_bound m = addrs_per_entry * m

-- Q = max(max_entries / 32, 1), rounded down
abbrev pub probation_bound : ℕ → ℕ
probation_bound m = max (m / probation_divisor) 1

-- Q of a state
abbrev pub probation_limit : State → ℕ
probation_limit s = probation_bound s.max_entries

-- M = R − Q, of a state of R rows
abbrev pub main_limit : ℕ → State → ℕ
main_limit R s = R - probation_limit s
