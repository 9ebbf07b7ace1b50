-- Entries of document 01 (entry.rs).
use Rattle.std.specs.Prelude.{ℕ, ◌+◌, min, Bool, ◌&&◌, ltb, leb}
use Rattle.types.specs.declared.coord.Path.{Path}
use Rattle.types.specs.Values.{largest_number}
use Rattle.rules.specs.Records.{Entry, empty_entry, hint_source, no_mtu, some_mtu, verified_source, with_mtu, with_path, with_source, with_times}
use Rattle.rules.specs.Sound.{from_verified}

-- where sums of times stop, 2^64 − 1
abbrev pub last_time : ℕ
last_time = largest_number

-- how long a verified entry outranks a hint, in milliseconds (VERIFIED_TTL_MS)
abbrev pub verified_ttl : ℕ
verified_ttl = 300000

-- sums of times stop at 2^64 − 1
unfoldable pub add_times : ℕ → ℕ → ℕ
add_times a b = min (a + b) last_time

-- Expired: now > expires_at
unfoldable pub expired : ℕ → Entry → Bool
expired now e = ltb e.expires_at now

-- Verified: source Verified and now ≤ verified_until
unfoldable pub verified : ℕ → Entry → Bool
verified now e = from_verified e && leb now e.verified_until

-- an update sets path, last_used (now), expires_at (now + ttl) and makes a hint; it keeps created_at and MTU
unfoldable pub update : Path → ℕ → ℕ → Entry → Entry
update p now ttl e = with_source hint_source 0 (with_times now (add_times now ttl) (with_path p e))

-- a new entry is the same with created_at now and no MTU
unfoldable pub new_entry : Path → ℕ → ℕ → Entry
new_entry p now ttl = update p now ttl (empty_entry now)

-- a refresh sets last_used and expires_at
unfoldable pub refresh : ℕ → ℕ → Entry → Entry
refresh now ttl e = with_times now (add_times now ttl) e

-- marked Verified, with verified_until = now + 300,000
unfoldable pub mark_verified : ℕ → Entry → Entry
mark_verified now e = with_source verified_source (add_times now verified_ttl) e

-- made a hint
unfoldable pub mark_hint : Entry → Entry
mark_hint e = with_source hint_source 0 e

unfoldable pub set_mtu : ℕ → Entry → Entry
set_mtu m e = with_mtu some_mtu m e

unfoldable pub drop_mtu : Entry → Entry
drop_mtu e = with_mtu no_mtu 0 e
