-- Statistics of document 01.
use Rattle.std.specs.Prelude.{ℕ, zero, suc, ◌-◌, ◌/◌, min, List, [], ◌∷◌, length, Option, None, Some}
use Rattle.types.specs.declared.stats.CacheStats.{CacheStats}
use Rattle.rules.specs.Cases.{maybe}
use Rattle.rules.specs.Records.{Row, State}
use Rattle.rules.specs.Rows.{total}
use Rattle.rules.specs.Entries.{expired}
use Rattle.rules.specs.Lookups.{matching}

-- the exact total of max(now − created_at, 0)
unfoldable pub total_age : ℕ → List Row → ℕ
total_age now rs = total (λ r. now - r.entry.created_at) rs

-- divided by count, rounded down, 0 if empty
unfoldable pub mean : ℕ → ℕ → ℕ
mean t zero = 0
mean t (suc n) = t / suc n

-- count, max_entries, expired count, mean age
unfoldable pub stats : ℕ → State → CacheStats
stats now s = record { entries = length s.rows; max_entries = s.max_entries; expired = matching (expired now) s; avg_age_ms = mean (total_age now s.rows) (length s.rows) }

-- the smallest expires_at held, or none
unfoldable pub next_expiry : List Row → Option ℕ
next_expiry [] = None
next_expiry (r ∷ rs) = Some (maybe (next_expiry rs) r.entry.expires_at (min r.entry.expires_at))
