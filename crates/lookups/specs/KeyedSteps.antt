-- Parts of the calls' rules, by row.
use Rattle.std.specs.Prelude.{ℕ, cond}
use Rattle.rules.specs.Records.{State, parked}
use Rattle.rules.specs.Rows.{row_at, at_place}
use Rattle.rules.specs.Entries.{mark_hint}
use Rattle.rules.specs.Room.{refile}
use Rattle.rules.specs.Lookups.{rewrite}

-- demote, where the key's row is row i
unfoldable pub demoted_at : ℕ → State → State
demoted_at i s = cond (at_place parked (row_at i s.rows)) (refile (mark_hint (row_at i s.rows).entry) (row_at i s.rows).weight i s) (rewrite mark_hint i s)
