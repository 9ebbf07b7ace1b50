-- Document 01's number and values for each case of an answer.
use Rattle.std.specs.Prelude.{ℕ, ◌+◌, min, [], ◌∷◌, Option, Some, None, Bool, true, false, cond, leb, eqb, replicate}
use Rattle.types.specs.declared.entry.CoordSource.{CoordSource}
use Rattle.types.specs.declared.entry.CoordSource.TheVariants.{Verified, Hint}
use Rattle.types.specs.declared.placed.Funding.{Funding}
use Rattle.types.specs.declared.placed.Funding.TheVariants.{Upto, Uncharged}
use Rattle.types.specs.declared.placed.Segment.{Segment}
use Rattle.types.specs.declared.placed.Segment.TheVariants.{Main, Probation}
use Rattle.types.specs.declared.placed.HintOutcome.{HintOutcome}
use Rattle.types.specs.declared.placed.HintOutcome.TheVariants.{Inserted, Changed, Unchanged, Rejected}
use Rattle.types.specs.declared.placed.Placed.{Placed}
use Rattle.types.specs.declared.placed.VerifiedInsert.{VerifiedInsert}
use Rattle.types.specs.declared.stats.CacheStats.{CacheStats}
use Rattle.types.specs.declared.refusal.Refusal.{Refusal}
use Rattle.types.specs.declared.refusal.Refusal.TheVariants.{UnsoundState, PathLength, StampsSpent, NoPlace, BadLimits, BadCommand}
use Rattle.types.specs.declared.reply.Reply.{Reply}
use Rattle.types.specs.declared.reply.Tally.{Tally}

-- ---- numbers

-- the largest number of 64 bits, 2^64 − 1: times and counts stop there
abbrev pub largest_number : ℕ
largest_number = 18446744073709551615

-- ---- an entry's codes, in the order in which 01 names the kinds

-- Verified 0, Hint 1
unfoldable pub source_code : CoordSource → ℕ
source_code Verified = 0
source_code Hint = 1

-- the mark: 1 if an MTU is held
unfoldable pub mtu_mark_of : Option ℕ → ℕ
mtu_mark_of None = 0
mtu_mark_of (Some m) = 1

unfoldable pub mtu_value_of : Option ℕ → ℕ
mtu_value_of None = 0
mtu_value_of (Some m) = m

-- ---- refusals

-- the six numbers, in their own order; their reasons are asked in another
abbrev pub refusal_code : Refusal → ℕ
refusal_code UnsoundState = 1
refusal_code PathLength = 2
refusal_code StampsSpent = 3
refusal_code NoPlace = 4
refusal_code BadLimits = 5
refusal_code BadCommand = 6

-- ---- funding

-- Uncharged covers every weight, Upto(n) weights ≤ n
unfoldable pub covers : Funding → ℕ → Bool
covers Uncharged w = true
covers (Upto n) w = leb w n

-- kind 0 Uncharged, 1 Upto
unfoldable pub funding_kind : Funding → ℕ
funding_kind Uncharged = 0
funding_kind (Upto n) = 1

unfoldable pub funding_amount : Funding → ℕ
funding_amount Uncharged = 0
funding_amount (Upto n) = n

-- ---- answers

-- Inserted 0, Changed 1, Unchanged 2, Rejected 3
unfoldable pub outcome_code : HintOutcome → ℕ
outcome_code Inserted = 0
outcome_code Changed = 1
outcome_code Unchanged = 2
outcome_code Rejected = 3

-- Main 0, Probation 1
unfoldable pub segment_code : Segment → ℕ
segment_code Main = 0
segment_code Probation = 1

unfoldable pub bit : Bool → ℕ
bit true = 1
bit false = 0

-- a done command: refusal 0 and five numbers
unfoldable pub says : ℕ → ℕ → ℕ → ℕ → ℕ → Reply
says a b c d e = record { refusal = 0; values = a ∷ b ∷ c ∷ d ∷ e ∷ [] }

-- a refused command: its number, and all five are 0
unfoldable pub refuses : ℕ → Reply
refuses n = record { refusal = n; values = replicate 5 0 }

-- Hints: outcome, added, segment, unfunded, examined
unfoldable pub placed_reply : Placed → Reply
placed_reply p = says (outcome_code p.outcome) p.added_weight (segment_code p.segment) (bit p.unfunded) p.examined

-- Verified: 0, weight, 0, 0, examined
unfoldable pub verified_reply : VerifiedInsert → Reply
verified_reply v = says 0 v.weight 0 0 v.examined

-- 40: entries, max, expired, mean
unfoldable pub stats_reply : CacheStats → Reply
stats_reply s = says s.entries s.max_entries s.expired s.avg_age_ms 0

-- ---- an entry's source read back from its code

-- what is not 0 counts as Hint
unfoldable pub source_of : ℕ → CoordSource
source_of n = cond (eqb n 0) Verified Hint

-- ---- a run's tally

-- a command with refusal 0 was done, any other refused; each number stops at 2^64 − 1
unfoldable pub tallied : Tally → ℕ → Tally
tallied t refusal =
    cond (eqb refusal 0)
    (record { done = min (t.done + 1) largest_number; refused = t.refused })
    (record { done = t.done; refused = min (t.refused + 1) largest_number })
