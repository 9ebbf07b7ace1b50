-- Accounts of document 01, and the third demand over a whole list of calls.
use Rattle.std.specs.Prelude.{ℕ, ◌+◌, ◌≡◌, List, [], ◌∷◌, ◌++◌, Bool, true, false, cond, ◌&&◌, ◌||◌, not, leb, Some}
use Rattle.types.specs.declared.node_addr.NodeAddr.{NodeAddr}
use Rattle.types.specs.Addresses.{same_addr}
use Rattle.types.specs.Paths.{as_written, path_weight}
use Rattle.types.specs.declared.placed.HintOutcome.{HintOutcome}
use Rattle.types.specs.declared.placed.HintOutcome.TheVariants.{Inserted, Changed, Unchanged, Rejected}
use Rattle.types.specs.Values.{covers}
use Rattle.rules.specs.Cases.{maybe, Every}
use Rattle.rules.specs.Records.{Row, verified_source}
use Rattle.rules.specs.Rows.{row_at, in_main, find, total, weigh_rows}
use Rattle.rules.specs.Entries.{verified_ttl, add_times}
use Rattle.rules.specs.Calls.{Call, Answer, Refused, Hinted, VerifiedDone, PathFound, EntryRemoved, KeyHeld, Done, RowsRemoved, StatsGiven, ExpiryGiven, key_named, path_given, time_given, funding_of, VerifiedWrite, verified_write, sweep_matches, was_refused, charge_of}
use Rattle.rules.specs.Lists.{Event}

-- ---- accounts, read from calls and answers

-- Inserted sets the key's account to the added weight; Changed or Unchanged adds it
unfoldable pub account_placed : HintOutcome → ℕ → ℕ → ℕ
account_placed Inserted w a = w
account_placed Changed w a = a + w
account_placed Unchanged w a = a + w
account_placed Rejected w a = a

-- the named key's account a after an answer; a done insert_verified sets it to the path weight;
-- else, and for a refused call, no change
unfoldable pub account_after : Call → Answer → ℕ → ℕ
account_after q (Refused n) a = a
account_after q (Hinted p) a = account_placed p.outcome p.added_weight a
account_after q (VerifiedDone v) a = maybe (path_given q) a path_weight
account_after q (PathFound o) a = a
account_after q (EntryRemoved o) a = a
account_after q (KeyHeld b) a = a
account_after q Done a = a
account_after q (RowsRemoved n) a = a
account_after q (StatsGiven c) a = a
account_after q (ExpiryGiven o) a = a

-- the accounts after an event: only that of the key it names changes
unfoldable pub accounts_after : Event → (NodeAddr → ℕ) → NodeAddr → ℕ
accounts_after e a j = maybe (key_named e.call) (a j) (λ k. cond (same_addr j k) (account_after e.call e.answer (a j)) (a j))

unfoldable pub accounts_from : List Event → (NodeAddr → ℕ) → NodeAddr → ℕ
accounts_from [] a = a
accounts_from (e ∷ es) a = accounts_from es (accounts_after e a)

-- each address has an account, 0 at the start
unfoldable pub account : List Event → NodeAddr → ℕ
account es = accounts_from es (λ j. 0)

-- ---- funding

-- above its funding means Upto(n) and a charge over n
unfoldable pub within_funding : Event → Bool
within_funding e = covers (funding_of e.call) (charge_of e.answer)

-- ---- protection of a verified entry

-- a done verified insert fixes its entry's expiry and verified_until
unfoldable pub expiry_of : ℕ → VerifiedWrite → ℕ
expiry_of ttl v = add_times v.time ttl

unfoldable pub verified_until_of : VerifiedWrite → ℕ
verified_until_of v = add_times v.time verified_ttl

unfoldable pub names_other : VerifiedWrite → Call → Bool
names_other v q = maybe (key_named q) true (λ k. not (same_addr v.key k))

unfoldable pub not_past : ℕ → Call → Bool
not_past until q = maybe (time_given q) true (λ t. leb t until)

-- an event that must spare the entry: it was refused; or it names no key or another, gives no time past verified_until,
-- and is no sweep that matches the entry's path and expiry
unfoldable pub must_spare : ℕ → VerifiedWrite → Event → Bool
must_spare ttl v e = was_refused e.answer || (names_other v e.call && (not_past (verified_until_of v) e.call && not (sweep_matches e.call (as_written v.path) (expiry_of ttl v))))

-- the entry keeps its place: in main, Verified, with that insert's path, expiry and verified_until
pub record KeepsPlace (ttl : ℕ) (v : VerifiedWrite) (rows : List Row) : Type 0 where
  pub at : ℕ
  pub there : find v.key rows ≡ Some at
  pub main : in_main (row_at at rows) ≡ true
  pub source : (row_at at rows).entry.source ≡ verified_source
  pub path : (row_at at rows).entry.path ≡ as_written v.path
  pub expires_at : (row_at at rows).entry.expires_at ≡ expiry_of ttl v
  pub verified_until : (row_at at rows).entry.verified_until ≡ verified_until_of v

-- THE THIRD DEMAND, of a list's events and of the stored weight and the rows after them:
-- stored weight is the sum of the held keys' accounts, and of the main weights; no hint is charged above its funding;
-- a verified insert that was not refused keeps its place while every later event must spare it
pub record ThirdDemand (ttl : ℕ) (events : List Event) (stored_weight : ℕ) (rows : List Row) : Type 0 where
  pub accounts : stored_weight ≡ total (λ r. account events r.key) rows
  pub weights : stored_weight ≡ weigh_rows in_main rows
  pub funding : Every (λ e. within_funding e ≡ true) events
  pub protection : (earlier later : List Event) (e : Event) (v : VerifiedWrite)
      → events ≡ earlier ++ (e ∷ later)
      → verified_write e.call ≡ Some v → was_refused e.answer ≡ false
      → Every (λ x. must_spare ttl v x ≡ true) later
      → KeepsPlace ttl v rows
