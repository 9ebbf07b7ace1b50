-- Refusals of document 01 as one table, and a request's answer and state by it.
use Rattle.std.specs.Prelude.{ℕ, ◌+◌, ◌*◌, ◌-◌, List, [], ◌∷◌, ◌++◌, Bool, false, cond, ◌&&◌, ◌||◌, not, ltb, leb, eqb, length, drop, Option, None, Some}
use Rattle.types.specs.declared.node_addr.NodeAddr.{NodeAddr}
use Rattle.types.specs.declared.coord.Path.{Path}
use Rattle.types.specs.Addresses.{same_addr}
use Rattle.types.specs.Paths.{path_places, contains, root_of, starts_at, path_weight}
use Rattle.types.specs.declared.placed.Funding.TheVariants.{Uncharged}
use Rattle.types.specs.Values.{largest_number}
use Rattle.rules.specs.Cases.{maybe}
use Rattle.rules.specs.Records.{Entry, State, max_rows, probation_bound, main_limit}
use Rattle.rules.specs.Rows.{row_at, in_main, find, main_count, zero_rows, with_only_rows}
use Rattle.rules.specs.Sound.{sound}
use Rattle.rules.specs.Entries.{expired}
use Rattle.rules.specs.Room.{room_can_be_made}
use Rattle.rules.specs.Placement.{PlaceResult, place_hint, without_key, insert_verified}
use Rattle.rules.specs.Lookups.{get, touched, removed_entry, demoted, holds, clear_path_mtu, sweep, matching}
use Rattle.rules.specs.Statistics.{stats, next_expiry}
use Rattle.rules.specs.Calls.{Call, Insert, InsertWithTtl, InsertFunded, InsertStated, InsertVerified, InsertVerifiedWithPathMtu, Get, GetAndTouch, Remove, Demote, ClearPathMtu, PurgeExpired, Clear, InvalidateViaNode, InvalidateOtherRoots, Stats, NextExpiry, Answer, Refused, Hinted, VerifiedDone, PathFound, EntryRemoved, KeyHeld, Done, RowsRemoved, StatsGiven, ExpiryGiven, path_given, draws_stamps, VerifiedWrite, verified_write}
use Rattle.rules.specs.Layout.{row_size}

-- fresh with its two limits, or a call
pub data Request : Type 0 where
  Fresh : ℕ → ℕ → Request
  Asked : Call → Request

-- ---- the table

-- every call draws fewer stamps (Bounds.step_stamps)
abbrev pub stamps_of_call : ℕ
stamps_of_call = 4096

-- the largest seq at which stamps are drawn: so many numbers are left
abbrev pub last_seq : ℕ
last_seq = largest_number - stamps_of_call

-- 5: R > 1,024 or R < max + Q
unfoldable pub bad_size : ℕ → ℕ → Bool
bad_size R m = ltb max_rows R || ltb R (m + probation_bound m)

-- 2: path of 0 or over 32 elements
unfoldable pub bad_path : Path → Bool
bad_path p = eqb p.len 0 || ltb path_places p.len

-- 3: seq > 18446744073709547519
unfoldable pub seq_spent : State → Bool
seq_spent s = ltb last_seq s.seq

unfoldable pub key_in_main : NodeAddr → State → Bool
key_in_main k s = maybe (find k s.rows) false (λ i. in_main (row_at i s.rows))

-- 4: key not in main, M main rows taken, room can't be made
unfoldable pub no_place_for : ℕ → State → VerifiedWrite → Bool
no_place_for R s v = not (key_in_main v.key s) && (leb (main_limit R s) (main_count s) && not (room_can_be_made v.time (path_weight v.path) (without_key v.key s)))

-- a number, and whether it is given
pub record Reason : Type 0 where
  pub number : ℕ
  pub given : Bool

unfoldable pub reason : ℕ → Bool → Reason
reason n b = record { number = n; given = b }

-- checked in the order 5, 1, 2, 3, 4 (6 is the command stream's, before them)
unfoldable pub reasons : ℕ → State → Request → List Reason
reasons R s (Fresh m ttl) = reason 5 (bad_size R m) ∷ []
reasons R s (Asked q) =
    reason 1 (not (sound R s))
    ∷ reason 2 (maybe (path_given q) false bad_path)
    ∷ reason 3 (draws_stamps q && seq_spent s)
    ∷ reason 4 (maybe (verified_write q) false (no_place_for R s))
    ∷ []

unfoldable pub first_given : List Reason → Option ℕ
first_given [] = None
first_given (r ∷ rs) = let later = first_given rs in cond r.given (Some r.number) later

-- the number by which a request is refused, or none
unfoldable pub refusal : ℕ → State → Request → Option ℕ
refusal R s x = first_given (reasons R s x)

-- ---- what is done where nothing refuses

pub record Step : Type 0 where
  pub answer : Answer
  pub state : State

unfoldable pub gives : Answer → State → Step
gives a s = record { answer = a; state = s }

unfoldable pub hinted : PlaceResult → Step
hinted u = gives (Hinted u.placed) u.state

unfoldable pub verifies : NodeAddr → Path → ℕ → Option ℕ → State → Step
verifies k p now mtu s = let w = insert_verified k p now mtu s in gives (VerifiedDone (record { weight = path_weight p; examined = w.examined })) w.state

-- a sweep returns how many rows it removed
unfoldable pub sweeps : (Entry → Bool) → State → Step
sweeps m s = gives (RowsRemoved (matching m s)) (sweep m s)

-- insert and insert_with_ttl are Uncharged; stated is insert_stated where the path's first address equals the key;
-- clear and clear_path_mtu return nothing, and clear keeps seq
unfoldable pub perform : State → Call → Step
perform s (Insert k p t) = hinted (place_hint k p t s.default_ttl Uncharged false s)
perform s (InsertWithTtl k p t l) = hinted (place_hint k p t l Uncharged false s)
perform s (InsertFunded k p t f) = hinted (place_hint k p t s.default_ttl f false s)
perform s (InsertStated k p t f) = hinted (place_hint k p t s.default_ttl f (starts_at k p) s)
perform s (InsertVerified k p t) = verifies k p t None s
perform s (InsertVerifiedWithPathMtu k p t m) = verifies k p t (Some m) s
perform s (Get k t) = gives (PathFound (get k t s)) s
perform s (GetAndTouch k t) = gives (PathFound (get k t s)) (touched k t s)
perform s (Remove k) = gives (EntryRemoved (removed_entry k s)) (without_key k s)
perform s (Demote k) = gives (KeyHeld (holds k s)) (demoted k s)
perform s (ClearPathMtu k) = gives Done (clear_path_mtu k s)
perform s (PurgeExpired t) = sweeps (expired t) s
perform s Clear = gives Done (with_only_rows [] s)
perform s (InvalidateViaNode a) = sweeps (λ e. contains a e.path) s
perform s (InvalidateOtherRoots a) = sweeps (λ e. not (same_addr (root_of e.path) a)) s
perform s (Stats t) = gives (StatsGiven (stats t s)) s
perform s NextExpiry = gives (ExpiryGiven (next_expiry s.rows)) s

-- fresh sets both limits, the other three head numbers to 0, and zeroes every row; tail is what is past the R rows
unfoldable pub fresh : ℕ → ℕ → ℕ → List ℕ → State
fresh R m ttl tail = record { max_entries = m; default_ttl = ttl; seq = 0; stored_weight = 0; row_count = 0; rows = []; rest = zero_rows R ++ tail }

unfoldable pub perform_request : ℕ → State → Request → Step
perform_request R s (Fresh m ttl) = gives Done (fresh R m ttl (drop ((R - length s.rows) * row_size) s.rest))
perform_request R s (Asked q) = perform s q

-- a refusal returns its number alone, and leaves the state
unfoldable pub serve : ℕ → State → Request → Step
serve R s x = let done = perform_request R s x in maybe (refusal R s x) done (λ n. gives (Refused n) s)

-- a call on a state of R rows
abbrev pub step : ℕ → State → Call → Step
step R s q = serve R s (Asked q)
