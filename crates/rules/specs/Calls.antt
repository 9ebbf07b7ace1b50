-- The calls of document 01, their answers, and what each call says.
use Rattle.std.specs.Prelude.{ℕ, List, Bool, true, false, not, ltb, Option, None, Some}
use Rattle.types.specs.declared.node_addr.NodeAddr.{NodeAddr}
use Rattle.types.specs.declared.coord.CoordEntry.{CoordEntry}
use Rattle.types.specs.declared.coord.Path.{Path}
use Rattle.types.specs.Addresses.{same_addr}
use Rattle.types.specs.Paths.{contains, root_of}
use Rattle.types.specs.declared.entry.CacheEntry.{CacheEntry}
use Rattle.types.specs.declared.placed.Funding.{Funding}
use Rattle.types.specs.declared.placed.Funding.TheVariants.{Uncharged}
use Rattle.types.specs.declared.placed.Placed.{Placed}
use Rattle.types.specs.declared.placed.VerifiedInsert.{VerifiedInsert}
use Rattle.types.specs.declared.stats.CacheStats.{CacheStats}

-- every call named under Placement, Lookups and sweeps, and Statistics
pub data Call : Type 0 where
  Insert : NodeAddr → Path → ℕ → Call
  InsertWithTtl : NodeAddr → Path → ℕ → ℕ → Call
  InsertFunded : NodeAddr → Path → ℕ → Funding → Call
  InsertStated : NodeAddr → Path → ℕ → Funding → Call
  InsertVerified : NodeAddr → Path → ℕ → Call
  InsertVerifiedWithPathMtu : NodeAddr → Path → ℕ → ℕ → Call
  Get : NodeAddr → ℕ → Call
  GetAndTouch : NodeAddr → ℕ → Call
  Remove : NodeAddr → Call
  Demote : NodeAddr → Call
  ClearPathMtu : NodeAddr → Call
  PurgeExpired : ℕ → Call
  Clear : Call
  InvalidateViaNode : NodeAddr → Call
  InvalidateOtherRoots : NodeAddr → Call
  Stats : ℕ → Call
  NextExpiry : Call

pub data Answer : Type 0 where
  Refused : ℕ → Answer
  Hinted : Placed → Answer
  VerifiedDone : VerifiedInsert → Answer
  PathFound : Option (List CoordEntry) → Answer
  EntryRemoved : Option CacheEntry → Answer
  KeyHeld : Bool → Answer
  Done : Answer
  RowsRemoved : ℕ → Answer
  StatsGiven : CacheStats → Answer
  ExpiryGiven : Option ℕ → Answer

-- ---- what a call says

-- sweeps and statistics name no key
unfoldable pub key_named : Call → Option NodeAddr
key_named (Insert k p t) = Some k
key_named (InsertWithTtl k p t l) = Some k
key_named (InsertFunded k p t f) = Some k
key_named (InsertStated k p t f) = Some k
key_named (InsertVerified k p t) = Some k
key_named (InsertVerifiedWithPathMtu k p t m) = Some k
key_named (Get k t) = Some k
key_named (GetAndTouch k t) = Some k
key_named (Remove k) = Some k
key_named (Demote k) = Some k
key_named (ClearPathMtu k) = Some k
key_named (PurgeExpired t) = None
key_named Clear = None
key_named (InvalidateViaNode a) = None
key_named (InvalidateOtherRoots a) = None
key_named (Stats t) = None
key_named NextExpiry = None

unfoldable pub path_given : Call → Option Path
path_given (Insert k p t) = Some p
path_given (InsertWithTtl k p t l) = Some p
path_given (InsertFunded k p t f) = Some p
path_given (InsertStated k p t f) = Some p
path_given (InsertVerified k p t) = Some p
path_given (InsertVerifiedWithPathMtu k p t m) = Some p
path_given (Get k t) = None
path_given (GetAndTouch k t) = None
path_given (Remove k) = None
path_given (Demote k) = None
path_given (ClearPathMtu k) = None
path_given (PurgeExpired t) = None
path_given Clear = None
path_given (InvalidateViaNode a) = None
path_given (InvalidateOtherRoots a) = None
path_given (Stats t) = None
path_given NextExpiry = None

unfoldable pub time_given : Call → Option ℕ
time_given (Insert k p t) = Some t
time_given (InsertWithTtl k p t l) = Some t
time_given (InsertFunded k p t f) = Some t
time_given (InsertStated k p t f) = Some t
time_given (InsertVerified k p t) = Some t
time_given (InsertVerifiedWithPathMtu k p t m) = Some t
time_given (Get k t) = Some t
time_given (GetAndTouch k t) = Some t
time_given (Remove k) = None
time_given (Demote k) = None
time_given (ClearPathMtu k) = None
time_given (PurgeExpired t) = Some t
time_given Clear = None
time_given (InvalidateViaNode a) = None
time_given (InvalidateOtherRoots a) = None
time_given (Stats t) = Some t
time_given NextExpiry = None

-- insert and insert_with_ttl are Uncharged; so is what is no hint
unfoldable pub funding_of : Call → Funding
funding_of (Insert k p t) = Uncharged
funding_of (InsertWithTtl k p t l) = Uncharged
funding_of (InsertFunded k p t f) = f
funding_of (InsertStated k p t f) = f
funding_of (InsertVerified k p t) = Uncharged
funding_of (InsertVerifiedWithPathMtu k p t m) = Uncharged
funding_of (Get k t) = Uncharged
funding_of (GetAndTouch k t) = Uncharged
funding_of (Remove k) = Uncharged
funding_of (Demote k) = Uncharged
funding_of (ClearPathMtu k) = Uncharged
funding_of (PurgeExpired t) = Uncharged
funding_of Clear = Uncharged
funding_of (InvalidateViaNode a) = Uncharged
funding_of (InvalidateOtherRoots a) = Uncharged
funding_of (Stats t) = Uncharged
funding_of NextExpiry = Uncharged

-- hints, verified inserts, demote
unfoldable pub draws_stamps : Call → Bool
draws_stamps (Insert k p t) = true
draws_stamps (InsertWithTtl k p t l) = true
draws_stamps (InsertFunded k p t f) = true
draws_stamps (InsertStated k p t f) = true
draws_stamps (InsertVerified k p t) = true
draws_stamps (InsertVerifiedWithPathMtu k p t m) = true
draws_stamps (Get k t) = false
draws_stamps (GetAndTouch k t) = false
draws_stamps (Remove k) = false
draws_stamps (Demote k) = true
draws_stamps (ClearPathMtu k) = false
draws_stamps (PurgeExpired t) = false
draws_stamps Clear = false
draws_stamps (InvalidateViaNode a) = false
draws_stamps (InvalidateOtherRoots a) = false
draws_stamps (Stats t) = false
draws_stamps NextExpiry = false

-- what a verified insert says, in either form
pub record VerifiedWrite : Type 0 where
  pub key : NodeAddr
  pub path : Path
  pub time : ℕ

unfoldable pub verified_write : Call → Option VerifiedWrite
verified_write (Insert k p t) = None
verified_write (InsertWithTtl k p t l) = None
verified_write (InsertFunded k p t f) = None
verified_write (InsertStated k p t f) = None
verified_write (InsertVerified k p t) = Some (record { key = k; path = p; time = t })
verified_write (InsertVerifiedWithPathMtu k p t m) = Some (record { key = k; path = p; time = t })
verified_write (Get k t) = None
verified_write (GetAndTouch k t) = None
verified_write (Remove k) = None
verified_write (Demote k) = None
verified_write (ClearPathMtu k) = None
verified_write (PurgeExpired t) = None
verified_write Clear = None
verified_write (InvalidateViaNode a) = None
verified_write (InvalidateOtherRoots a) = None
verified_write (Stats t) = None
verified_write NextExpiry = None

-- whether a sweep matches an entry of this path and expires_at: purge_expired, expired rows;
-- invalidate_via_node, paths containing the address; invalidate_other_roots, other last addresses; clear, all
unfoldable pub sweep_matches : Call → Path → ℕ → Bool
sweep_matches (Insert k p t) path expiry = false
sweep_matches (InsertWithTtl k p t l) path expiry = false
sweep_matches (InsertFunded k p t f) path expiry = false
sweep_matches (InsertStated k p t f) path expiry = false
sweep_matches (InsertVerified k p t) path expiry = false
sweep_matches (InsertVerifiedWithPathMtu k p t m) path expiry = false
sweep_matches (Get k t) path expiry = false
sweep_matches (GetAndTouch k t) path expiry = false
sweep_matches (Remove k) path expiry = false
sweep_matches (Demote k) path expiry = false
sweep_matches (ClearPathMtu k) path expiry = false
sweep_matches (PurgeExpired t) path expiry = ltb expiry t
sweep_matches Clear path expiry = true
sweep_matches (InvalidateViaNode a) path expiry = contains a path
sweep_matches (InvalidateOtherRoots a) path expiry = not (same_addr (root_of path) a)
sweep_matches (Stats t) path expiry = false
sweep_matches NextExpiry path expiry = false

-- ---- what an answer says

unfoldable pub was_refused : Answer → Bool
was_refused (Refused n) = true
was_refused (Hinted p) = false
was_refused (VerifiedDone v) = false
was_refused (PathFound o) = false
was_refused (EntryRemoved o) = false
was_refused (KeyHeld b) = false
was_refused Done = false
was_refused (RowsRemoved n) = false
was_refused (StatsGiven c) = false
was_refused (ExpiryGiven o) = false

-- a hint's charge is the added weight in its answer
unfoldable pub charge_of : Answer → ℕ
charge_of (Refused n) = 0
charge_of (Hinted p) = p.added_weight
charge_of (VerifiedDone v) = 0
charge_of (PathFound o) = 0
charge_of (EntryRemoved o) = 0
charge_of (KeyHeld b) = 0
charge_of Done = 0
charge_of (RowsRemoved n) = 0
charge_of (StatsGiven c) = 0
charge_of (ExpiryGiven o) = 0

-- each writing answer carries examined; every other call examines nothing
unfoldable pub examined_of : Answer → ℕ
examined_of (Refused n) = 0
examined_of (Hinted p) = p.examined
examined_of (VerifiedDone v) = v.examined
examined_of (PathFound o) = 0
examined_of (EntryRemoved o) = 0
examined_of (KeyHeld b) = 0
examined_of Done = 0
examined_of (RowsRemoved n) = 0
examined_of (StatsGiven c) = 0
examined_of (ExpiryGiven o) = 0
