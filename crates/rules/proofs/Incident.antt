-- The incident: a second write in the same millisecond must not take the entry that the first verified.
use Prim.Native.Nat.{ℕ, ◌+◌, ◌≤◌, min}
use mathlib.Core.Path.{◌≡◌, refl}
use mathlib.Core.List.{List, [], ◌∷◌}
use Rattle.std.specs.Prelude.{None, Some}
use mathlib.Core.Bool.{true, false, or-true}
use lib.Dec.{leb}
use native.Mathlib.Omega.{arith}
use borrow.Author.Tests.{le-leb}
use Rattle.types.specs.declared.coord.Path.{Path}
use Rattle.types.specs.Paths.{as_written}
use Rattle.rules.specs.Cases.{Every}
use Rattle.rules.specs.Records.{State}
use Rattle.rules.specs.Sound.{sound}
use Rattle.rules.specs.Entries.{add_times, last_time, verified_ttl}
use Rattle.rules.specs.Calls.{Answer, Call, Clear, ClearPathMtu, Demote, Get, GetAndTouch, Insert, InsertFunded, InsertStated, InsertVerified, InsertVerifiedWithPathMtu, InsertWithTtl, InvalidateOtherRoots, InvalidateViaNode, NextExpiry, PurgeExpired, Remove, Stats, VerifiedWrite, path_given, sweep_matches, time_given, verified_write, was_refused}
use Rattle.rules.specs.Refusals.{step}
use Rattle.rules.specs.Lists.{run}
use Rattle.rules.specs.Demand.{KeepsPlace, expiry_of, must_spare, names_other, not_past, verified_until_of}
use Rattle.rules.proofs.ThirdDemand.{kept_after}

-- a write of any kind, of another key, in the millisecond of v
pub record WriteBeside (v : VerifiedWrite) (q : Call) : Type 0 where
  pub writes : path_given q ≡ None → ⊥
  pub other : names_other v q ≡ true
  pub time : time_given q ≡ Some v.time

no_sweep : (q : Call) (p : Path) (x : ℕ) → (path_given q ≡ None → ⊥) → sweep_matches q p x ≡ false
unfolding path_given sweep_matches
no_sweep (Insert k p t) r x h = refl
no_sweep (InsertWithTtl k p t l) r x h = refl
no_sweep (InsertFunded k p t f) r x h = refl
no_sweep (InsertStated k p t f) r x h = refl
no_sweep (InsertVerified k p t) r x h = refl
no_sweep (InsertVerifiedWithPathMtu k p t m) r x h = refl
no_sweep (Get k t) r x h = refl
no_sweep (GetAndTouch k t) r x h = refl
no_sweep (Remove k) r x h = refl
no_sweep (Demote k) r x h = refl
no_sweep (ClearPathMtu k) r x h = refl
no_sweep (PurgeExpired t) r x h = absurd (h refl)
no_sweep Clear r x h = absurd (h refl)
no_sweep (InvalidateViaNode a) r x h = absurd (h refl)
no_sweep (InvalidateOtherRoots a) r x h = absurd (h refl)
no_sweep (Stats t) r x h = refl
no_sweep NextExpiry r x h = refl

within_window : (v : VerifiedWrite) → v.time ≤ last_time → leb v.time (verified_until_of v) ≡ true
unfolding verified_until_of add_times
within_window v h = le-leb v.time (min (v.time + verified_ttl) last_time) (omega arith)

beside_spares : (ttl : ℕ) (v : VerifiedWrite) (q : Call) (m : Answer) → v.time ≤ last_time → WriteBeside v q → must_spare ttl v (record { call = q; answer = m }) ≡ true
unfolding must_spare not_past
beside_spares ttl v q m l h = rw (h.other, h.time, within_window v l, no_sweep q (as_written v.path) (expiry_of ttl v) h.writes) (or-true (was_refused m))

all_spare : (R ttl : ℕ) (v : VerifiedWrite) → v.time ≤ last_time → (s : State) (qs : List Call) → Every (WriteBeside v) qs → Every (λ e. must_spare ttl v e ≡ true) (run R s qs).events
unfolding run
all_spare R ttl v l s [] h = tt
all_spare R ttl v l s (q ∷ qs) h = (beside_spares ttl v q (step R s q).answer l h.0, all_spare R ttl v l (step R s q).state qs h.1)

-- THE INCIDENT CANNOT HAPPEN: on a sound state, whatever its condition, a verified insert that was not refused keeps its place
-- through every list of writes of other keys in the same millisecond, of any kind and any number
pub second_write_spares_the_first : (R : ℕ) (s : State) (q : Call) (v : VerifiedWrite) (qs : List Call) → sound R s ≡ true → verified_write q ≡ Some v → v.time ≤ last_time
    → was_refused (step R s q).answer ≡ false → Every (WriteBeside v) qs → KeepsPlace s.default_ttl v (run R (step R s q).state qs).state.rows
second_write_spares_the_first R s q v qs h e l done beside = kept_after R s q v qs h e done (all_spare R s.default_ttl v l (step R s q).state qs beside)
