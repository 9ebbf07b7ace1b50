-- Closed examples of entries, room, placement, sweeps and statistics. tests/branches.txt has a list of the same name for each that the original can be asked.
use mathlib.Core.Path.{◌≡◌, refl}
use mathlib.Core.List.{[], ◌∷◌, ◌++◌, map}
use Rattle.std.specs.Prelude.{None, Some}
use mathlib.Core.Bool.{true, false}
use Rattle.types.specs.declared.coord.Path.{Path}
use Rattle.types.specs.declared.entry.CoordSource.TheVariants.{Hint, Verified}
use Rattle.types.specs.declared.placed.Funding.TheVariants.{Uncharged, Upto}
use Rattle.types.specs.declared.placed.HintOutcome.TheVariants.{Changed, Inserted, Rejected, Unchanged}
use Rattle.types.specs.declared.placed.Segment.TheVariants.{Main, Probation}
use Rattle.rules.specs.Records.{entry_value}
use Rattle.rules.specs.Calls.{ClearPathMtu, Demote, Done, EntryRemoved, ExpiryGiven, Get, GetAndTouch, InvalidateOtherRoots, KeyHeld, NextExpiry, Remove, RowsRemoved, Stats, StatsGiven}
use Rattle.rules.proofs.Compute.{A, B, C, D, addr, answers_of, done, elements_from, found, hint, insert, insert_funded, insert_stated, insert_verified, insert_verified_with_path_mtu, insert_with_ttl, missing, path, path_from, seen, seen_from}

-- ---- entries

-- a touch, a demote and clear_path_mtu each keep what they do not name
mtu_kept_by_touch_and_demote : seen 24 2 300000 (insert_verified_with_path_mtu A (path 1) 0 1400 ∷ GetAndTouch A 7 ∷ Demote A ∷ [])
    ≡ record { answers = done 16 0 ∷ found 1 ∷ KeyHeld true ∷ []; rows = (1 ∷ 1 ∷ 0 ∷ 7 ∷ 300007 ∷ 1 ∷ 1400 ∷ 1 ∷ 0 ∷ 0 ∷ 0 ∷ 1 ∷ 16 ∷ []) ∷ []; seq = 1; stored_weight = 16 }
unfolding seen
mtu_kept_by_touch_and_demote = refl

clear_mtu_keeps_verification : seen 24 2 300000 (insert_verified_with_path_mtu A (path 1) 0 1400 ∷ GetAndTouch A 7 ∷ ClearPathMtu A ∷ [])
    ≡ record { answers = done 16 0 ∷ found 1 ∷ Done ∷ []; rows = (1 ∷ 1 ∷ 0 ∷ 7 ∷ 300007 ∷ 0 ∷ 0 ∷ 0 ∷ 300000 ∷ 0 ∷ 0 ∷ 1 ∷ 16 ∷ []) ∷ []; seq = 1; stored_weight = 16 }
unfolding seen
clear_mtu_keeps_verification = refl

-- an MTU value under mark 0 is not shown, and a value under a mark 1 is
entry_shown : map (λ m. entry_value (record { path = path 1; created_at = 1; last_used = 2; expires_at = 3; mtu_mark = m; mtu = 1400; source = m; verified_until = 4 })) (0 ∷ 1 ∷ [])
    ≡ record { path = path 1; created_at = 1; last_used = 2; expires_at = 3; path_mtu = None; source = Verified; verified_until = 4 } ∷ record { path = path 1; created_at = 1; last_used = 2; expires_at = 3; path_mtu = Some 1400; source = Hint; verified_until = 4 } ∷ []
unfolding seen_from
entry_shown = refl

-- what a call brings past its path's length is not stored
junk : Path
junk = record { entries = elements_from 90 32; len = 1 }

places_past_the_length : (seen 24 2 300000 (insert A junk 0 ∷ insert_verified B junk 0 ∷ insert A junk 1 ∷ Remove A ∷ Remove B ∷ [])).answers
    ≡ hint Inserted 16 Main false 0 ∷ done 16 0 ∷ hint Unchanged 0 Main false 0 ∷ EntryRemoved (Some (record { path = path 1; created_at = 0; last_used = 1; expires_at = 300001; path_mtu = None; source = Hint; verified_until = 0 })) ∷ EntryRemoved (Some (record { path = path 1; created_at = 0; last_used = 0; expires_at = 300000; path_mtu = None; source = Verified; verified_until = 300000 })) ∷ []
unfolding seen junk
places_past_the_length = refl

-- ---- room and placement

-- a parked row stays at its until; one millisecond later it returns
parked_at_until : map (λ t. (seen 24 2 600000 (insert_verified A (path 1) 0 ∷ insert_funded B (path 1) 1 (Upto 16) ∷ insert_funded C (path 32) 2 (Upto 32) ∷ insert_funded D (path 1) t (Upto 16) ∷ [])).answers) (300000 ∷ 300001 ∷ [])
    ≡ (done 16 0 ∷ hint Inserted 16 Main false 0 ∷ hint Inserted 0 Probation false 2 ∷ hint Inserted 16 Main false 1 ∷ []) ∷ (done 16 0 ∷ hint Inserted 16 Main false 0 ∷ hint Inserted 0 Probation false 2 ∷ hint Inserted 16 Main false 2 ∷ []) ∷ []
unfolding seen
parked_at_until = refl

-- weight equal to the old is no growth, even past the bounds: no room is sought
equal_weight_seeks_no_room : answers_of 24 1 300000 (insert_verified A (path 1) 0 ∷ insert_verified B (path 1) 0 ∷ Demote A ∷ insert A (path 1) 2 ∷ [])
    ≡ done 16 0 ∷ done 16 1 ∷ KeyHeld true ∷ hint Unchanged 0 Main false 0 ∷ []
unfolding answers_of
equal_weight_seeks_no_room = refl

-- step 4 seeks room for the charge, not for the path's weight
promotion_seeks_the_charge : answers_of 24 2 300000 (insert_verified B (path 1) 0 ∷ insert_funded A (path 20) 0 (Upto 1) ∷ insert_funded A (path 1) 1 (Upto 20) ∷ [])
    ≡ done 16 0 ∷ hint Inserted 0 Probation true 0 ∷ hint Changed 0 Probation false 1 ∷ []
unfolding answers_of
promotion_seeks_the_charge = refl

-- a verified insert seeks room for its path weight
verified_seeks_the_path_weight : answers_of 24 2 300000 (insert A (path 1) 0 ∷ insert B (path 1) 1 ∷ insert_verified C (path 32) 2 ∷ Get A 2 ∷ Get B 2 ∷ [])
    ≡ hint Inserted 16 Main false 0 ∷ hint Inserted 16 Main false 0 ∷ done 32 2 ∷ missing ∷ missing ∷ []
unfolding answers_of
verified_seeks_the_path_weight = refl

-- expired rows are no better victims: A is older than B, which has expired
expired_is_no_better_victim : answers_of 24 2 300000 (insert A (path 1) 1 ∷ insert_with_ttl B (path 1) 2 1 ∷ insert C (path 1) 10 ∷ Remove A ∷ Demote B ∷ [])
    ≡ hint Inserted 16 Main false 0 ∷ hint Inserted 16 Main false 0 ∷ hint Inserted 16 Main false 1 ∷ EntryRemoved None ∷ KeyHeld true ∷ []
unfolding answers_of
expired_is_no_better_victim = refl

-- a failed walk keeps what returned: A lapsed, stood parked, and is by use again
returns_remain : seen 24 2 600000 (insert_verified A (path 1) 0 ∷ insert_verified B (path 1) 5 ∷ insert_funded C (path 1) 6 (Upto 16) ∷ insert_funded C (path 32) 300003 (Upto 32) ∷ [])
    ≡ record { answers = done 16 0 ∷ done 16 0 ∷ hint Inserted 0 Probation false 2 ∷ hint Changed 0 Probation false 2 ∷ []; rows = (1 ∷ 1 ∷ 0 ∷ 0 ∷ 600000 ∷ 0 ∷ 0 ∷ 0 ∷ 300000 ∷ 0 ∷ 0 ∷ 6 ∷ 16 ∷ []) ∷ (2 ∷ 1 ∷ 5 ∷ 5 ∷ 600005 ∷ 0 ∷ 0 ∷ 0 ∷ 300005 ∷ 1 ∷ 300005 ∷ 4 ∷ 16 ∷ []) ∷ (3 ∷ 32 ∷ 6 ∷ 300003 ∷ 900003 ∷ 0 ∷ 0 ∷ 1 ∷ 0 ∷ 2 ∷ 300003 ∷ 7 ∷ 32 ∷ []) ∷ []; seq = 7; stored_weight = 32 }
unfolding seen
returns_remain = refl

-- a path that has the key, but not first, is not stated
stated_by_the_first_address : answers_of 24 2 300000 (insert_verified A (path 1) 0 ∷ insert_stated A (record { entries = elements_from 90 1 ++ elements_from 1 31; len = 2 }) 1 Uncharged ∷ [])
    ≡ done 16 0 ∷ hint Rejected 0 Main false 0 ∷ []
unfolding answers_of
stated_by_the_first_address = refl

-- ---- sweeps

-- the root that is named stays
other_roots_leaves_the_root : answers_of 24 4 300000 (insert A (path_from 1 1) 0 ∷ insert B (path 2) 0 ∷ InvalidateOtherRoots (addr 90) ∷ Get A 0 ∷ Get B 0 ∷ [])
    ≡ hint Inserted 16 Main false 0 ∷ hint Inserted 16 Main false 0 ∷ RowsRemoved 1 ∷ missing ∷ found 2 ∷ []
unfolding answers_of
other_roots_leaves_the_root = refl

-- ---- statistics

-- both segments count, ages run from created_at, and the total is exact
stats_both_segments_by_created : answers_of 24 4 10 (insert A (path 1) 0 ∷ insert_funded B (path 1) 0 (Upto 15) ∷ GetAndTouch A 5 ∷ Stats 11 ∷ NextExpiry ∷ [])
    ≡ hint Inserted 16 Main false 0 ∷ hint Inserted 0 Probation true 0 ∷ found 1 ∷ StatsGiven (record { entries = 2; max_entries = 4; expired = 1; avg_age_ms = 11 }) ∷ ExpiryGiven (Some 10) ∷ []
unfolding answers_of
stats_both_segments_by_created = refl

stats_total_past_2_64 : answers_of 24 4 10 (insert A (path 1) 0 ∷ insert B (path 1) 0 ∷ Stats 18446744073709551615 ∷ [])
    ≡ hint Inserted 16 Main false 0 ∷ hint Inserted 16 Main false 0 ∷ StatsGiven (record { entries = 2; max_entries = 4; expired = 2; avg_age_ms = 18446744073709551615 }) ∷ []
unfolding answers_of
stats_total_past_2_64 = refl
