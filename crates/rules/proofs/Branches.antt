-- Closed examples of branches that Table P does not reach. The figures are the original's: tests/branches.txt has the same
-- lists, and tests/rules-against-rust --show prints them.
use Prim.Native.Nat.{ℕ}
use mathlib.Core.Path.{◌≡◌, refl}
use mathlib.Core.List.{[], ◌∷◌}
use Rattle.std.specs.Prelude.{Option, None, Some}
use mathlib.Core.Bool.{true, false}
use lib.ListN.{replicate}
use Rattle.types.specs.declared.coord.Path.{Path}
use Rattle.types.specs.Paths.{zero_entry}
use Rattle.types.specs.declared.entry.CoordSource.TheVariants.{Hint, Verified}
use Rattle.types.specs.declared.placed.Funding.TheVariants.{Uncharged, Upto}
use Rattle.types.specs.declared.placed.HintOutcome.TheVariants.{Changed, Inserted, Rejected, Unchanged}
use Rattle.types.specs.declared.placed.Segment.TheVariants.{Main, Probation}
use Rattle.types.specs.declared.entry.CacheEntry.{CacheEntry}
use Rattle.types.specs.declared.entry.CoordSource.{CoordSource}
use Rattle.rules.specs.Calls.{Clear, ClearPathMtu, Demote, Done, EntryRemoved, ExpiryGiven, Get, GetAndTouch, InvalidateOtherRoots, InvalidateViaNode, KeyHeld, NextExpiry, PathFound, PurgeExpired, Refused, Remove, RowsRemoved, Stats, StatsGiven}
use Rattle.rules.proofs.Compute.{A, B, C, D, addr, done, elements_from, hint, insert, insert_funded, insert_stated, insert_verified, insert_verified_with_path_mtu, insert_with_ttl, path, path_from, seen}

-- as path 1, but for the sequence, and for the timestamp
sequenced : Path
sequenced = record { entries = record { node_addr = addr 90; sequence = 1; timestamp = 0 } ∷ replicate 31 zero_entry; len = 1 }

timed : Path
timed = record { entries = record { node_addr = addr 90; sequence = 0; timestamp = 1 } ∷ replicate 31 zero_entry; len = 1 }

abbrev removed : Path → ℕ → ℕ → ℕ → Option ℕ → CoordSource → ℕ → CacheEntry
removed p c u e m s v = record { path = p; created_at = c; last_used = u; expires_at = e; path_mtu = m; source = s; verified_until = v }

step_1_expired_row_stays_removed_when_rejected : seen 24 1 10 (insert_funded A (path 1) 0 (Upto 15) ∷ insert_verified B (path 1) 5 ∷ insert A (path 1) 11 ∷ [])
    ≡ record { answers = hint Inserted 0 Probation true 0 ∷ done 16 0 ∷ hint Rejected 0 Main false 1 ∷ []; rows = (2 ∷ 1 ∷ 5 ∷ 5 ∷ 15 ∷ 0 ∷ 0 ∷ 0 ∷ 300005 ∷ 1 ∷ 300005 ∷ 3 ∷ 16 ∷ []) ∷ []; seq = 3; stored_weight = 16 }
unfolding seen
step_1_expired_row_stays_removed_when_rejected = refl

step_1_expired_row_is_a_new_key : seen 24 2 10 (insert_funded A (path 1) 5 (Upto 16) ∷ insert_funded A (path 2) 16 (Upto 16) ∷ [])
    ≡ record { answers = hint Inserted 16 Main false 0 ∷ hint Inserted 16 Main false 0 ∷ []; rows = (1 ∷ 2 ∷ 16 ∷ 16 ∷ 26 ∷ 0 ∷ 0 ∷ 1 ∷ 0 ∷ 0 ∷ 16 ∷ 2 ∷ 16 ∷ []) ∷ []; seq = 2; stored_weight = 16 }
unfolding seen
step_1_expired_row_is_a_new_key = refl

step_2_probation_room_restamps_then_removes : seen 24 0 300000 (insert_funded A (path 1) 0 (Upto 16) ∷ GetAndTouch A 5 ∷ insert_funded B (path 1) 6 (Upto 16) ∷ [])
    ≡ record { answers = hint Inserted 0 Probation false 0 ∷ PathFound (Some (elements_from 90 1)) ∷ hint Inserted 0 Probation false 2 ∷ []; rows = (2 ∷ 1 ∷ 6 ∷ 6 ∷ 300006 ∷ 0 ∷ 0 ∷ 1 ∷ 0 ∷ 2 ∷ 6 ∷ 3 ∷ 16 ∷ []) ∷ []; seq = 3; stored_weight = 0 }
unfolding seen
step_2_probation_room_restamps_then_removes = refl

step_2_probation_room_passes_the_touched : seen 80 64 300000 (insert_funded A (path 1) 0 (Upto 15) ∷ insert_funded B (path 1) 1 (Upto 15) ∷ GetAndTouch A 5 ∷ insert_funded C (path 1) 6 (Upto 15) ∷ [])
    ≡ record { answers = hint Inserted 0 Probation true 0 ∷ hint Inserted 0 Probation true 0 ∷ PathFound (Some (elements_from 90 1)) ∷ hint Inserted 0 Probation true 2 ∷ []; rows = (1 ∷ 1 ∷ 0 ∷ 5 ∷ 300005 ∷ 0 ∷ 0 ∷ 1 ∷ 0 ∷ 2 ∷ 5 ∷ 3 ∷ 16 ∷ []) ∷ (3 ∷ 1 ∷ 6 ∷ 6 ∷ 300006 ∷ 0 ∷ 0 ∷ 1 ∷ 0 ∷ 2 ∷ 6 ∷ 4 ∷ 16 ∷ []) ∷ []; seq = 4; stored_weight = 0 }
unfolding seen
step_2_probation_room_passes_the_touched = refl

step_2_examined_adds_both_walks : seen 24 1 300000 (insert_funded B (path 1) 0 (Upto 15) ∷ insert_verified A (path 1) 0 ∷ insert_funded C (path 1) 1 (Upto 16) ∷ [])
    ≡ record { answers = hint Inserted 0 Probation true 0 ∷ done 16 0 ∷ hint Inserted 0 Probation false 2 ∷ []; rows = (1 ∷ 1 ∷ 0 ∷ 0 ∷ 300000 ∷ 0 ∷ 0 ∷ 0 ∷ 300000 ∷ 1 ∷ 300000 ∷ 3 ∷ 16 ∷ []) ∷ (3 ∷ 1 ∷ 1 ∷ 1 ∷ 300001 ∷ 0 ∷ 0 ∷ 1 ∷ 0 ∷ 2 ∷ 1 ∷ 4 ∷ 16 ∷ []) ∷ []; seq = 4; stored_weight = 16 }
unfolding seen
step_2_examined_adds_both_walks = refl

step_2_uncharged_without_room_is_rejected : seen 24 1 300000 (insert_verified A (path 1) 0 ∷ insert B (path 1) 1 ∷ [])
    ≡ record { answers = done 16 0 ∷ hint Rejected 0 Main false 1 ∷ []; rows = (1 ∷ 1 ∷ 0 ∷ 0 ∷ 300000 ∷ 0 ∷ 0 ∷ 0 ∷ 300000 ∷ 1 ∷ 300000 ∷ 2 ∷ 16 ∷ []) ∷ []; seq = 2; stored_weight = 16 }
unfolding seen
step_2_uncharged_without_room_is_rejected = refl

step_3_stated_and_differing_replaces : seen 24 2 300000 (insert_verified A (path 1) 0 ∷ insert_stated A (path_from 1 2) 1 (Upto 0) ∷ [])
    ≡ record { answers = done 16 0 ∷ hint Changed 0 Main false 0 ∷ []; rows = (1 ∷ 2 ∷ 0 ∷ 1 ∷ 300001 ∷ 0 ∷ 0 ∷ 1 ∷ 0 ∷ 0 ∷ 1 ∷ 2 ∷ 16 ∷ []) ∷ []; seq = 2; stored_weight = 16 }
unfolding seen
step_3_stated_and_differing_replaces = refl

step_3_stated_and_same_is_rejected : seen 24 2 300000 (insert_verified A (path_from 1 2) 0 ∷ insert_stated A (path_from 1 2) 1 Uncharged ∷ [])
    ≡ record { answers = done 16 0 ∷ hint Rejected 0 Main false 0 ∷ []; rows = (1 ∷ 2 ∷ 0 ∷ 0 ∷ 300000 ∷ 0 ∷ 0 ∷ 0 ∷ 300000 ∷ 0 ∷ 0 ∷ 1 ∷ 16 ∷ []) ∷ []; seq = 1; stored_weight = 16 }
unfolding seen
step_3_stated_and_same_is_rejected = refl

step_3_differing_but_not_stated_is_rejected : seen 24 2 300000 (insert_verified A (path 1) 0 ∷ insert_stated A (path 2) 1 Uncharged ∷ insert_funded A (path_from 1 2) 2 Uncharged ∷ [])
    ≡ record { answers = done 16 0 ∷ hint Rejected 0 Main false 0 ∷ hint Rejected 0 Main false 0 ∷ []; rows = (1 ∷ 1 ∷ 0 ∷ 0 ∷ 300000 ∷ 0 ∷ 0 ∷ 0 ∷ 300000 ∷ 0 ∷ 0 ∷ 1 ∷ 16 ∷ []) ∷ []; seq = 1; stored_weight = 16 }
unfolding seen
step_3_differing_but_not_stated_is_rejected = refl

step_3_ends_when_verification_lapses : seen 24 2 400000 (insert_verified A (path 1) 0 ∷ insert_funded A (path 1) 300001 (Upto 0) ∷ [])
    ≡ record { answers = done 16 0 ∷ hint Unchanged 0 Main false 0 ∷ []; rows = (1 ∷ 1 ∷ 0 ∷ 300001 ∷ 700001 ∷ 0 ∷ 0 ∷ 1 ∷ 0 ∷ 0 ∷ 300001 ∷ 2 ∷ 16 ∷ []) ∷ []; seq = 2; stored_weight = 16 }
unfolding seen
step_3_ends_when_verification_lapses = refl

step_4_covered_without_room_stays : seen 24 0 300000 (insert_funded A (path 1) 0 (Upto 16) ∷ insert A (path 20) 1 ∷ [])
    ≡ record { answers = hint Inserted 0 Probation false 0 ∷ hint Changed 0 Probation false 0 ∷ []; rows = (1 ∷ 20 ∷ 0 ∷ 1 ∷ 300001 ∷ 0 ∷ 0 ∷ 1 ∷ 0 ∷ 2 ∷ 1 ∷ 2 ∷ 20 ∷ []) ∷ []; seq = 2; stored_weight = 0 }
unfolding seen
step_4_covered_without_room_stays = refl

step_4_covered_and_unchanged_is_promoted : seen 24 2 300000 (insert_funded A (path 1) 0 (Upto 15) ∷ insert_funded A (path 1) 1 (Upto 16) ∷ [])
    ≡ record { answers = hint Inserted 0 Probation true 0 ∷ hint Unchanged 16 Main false 0 ∷ []; rows = (1 ∷ 1 ∷ 0 ∷ 1 ∷ 300001 ∷ 0 ∷ 0 ∷ 1 ∷ 0 ∷ 0 ∷ 1 ∷ 2 ∷ 16 ∷ []) ∷ []; seq = 2; stored_weight = 16 }
unfolding seen
step_4_covered_and_unchanged_is_promoted = refl

step_4_not_covered_takes_the_larger_weight : seen 24 2 300000 (insert_funded A (path 1) 0 (Upto 15) ∷ insert_funded A (path 20) 1 (Upto 19) ∷ insert_funded A (path 1) 2 (Upto 19) ∷ [])
    ≡ record { answers = hint Inserted 0 Probation true 0 ∷ hint Changed 0 Probation false 0 ∷ hint Changed 0 Probation false 0 ∷ []; rows = (1 ∷ 1 ∷ 0 ∷ 2 ∷ 300002 ∷ 0 ∷ 0 ∷ 1 ∷ 0 ∷ 2 ∷ 2 ∷ 3 ∷ 20 ∷ []) ∷ []; seq = 3; stored_weight = 0 }
unfolding seen
step_4_not_covered_takes_the_larger_weight = refl

step_5_same_weight_unchanged_is_refiled : seen 24 2 300000 (insert_funded A (path 1) 0 (Upto 16) ∷ insert_funded A (path 1) 7 (Upto 0) ∷ [])
    ≡ record { answers = hint Inserted 16 Main false 0 ∷ hint Unchanged 0 Main false 0 ∷ []; rows = (1 ∷ 1 ∷ 0 ∷ 7 ∷ 300007 ∷ 0 ∷ 0 ∷ 1 ∷ 0 ∷ 0 ∷ 7 ∷ 2 ∷ 16 ∷ []) ∷ []; seq = 2; stored_weight = 16 }
unfolding seen
step_5_same_weight_unchanged_is_refiled = refl

step_5_shallow_keeps_the_old_weight : seen 24 2 300000 (insert_funded A (path 20) 0 (Upto 20) ∷ insert_funded A (path 1) 1 (Upto 0) ∷ insert_funded A (path 20) 2 (Upto 0) ∷ [])
    ≡ record { answers = hint Inserted 20 Main false 0 ∷ hint Changed 0 Main false 0 ∷ hint Changed 0 Main false 0 ∷ []; rows = (1 ∷ 20 ∷ 0 ∷ 2 ∷ 300002 ∷ 0 ∷ 0 ∷ 1 ∷ 0 ∷ 0 ∷ 2 ∷ 3 ∷ 20 ∷ []) ∷ []; seq = 3; stored_weight = 20 }
unfolding seen
step_5_shallow_keeps_the_old_weight = refl

step_5_growth_evicts : seen 24 2 300000 (insert_funded A (path 1) 0 (Upto 16) ∷ insert_funded B (path 1) 1 (Upto 16) ∷ insert_funded A (path 20) 2 (Upto 4) ∷ [])
    ≡ record { answers = hint Inserted 16 Main false 0 ∷ hint Inserted 16 Main false 0 ∷ hint Changed 4 Main false 1 ∷ []; rows = (1 ∷ 20 ∷ 0 ∷ 2 ∷ 300002 ∷ 0 ∷ 0 ∷ 1 ∷ 0 ∷ 0 ∷ 2 ∷ 3 ∷ 20 ∷ []) ∷ []; seq = 3; stored_weight = 20 }
unfolding seen
step_5_growth_evicts = refl

step_5_growth_without_room_goes_back_newly_stamped : seen 24 2 300000 (insert_funded A (path 1) 0 (Upto 16) ∷ insert_verified B (path 1) 0 ∷ insert_funded A (path 18) 1 (Upto 2) ∷ [])
    ≡ record { answers = hint Inserted 16 Main false 0 ∷ done 16 0 ∷ hint Rejected 0 Main false 1 ∷ []; rows = (1 ∷ 1 ∷ 0 ∷ 0 ∷ 300000 ∷ 0 ∷ 0 ∷ 1 ∷ 0 ∷ 0 ∷ 0 ∷ 4 ∷ 16 ∷ []) ∷ (2 ∷ 1 ∷ 0 ∷ 0 ∷ 300000 ∷ 0 ∷ 0 ∷ 0 ∷ 300000 ∷ 1 ∷ 300000 ∷ 3 ∷ 16 ∷ []) ∷ []; seq = 4; stored_weight = 32 }
unfolding seen
step_5_growth_without_room_goes_back_newly_stamped = refl

step_5_stated_growth_without_room_is_filed : seen 24 2 300000 (insert_funded A (path 1) 0 (Upto 16) ∷ insert_verified B (path 1) 0 ∷ insert_stated A (path_from 1 18) 1 (Upto 2) ∷ [])
    ≡ record { answers = hint Inserted 16 Main false 0 ∷ done 16 0 ∷ hint Changed 2 Main false 1 ∷ []; rows = (1 ∷ 18 ∷ 0 ∷ 1 ∷ 300001 ∷ 0 ∷ 0 ∷ 1 ∷ 0 ∷ 0 ∷ 1 ∷ 4 ∷ 18 ∷ []) ∷ (2 ∷ 1 ∷ 0 ∷ 0 ∷ 300000 ∷ 0 ∷ 0 ∷ 0 ∷ 300000 ∷ 1 ∷ 300000 ∷ 3 ∷ 16 ∷ []) ∷ []; seq = 4; stored_weight = 34 }
unfolding seen
step_5_stated_growth_without_room_is_filed = refl

step_5_growth_not_covered : seen 24 2 300000 (insert_funded A (path 1) 0 (Upto 16) ∷ insert_stated A (path_from 1 18) 1 (Upto 1) ∷ [])
    ≡ record { answers = hint Inserted 16 Main false 0 ∷ hint Rejected 0 Main true 0 ∷ []; rows = (1 ∷ 1 ∷ 0 ∷ 0 ∷ 300000 ∷ 0 ∷ 0 ∷ 1 ∷ 0 ∷ 0 ∷ 0 ∷ 1 ∷ 16 ∷ []) ∷ []; seq = 1; stored_weight = 16 }
unfolding seen
step_5_growth_not_covered = refl

room_failing_loses_no_victim : seen 24 2 300000 (insert_funded A (path 1) 1 (Upto 16) ∷ insert_verified B (path 1) 1 ∷ insert_funded C (path 32) 2 (Upto 32) ∷ [])
    ≡ record { answers = hint Inserted 16 Main false 0 ∷ done 16 0 ∷ hint Inserted 0 Probation false 2 ∷ []; rows = (1 ∷ 1 ∷ 1 ∷ 1 ∷ 300001 ∷ 0 ∷ 0 ∷ 1 ∷ 0 ∷ 0 ∷ 1 ∷ 1 ∷ 16 ∷ []) ∷ (2 ∷ 1 ∷ 1 ∷ 1 ∷ 300001 ∷ 0 ∷ 0 ∷ 0 ∷ 300001 ∷ 1 ∷ 300001 ∷ 3 ∷ 16 ∷ []) ∷ (3 ∷ 32 ∷ 2 ∷ 2 ∷ 300002 ∷ 0 ∷ 0 ∷ 1 ∷ 0 ∷ 2 ∷ 2 ∷ 4 ∷ 32 ∷ []) ∷ []; seq = 4; stored_weight = 32 }
unfolding seen
room_failing_loses_no_victim = refl

room_w_is_cut_to_b : seen 24 1 300000 (insert_funded A (path 1) 0 (Upto 16) ∷ insert_funded B (path 32) 1 (Upto 32) ∷ [])
    ≡ record { answers = hint Inserted 16 Main false 0 ∷ hint Inserted 32 Main false 1 ∷ []; rows = (2 ∷ 32 ∷ 1 ∷ 1 ∷ 300001 ∷ 0 ∷ 0 ∷ 1 ∷ 0 ∷ 0 ∷ 1 ∷ 2 ∷ 32 ∷ []) ∷ []; seq = 2; stored_weight = 32 }
unfolding seen
room_w_is_cut_to_b = refl

walk_ties_of_first_go_by_seq : seen 24 2 300000 (insert_funded B (path 1) 1 (Upto 16) ∷ insert_funded A (path 1) 1 (Upto 16) ∷ insert_funded C (path 1) 1 (Upto 16) ∷ [])
    ≡ record { answers = hint Inserted 16 Main false 0 ∷ hint Inserted 16 Main false 0 ∷ hint Inserted 16 Main false 1 ∷ []; rows = (1 ∷ 1 ∷ 1 ∷ 1 ∷ 300001 ∷ 0 ∷ 0 ∷ 1 ∷ 0 ∷ 0 ∷ 1 ∷ 2 ∷ 16 ∷ []) ∷ (3 ∷ 1 ∷ 1 ∷ 1 ∷ 300001 ∷ 0 ∷ 0 ∷ 1 ∷ 0 ∷ 0 ∷ 1 ∷ 3 ∷ 16 ∷ []) ∷ []; seq = 3; stored_weight = 32 }
unfolding seen
walk_ties_of_first_go_by_seq = refl

walk_restamps_a_touch_back_in_time : seen 24 2 300000 (insert_funded A (path 1) 5 (Upto 16) ∷ insert_funded B (path 1) 6 (Upto 16) ∷ GetAndTouch A 3 ∷ insert_funded C (path 1) 7 (Upto 16) ∷ [])
    ≡ record { answers = hint Inserted 16 Main false 0 ∷ hint Inserted 16 Main false 0 ∷ PathFound (Some (elements_from 90 1)) ∷ hint Inserted 16 Main false 2 ∷ []; rows = (2 ∷ 1 ∷ 6 ∷ 6 ∷ 300006 ∷ 0 ∷ 0 ∷ 1 ∷ 0 ∷ 0 ∷ 6 ∷ 2 ∷ 16 ∷ []) ∷ (3 ∷ 1 ∷ 7 ∷ 7 ∷ 300007 ∷ 0 ∷ 0 ∷ 1 ∷ 0 ∷ 0 ∷ 7 ∷ 4 ∷ 16 ∷ []) ∷ []; seq = 4; stored_weight = 32 }
unfolding seen
walk_restamps_a_touch_back_in_time = refl

walk_parks_by_verification_not_expiry : seen 24 1 10 (insert_verified A (path 1) 0 ∷ insert_funded B (path 1) 11 (Upto 16) ∷ [])
    ≡ record { answers = done 16 0 ∷ hint Inserted 0 Probation false 1 ∷ []; rows = (1 ∷ 1 ∷ 0 ∷ 0 ∷ 10 ∷ 0 ∷ 0 ∷ 0 ∷ 300000 ∷ 1 ∷ 300000 ∷ 2 ∷ 16 ∷ []) ∷ (2 ∷ 1 ∷ 11 ∷ 11 ∷ 21 ∷ 0 ∷ 0 ∷ 1 ∷ 0 ∷ 2 ∷ 11 ∷ 3 ∷ 16 ∷ []) ∷ []; seq = 3; stored_weight = 16 }
unfolding seen
walk_parks_by_verification_not_expiry = refl

walk_returns_the_lapsed_and_counts_them : seen 24 1 300000 (insert_verified A (path 1) 0 ∷ insert_funded B (path 1) 1 (Upto 16) ∷ insert_funded C (path 1) 300001 (Upto 16) ∷ [])
    ≡ record { answers = done 16 0 ∷ hint Inserted 0 Probation false 1 ∷ hint Inserted 16 Main false 2 ∷ []; rows = (2 ∷ 1 ∷ 1 ∷ 1 ∷ 300001 ∷ 0 ∷ 0 ∷ 1 ∷ 0 ∷ 2 ∷ 1 ∷ 3 ∷ 16 ∷ []) ∷ (3 ∷ 1 ∷ 300001 ∷ 300001 ∷ 600001 ∷ 0 ∷ 0 ∷ 1 ∷ 0 ∷ 0 ∷ 300001 ∷ 5 ∷ 16 ∷ []) ∷ []; seq = 5; stored_weight = 16 }
unfolding seen
walk_returns_the_lapsed_and_counts_them = refl

walk_returns_only_the_lapsed : seen 24 2 300000 (insert_verified A (path 1) 0 ∷ insert_verified B (path 1) 5 ∷ insert_funded C (path 1) 6 (Upto 16) ∷ insert_funded D (path 1) 300003 (Upto 16) ∷ [])
    ≡ record { answers = done 16 0 ∷ done 16 0 ∷ hint Inserted 0 Probation false 2 ∷ hint Inserted 16 Main false 2 ∷ []; rows = (2 ∷ 1 ∷ 5 ∷ 5 ∷ 300005 ∷ 0 ∷ 0 ∷ 0 ∷ 300005 ∷ 1 ∷ 300005 ∷ 4 ∷ 16 ∷ []) ∷ (3 ∷ 1 ∷ 6 ∷ 6 ∷ 300006 ∷ 0 ∷ 0 ∷ 1 ∷ 0 ∷ 2 ∷ 6 ∷ 5 ∷ 16 ∷ []) ∷ (4 ∷ 1 ∷ 300003 ∷ 300003 ∷ 600003 ∷ 0 ∷ 0 ∷ 1 ∷ 0 ∷ 0 ∷ 300003 ∷ 7 ∷ 16 ∷ []) ∷ []; seq = 7; stored_weight = 32 }
unfolding seen
walk_returns_only_the_lapsed = refl

walk_ties_of_parked_go_by_the_park_sequence : seen 24 2 400000 (insert_verified B (path 1) 0 ∷ insert_verified A (path 1) 0 ∷ insert_funded C (path 1) 1 (Upto 16) ∷ insert_funded D (path 1) 300001 (Upto 16) ∷ [])
    ≡ record { answers = done 16 0 ∷ done 16 0 ∷ hint Inserted 0 Probation false 2 ∷ hint Inserted 16 Main false 3 ∷ []; rows = (1 ∷ 1 ∷ 0 ∷ 0 ∷ 400000 ∷ 0 ∷ 0 ∷ 0 ∷ 300000 ∷ 0 ∷ 0 ∷ 7 ∷ 16 ∷ []) ∷ (3 ∷ 1 ∷ 1 ∷ 1 ∷ 400001 ∷ 0 ∷ 0 ∷ 1 ∷ 0 ∷ 2 ∷ 1 ∷ 5 ∷ 16 ∷ []) ∷ (4 ∷ 1 ∷ 300001 ∷ 300001 ∷ 700001 ∷ 0 ∷ 0 ∷ 1 ∷ 0 ∷ 0 ∷ 300001 ∷ 8 ∷ 16 ∷ []) ∷ []; seq = 8; stored_weight = 32 }
unfolding seen
walk_ties_of_parked_go_by_the_park_sequence = refl

verified_keeps_created_and_mtu_and_sets_the_path_weight : seen 24 2 300000 (insert_funded A (path 20) 0 (Upto 20) ∷ insert_verified_with_path_mtu A (path 1) 5 1400 ∷ insert_verified A (path 2) 9 ∷ [])
    ≡ record { answers = hint Inserted 20 Main false 0 ∷ done 16 0 ∷ done 16 0 ∷ []; rows = (1 ∷ 2 ∷ 0 ∷ 9 ∷ 300009 ∷ 1 ∷ 1400 ∷ 0 ∷ 300009 ∷ 0 ∷ 9 ∷ 3 ∷ 16 ∷ []) ∷ []; seq = 3; stored_weight = 16 }
unfolding seen
verified_keeps_created_and_mtu_and_sets_the_path_weight = refl

verified_takes_an_expired_row : seen 24 2 10 (insert_funded A (path 1) 0 (Upto 16) ∷ insert_verified A (path 1) 50 ∷ [])
    ≡ record { answers = hint Inserted 16 Main false 0 ∷ done 16 0 ∷ []; rows = (1 ∷ 1 ∷ 0 ∷ 50 ∷ 60 ∷ 0 ∷ 0 ∷ 0 ∷ 300050 ∷ 0 ∷ 50 ∷ 2 ∷ 16 ∷ []) ∷ []; seq = 2; stored_weight = 16 }
unfolding seen
verified_takes_an_expired_row = refl

verified_leaves_probation : seen 24 2 300000 (insert_funded A (path 20) 0 (Upto 1) ∷ insert_verified A (path 1) 1 ∷ [])
    ≡ record { answers = hint Inserted 0 Probation true 0 ∷ done 16 0 ∷ []; rows = (1 ∷ 1 ∷ 0 ∷ 1 ∷ 300001 ∷ 0 ∷ 0 ∷ 0 ∷ 300001 ∷ 0 ∷ 1 ∷ 2 ∷ 16 ∷ []) ∷ []; seq = 2; stored_weight = 16 }
unfolding seen
verified_leaves_probation = refl

verified_is_filed_without_room : seen 3 1 300000 (insert_verified A (path 1) 0 ∷ insert_verified B (path 1) 0 ∷ insert_verified B (path 2) 1 ∷ insert_verified C (path 1) 2 ∷ insert_verified C (path 1) 300002 ∷ [])
    ≡ record { answers = done 16 0 ∷ done 16 1 ∷ done 16 0 ∷ Refused 4 ∷ done 16 3 ∷ []; rows = (3 ∷ 1 ∷ 300002 ∷ 300002 ∷ 600002 ∷ 0 ∷ 0 ∷ 0 ∷ 600002 ∷ 0 ∷ 300002 ∷ 6 ∷ 16 ∷ []) ∷ []; seq = 6; stored_weight = 16 }
unfolding seen
verified_is_filed_without_room = refl

verified_of_a_probation_key_refused_by_4 : seen 2 1 300000 (insert_verified A (path 1) 0 ∷ insert_funded B (path 1) 0 (Upto 16) ∷ insert_verified B (path 1) 0 ∷ [])
    ≡ record { answers = done 16 0 ∷ hint Inserted 0 Probation false 1 ∷ Refused 4 ∷ []; rows = (1 ∷ 1 ∷ 0 ∷ 0 ∷ 300000 ∷ 0 ∷ 0 ∷ 0 ∷ 300000 ∷ 1 ∷ 300000 ∷ 2 ∷ 16 ∷ []) ∷ (2 ∷ 1 ∷ 0 ∷ 0 ∷ 300000 ∷ 0 ∷ 0 ∷ 1 ∷ 0 ∷ 2 ∷ 0 ∷ 3 ∷ 16 ∷ []) ∷ []; seq = 3; stored_weight = 16 }
unfolding seen
verified_of_a_probation_key_refused_by_4 = refl

mtu_kept_by_an_update_dropped_by_clear : seen 24 2 400000 (insert_verified_with_path_mtu A (path 1) 0 1400 ∷ insert_funded A (path 1) 300001 (Upto 0) ∷ ClearPathMtu A ∷ ClearPathMtu B ∷ [])
    ≡ record { answers = done 16 0 ∷ hint Unchanged 0 Main false 0 ∷ Done ∷ Done ∷ []; rows = (1 ∷ 1 ∷ 0 ∷ 300001 ∷ 700001 ∷ 0 ∷ 0 ∷ 1 ∷ 0 ∷ 0 ∷ 300001 ∷ 2 ∷ 16 ∷ []) ∷ []; seq = 2; stored_weight = 16 }
unfolding seen
mtu_kept_by_an_update_dropped_by_clear = refl

mtu_not_kept_by_a_new_entry : seen 24 2 10 (insert_verified_with_path_mtu A (path 1) 0 1400 ∷ insert_funded A (path 1) 11 (Upto 16) ∷ [])
    ≡ record { answers = done 16 0 ∷ hint Inserted 16 Main false 0 ∷ []; rows = (1 ∷ 1 ∷ 11 ∷ 11 ∷ 21 ∷ 0 ∷ 0 ∷ 1 ∷ 0 ∷ 0 ∷ 11 ∷ 2 ∷ 16 ∷ []) ∷ []; seq = 2; stored_weight = 16 }
unfolding seen
mtu_not_kept_by_a_new_entry = refl

touch_refreshes_and_leaves_the_stamp : seen 24 2 10 (insert_with_ttl A (path 1) 5 3 ∷ GetAndTouch A 8 ∷ Get A 18 ∷ GetAndTouch A 19 ∷ Get A 19 ∷ [])
    ≡ record { answers = hint Inserted 16 Main false 0 ∷ PathFound (Some (elements_from 90 1)) ∷ PathFound (Some (elements_from 90 1)) ∷ PathFound None ∷ PathFound None ∷ []; rows = []; seq = 1; stored_weight = 0 }
unfolding seen
touch_refreshes_and_leaves_the_stamp = refl

get_of_an_expired_key_leaves_it : seen 24 2 10 (insert A (path 1) 5 ∷ Get A 16 ∷ [])
    ≡ record { answers = hint Inserted 16 Main false 0 ∷ PathFound None ∷ []; rows = (1 ∷ 1 ∷ 5 ∷ 5 ∷ 15 ∷ 0 ∷ 0 ∷ 1 ∷ 0 ∷ 0 ∷ 5 ∷ 1 ∷ 16 ∷ []) ∷ []; seq = 1; stored_weight = 16 }
unfolding seen
get_of_an_expired_key_leaves_it = refl

times_stop_at_the_last : seen 24 2 300000 (insert_with_ttl A (path 1) 18446744073709551615 1 ∷ insert_verified B (path 1) 18446744073709551600 ∷ [])
    ≡ record { answers = hint Inserted 16 Main false 0 ∷ done 16 0 ∷ []; rows = (1 ∷ 1 ∷ 18446744073709551615 ∷ 18446744073709551615 ∷ 18446744073709551615 ∷ 0 ∷ 0 ∷ 1 ∷ 0 ∷ 0 ∷ 18446744073709551615 ∷ 1 ∷ 16 ∷ []) ∷ (2 ∷ 1 ∷ 18446744073709551600 ∷ 18446744073709551600 ∷ 18446744073709551615 ∷ 0 ∷ 0 ∷ 0 ∷ 18446744073709551615 ∷ 0 ∷ 18446744073709551600 ∷ 2 ∷ 16 ∷ []) ∷ []; seq = 2; stored_weight = 32 }
unfolding seen
times_stop_at_the_last = refl

remove_expired_or_not : seen 24 2 10 (insert A (path 1) 5 ∷ insert_verified_with_path_mtu B (path 1) 5 1400 ∷ Remove A ∷ Remove B ∷ Remove B ∷ [])
    ≡ record { answers = hint Inserted 16 Main false 0 ∷ done 16 0 ∷ EntryRemoved (Some (removed (path 1) 5 5 15 None Hint 0)) ∷ EntryRemoved (Some (removed (path 1) 5 5 15 (Some 1400) Verified 300005)) ∷ EntryRemoved None ∷ []; rows = []; seq = 2; stored_weight = 0 }
unfolding seen
remove_expired_or_not = refl

demote_a_parked_row_is_refiled : seen 24 1 300000 (insert_verified A (path 1) 0 ∷ insert_funded B (path 1) 1 (Upto 16) ∷ GetAndTouch A 7 ∷ Demote A ∷ Demote C ∷ [])
    ≡ record { answers = done 16 0 ∷ hint Inserted 0 Probation false 1 ∷ PathFound (Some (elements_from 90 1)) ∷ KeyHeld true ∷ KeyHeld false ∷ []; rows = (1 ∷ 1 ∷ 0 ∷ 7 ∷ 300007 ∷ 0 ∷ 0 ∷ 1 ∷ 0 ∷ 0 ∷ 7 ∷ 4 ∷ 16 ∷ []) ∷ (2 ∷ 1 ∷ 1 ∷ 1 ∷ 300001 ∷ 0 ∷ 0 ∷ 1 ∷ 0 ∷ 2 ∷ 1 ∷ 3 ∷ 16 ∷ []) ∷ []; seq = 4; stored_weight = 16 }
unfolding seen
demote_a_parked_row_is_refiled = refl

demote_in_place : seen 24 2 300000 (insert_verified A (path 1) 0 ∷ Demote A ∷ insert A (path 2) 1 ∷ [])
    ≡ record { answers = done 16 0 ∷ KeyHeld true ∷ hint Changed 0 Main false 0 ∷ []; rows = (1 ∷ 2 ∷ 0 ∷ 1 ∷ 300001 ∷ 0 ∷ 0 ∷ 1 ∷ 0 ∷ 0 ∷ 1 ∷ 2 ∷ 16 ∷ []) ∷ []; seq = 2; stored_weight = 16 }
unfolding seen
demote_in_place = refl

sweep_purge_expired : seen 24 2 10 (insert A (path 1) 0 ∷ insert B (path 1) 1 ∷ PurgeExpired 10 ∷ PurgeExpired 11 ∷ [])
    ≡ record { answers = hint Inserted 16 Main false 0 ∷ hint Inserted 16 Main false 0 ∷ RowsRemoved 0 ∷ RowsRemoved 1 ∷ []; rows = (2 ∷ 1 ∷ 1 ∷ 1 ∷ 11 ∷ 0 ∷ 0 ∷ 1 ∷ 0 ∷ 0 ∷ 1 ∷ 2 ∷ 16 ∷ []) ∷ []; seq = 2; stored_weight = 16 }
unfolding seen
sweep_purge_expired = refl

sweep_via_node : seen 24 4 300000 (insert A (path_from 1 2) 0 ∷ insert B (path 2) 0 ∷ InvalidateViaNode A ∷ InvalidateViaNode (addr 90) ∷ [])
    ≡ record { answers = hint Inserted 16 Main false 0 ∷ hint Inserted 16 Main false 0 ∷ RowsRemoved 1 ∷ RowsRemoved 1 ∷ []; rows = []; seq = 2; stored_weight = 0 }
unfolding seen
sweep_via_node = refl

sweep_other_roots : seen 24 4 300000 (insert A (path_from 1 1) 0 ∷ insert B (path 2) 0 ∷ InvalidateOtherRoots (addr 90) ∷ InvalidateOtherRoots A ∷ [])
    ≡ record { answers = hint Inserted 16 Main false 0 ∷ hint Inserted 16 Main false 0 ∷ RowsRemoved 1 ∷ RowsRemoved 1 ∷ []; rows = []; seq = 2; stored_weight = 0 }
unfolding seen
sweep_other_roots = refl

sweep_clear_keeps_seq : seen 24 2 300000 (insert A (path 1) 0 ∷ insert B (path 1) 0 ∷ Clear ∷ insert C (path 1) 1 ∷ [])
    ≡ record { answers = hint Inserted 16 Main false 0 ∷ hint Inserted 16 Main false 0 ∷ Done ∷ hint Inserted 16 Main false 0 ∷ []; rows = (3 ∷ 1 ∷ 1 ∷ 1 ∷ 300001 ∷ 0 ∷ 0 ∷ 1 ∷ 0 ∷ 0 ∷ 1 ∷ 3 ∷ 16 ∷ []) ∷ []; seq = 3; stored_weight = 16 }
unfolding seen
sweep_clear_keeps_seq = refl

stats_mean_is_rounded_down : seen 24 4 10 (insert A (path 1) 0 ∷ insert B (path 1) 1 ∷ insert C (path 1) 9 ∷ Stats 11 ∷ Stats 5 ∷ [])
    ≡ record { answers = hint Inserted 16 Main false 0 ∷ hint Inserted 16 Main false 0 ∷ hint Inserted 16 Main false 0 ∷ StatsGiven (record { entries = 3; max_entries = 4; expired = 1; avg_age_ms = 7 }) ∷ StatsGiven (record { entries = 3; max_entries = 4; expired = 0; avg_age_ms = 3 }) ∷ []; rows = (1 ∷ 1 ∷ 0 ∷ 0 ∷ 10 ∷ 0 ∷ 0 ∷ 1 ∷ 0 ∷ 0 ∷ 0 ∷ 1 ∷ 16 ∷ []) ∷ (2 ∷ 1 ∷ 1 ∷ 1 ∷ 11 ∷ 0 ∷ 0 ∷ 1 ∷ 0 ∷ 0 ∷ 1 ∷ 2 ∷ 16 ∷ []) ∷ (3 ∷ 1 ∷ 9 ∷ 9 ∷ 19 ∷ 0 ∷ 0 ∷ 1 ∷ 0 ∷ 0 ∷ 9 ∷ 3 ∷ 16 ∷ []) ∷ []; seq = 3; stored_weight = 48 }
unfolding seen
stats_mean_is_rounded_down = refl

stats_of_an_empty_cache : seen 24 4 10 (Stats 11 ∷ NextExpiry ∷ [])
    ≡ record { answers = StatsGiven (record { entries = 0; max_entries = 4; expired = 0; avg_age_ms = 0 }) ∷ ExpiryGiven None ∷ []; rows = []; seq = 0; stored_weight = 0 }
unfolding seen
stats_of_an_empty_cache = refl

next_expiry_is_the_smallest : seen 24 4 10 (insert A (path 1) 5 ∷ insert_with_ttl B (path 1) 5 3 ∷ insert C (path 1) 6 ∷ NextExpiry ∷ [])
    ≡ record { answers = hint Inserted 16 Main false 0 ∷ hint Inserted 16 Main false 0 ∷ hint Inserted 16 Main false 0 ∷ ExpiryGiven (Some 8) ∷ []; rows = (1 ∷ 1 ∷ 5 ∷ 5 ∷ 15 ∷ 0 ∷ 0 ∷ 1 ∷ 0 ∷ 0 ∷ 5 ∷ 1 ∷ 16 ∷ []) ∷ (2 ∷ 1 ∷ 5 ∷ 5 ∷ 8 ∷ 0 ∷ 0 ∷ 1 ∷ 0 ∷ 0 ∷ 5 ∷ 2 ∷ 16 ∷ []) ∷ (3 ∷ 1 ∷ 6 ∷ 6 ∷ 16 ∷ 0 ∷ 0 ∷ 1 ∷ 0 ∷ 0 ∷ 6 ∷ 3 ∷ 16 ∷ []) ∷ []; seq = 3; stored_weight = 48 }
unfolding seen
next_expiry_is_the_smallest = refl

path_differs_in_a_sequence : seen 24 2 300000 (insert A (path 1) 0 ∷ insert A sequenced 1 ∷ [])
    ≡ record { answers = hint Inserted 16 Main false 0 ∷ hint Changed 0 Main false 0 ∷ []; rows = (1 ∷ 1 ∷ 0 ∷ 1 ∷ 300001 ∷ 0 ∷ 0 ∷ 1 ∷ 0 ∷ 0 ∷ 1 ∷ 2 ∷ 16 ∷ []) ∷ []; seq = 2; stored_weight = 16 }
unfolding seen sequenced
path_differs_in_a_sequence = refl

path_differs_in_a_timestamp : seen 24 2 300000 (insert A (path 1) 0 ∷ insert A timed 1 ∷ [])
    ≡ record { answers = hint Inserted 16 Main false 0 ∷ hint Changed 0 Main false 0 ∷ []; rows = (1 ∷ 1 ∷ 0 ∷ 1 ∷ 300001 ∷ 0 ∷ 0 ∷ 1 ∷ 0 ∷ 0 ∷ 1 ∷ 2 ∷ 16 ∷ []) ∷ []; seq = 2; stored_weight = 16 }
unfolding seen timed
path_differs_in_a_timestamp = refl

path_differs_in_its_length : seen 24 2 300000 (insert A (path 1) 0 ∷ insert A (path 2) 1 ∷ [])
    ≡ record { answers = hint Inserted 16 Main false 0 ∷ hint Changed 0 Main false 0 ∷ []; rows = (1 ∷ 2 ∷ 0 ∷ 1 ∷ 300001 ∷ 0 ∷ 0 ∷ 1 ∷ 0 ∷ 0 ∷ 1 ∷ 2 ∷ 16 ∷ []) ∷ []; seq = 2; stored_weight = 16 }
unfolding seen
path_differs_in_its_length = refl

path_of_no_or_over_32_elements : seen 24 2 300000 (insert A (path 0) 0 ∷ insert_verified A (path 33) 0 ∷ insert A (path 32) 0 ∷ [])
    ≡ record { answers = Refused 2 ∷ Refused 2 ∷ hint Inserted 32 Main false 0 ∷ []; rows = (1 ∷ 32 ∷ 0 ∷ 0 ∷ 300000 ∷ 0 ∷ 0 ∷ 1 ∷ 0 ∷ 0 ∷ 0 ∷ 1 ∷ 32 ∷ []) ∷ []; seq = 1; stored_weight = 32 }
unfolding seen
path_of_no_or_over_32_elements = refl
