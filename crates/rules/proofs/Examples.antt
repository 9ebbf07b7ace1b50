-- Closed examples that the original cannot show: foreign states, refusals and their order, rows vacated, the memory.
use Prim.Native.Nat.{ℕ, ◌+◌}
use mathlib.Core.Path.{◌≡◌, refl}
use mathlib.Core.List.{List, [], ◌∷◌, ◌++◌, map}
use Rattle.std.specs.Prelude.{None, Some}
use mathlib.Core.Bool.{false}
use lib.ListN.{length, replicate}
use Rattle.types.specs.declared.coord.Path.{Path}
use Rattle.types.specs.Paths.{zero_entry}
use Rattle.types.specs.declared.entry.CoordSource.TheVariants.{Hint, Verified}
use Rattle.types.specs.declared.placed.Funding.TheVariants.{Upto}
use Rattle.types.specs.declared.placed.HintOutcome.TheVariants.{Inserted}
use Rattle.types.specs.declared.placed.Segment.TheVariants.{Main}
use Rattle.types.specs.Values.{mtu_mark_of, source_code}
use Rattle.rules.specs.Records.{Row, State, hint_source, no_mtu, some_mtu, verified_source, max_rows, with_held, with_seq}
use Rattle.rules.specs.Rows.{in_main, weigh_rows, zero_rows}
use Rattle.rules.specs.Calls.{Answer, Call, Clear, ClearPathMtu, Demote, Done, Get, GetAndTouch, InvalidateOtherRoots, InvalidateViaNode, NextExpiry, PathFound, PurgeExpired, Refused, Remove, RowsRemoved, Stats}
use Rattle.rules.specs.Refusals.{Asked, Fresh, fresh, refusal, serve, step}
use Rattle.rules.specs.Lists.{run}
use Rattle.rules.specs.Memory.{coord_entries_bytes, entry_bytes, le_bytes, memory, row_bytes, rows_bytes}
use Rattle.rules.proofs.Compute.{A, B, C, addr, answers_of, done, elements_from, hint, insert, insert_funded, insert_stated, insert_verified, insert_verified_with_path_mtu, insert_with_ttl, path, seen_from}

-- ---- foreign states

-- a hint in main of the address n, stamped (first, q)
row_on : ℕ → ℕ → ℕ → Row
row_on n first q = record { key = addr n; entry = record { path = path 1; created_at = 0; last_used = first; expires_at = 300000; mtu_mark = 0; mtu = 0; source = 1; verified_until = 0 }; place = 0; stamp_first = first; stamp_seq = q; weight = 16 }

holding : ℕ → ℕ → List Row → State
unfolding seen_from
holding m q rs = with_seq q (with_held (weigh_rows in_main rs) (length rs) rs (9 ∷ 9 ∷ []) (fresh 0 m 300000 []))

abbrev answers_on : State → List Call → List Answer
answers_on s qs = (seen_from 24 s qs).answers

keys_on : State → List Call → List ℕ
unfolding seen_from
keys_on s qs = map (λ xs. first_of xs) (seen_from 24 s qs).rows
  where
    first_of : List ℕ → ℕ
    first_of [] = 0
    first_of (x ∷ xs) = x

-- equal stamps go to the lower key
equal_stamps_lower_key : keys_on (holding 2 5 (row_on 1 3 5 ∷ row_on 2 3 5 ∷ [])) (insert_funded C (path 1) 4 (Upto 16) ∷ []) ≡ 2 ∷ 3 ∷ []
unfolding row_on holding keys_on
equal_stamps_lower_key = refl

-- ---- number 1

one_key_twice : answers_on (holding 2 5 (row_on 1 1 1 ∷ row_on 1 2 2 ∷ [])) (Get A 0 ∷ []) ≡ Refused 1 ∷ []
unfolding row_on holding seen_from
one_key_twice = refl

keys_descend : answers_on (holding 2 5 (row_on 2 1 1 ∷ row_on 1 2 2 ∷ [])) (Clear ∷ []) ≡ Refused 1 ∷ []
unfolding row_on holding seen_from
keys_descend = refl

stamp_past_seq : answers_on (holding 2 5 (row_on 1 1 6 ∷ [])) (Stats 0 ∷ []) ≡ Refused 1 ∷ []
unfolding row_on holding seen_from
stamp_past_seq = refl

-- R too small for its limits
too_few_rows : answers_of 24 24 300000 (Get A 0 ∷ []) ≡ Refused 1 ∷ []
unfolding answers_of
too_few_rows = refl

-- ---- number 3, and the order of numbers

-- at the limit a hint is done; past it hints, verified inserts and demote are refused, a touch and a sweep are not
seq_at_the_limit : answers_on (holding 2 18446744073709547519 []) (insert_funded A (path 1) 0 (Upto 16) ∷ insert_funded B (path 1) 0 (Upto 16) ∷ []) ≡ hint Inserted 16 Main false 0 ∷ Refused 3 ∷ []
unfolding holding seen_from
seq_at_the_limit = refl

seq_spent_lem : answers_on (holding 2 18446744073709551615 (row_on 1 1 1 ∷ [])) (insert B (path 1) 0 ∷ insert_verified B (path 1) 0 ∷ Demote B ∷ GetAndTouch A 5 ∷ PurgeExpired 0 ∷ []) ≡ Refused 3 ∷ Refused 3 ∷ Refused 3 ∷ PathFound (Some (elements_from 90 1)) ∷ RowsRemoved 0 ∷ []
unfolding row_on holding seen_from
seq_spent_lem = refl

-- 2 before 3
bad_path_before_spent : answers_on (holding 2 18446744073709551615 []) (insert A (path 0) 0 ∷ insert_verified A (path 33) 0 ∷ []) ≡ Refused 2 ∷ Refused 2 ∷ []
unfolding holding seen_from
bad_path_before_spent = refl

-- 1 before 2 and 3
unsound_before_all : answers_on (holding 2 18446744073709551615 (row_on 2 1 1 ∷ row_on 1 2 2 ∷ [])) (insert A (path 0) 0 ∷ []) ≡ Refused 1 ∷ []
unfolding row_on holding seen_from
unsound_before_all = refl

-- A verified in main, which R 2 and max 1 leave no row beside
full_at : ℕ → State
full_at q = with_seq q (with_held 16 1 (record { key = A; entry = record { path = path 1; created_at = 0; last_used = 0; expires_at = 300000; mtu_mark = 0; mtu = 0; source = 0; verified_until = 300000 }; place = 0; stamp_first = 0; stamp_seq = 0; weight = 16 } ∷ []) [] (fresh 0 1 300000 []))

-- 3 before 4
spent_before_no_place : map (λ q. refusal 2 (full_at q) (Asked (insert_verified B (path 1) 0))) (0 ∷ 18446744073709551615 ∷ []) ≡ Some 4 ∷ Some 3 ∷ []
unfolding full_at seen_from
spent_before_no_place = refl

-- exactly hints, verified inserts and demote, even where nothing would change: A is verified and C not held
three_exactly : map (λ q. refusal 24 (full_at 18446744073709551615) (Asked q)) (insert A (path 1) 0 ∷ insert_with_ttl A (path 1) 0 5 ∷ insert_funded A (path 1) 0 (Upto 0) ∷ insert_stated A (path 1) 0 (Upto 0) ∷ insert_verified A (path 1) 0 ∷ insert_verified_with_path_mtu A (path 1) 0 9 ∷ Demote C ∷ [])
    ≡ replicate 7 (Some 3)
unfolding full_at seen_from
three_exactly = refl

three_for_no_other : map (λ q. refusal 24 (full_at 18446744073709551615) (Asked q)) (Get A 0 ∷ GetAndTouch A 0 ∷ Remove A ∷ ClearPathMtu A ∷ PurgeExpired 0 ∷ Clear ∷ InvalidateViaNode A ∷ InvalidateOtherRoots A ∷ Stats 0 ∷ NextExpiry ∷ [])
    ≡ replicate 10 None
unfolding full_at seen_from
three_for_no_other = refl

-- ---- numbers 4 and 5: 01's examples

four : answers_of 2 1 300000 (insert_verified A (path 1) 0 ∷ insert_verified B (path 1) 0 ∷ []) ≡ done 16 0 ∷ Refused 4 ∷ []
unfolding answers_of
four = refl

five : map (λ m. (serve 24 (holding 8 7 []) (Fresh m 300000)).answer) (24 ∷ 23 ∷ []) ≡ Refused 5 ∷ Done ∷ []
unfolding holding seen_from
five = refl

-- R 1,024 is not too many, 1,025 is; R 1 is enough for max 0, and R 66 for max 64
five_at_the_limits : refusal max_rows (holding 2 0 []) (Fresh 0 1) ∷ refusal (max_rows + 1) (holding 2 0 []) (Fresh 0 1) ∷ refusal 1 (holding 2 0 []) (Fresh 0 1) ∷ refusal 0 (holding 2 0 []) (Fresh 0 1) ∷ refusal 66 (holding 2 0 []) (Fresh 64 1) ∷ refusal 65 (holding 2 0 []) (Fresh 64 1) ∷ [] ≡ None ∷ Some 5 ∷ None ∷ Some 5 ∷ None ∷ Some 5 ∷ []
unfolding holding seen_from
five_at_the_limits = refl

-- ---- a row vacated at the end becomes zero, and what is beyond stays

vacated : (step 24 (holding 2 5 (row_on 1 1 1 ∷ row_on 2 2 2 ∷ [])) (Remove A)).state.rest ≡ zero_rows 1 ++ (9 ∷ 9 ∷ [])
unfolding row_on holding seen_from
vacated = refl

touched_rest : (step 24 (holding 2 5 (row_on 1 1 1 ∷ [])) (GetAndTouch A 5)).state.rest ≡ 9 ∷ 9 ∷ []
unfolding row_on holding seen_from
touched_rest = refl

-- ---- codes of sources and MTU marks, as the types have them

source_codes : map source_code (Verified ∷ Hint ∷ []) ≡ verified_source ∷ hint_source ∷ []
unfolding source_code
source_codes = refl

mark_codes : map mtu_mark_of (None ∷ Some 1400 ∷ []) ≡ no_mtu ∷ some_mtu ∷ []
unfolding mtu_mark_of
mark_codes = refl

-- ---- the memory of a small state, byte by byte (docs/PACKING.md)

-- one element: sixteen bytes aa, sequence 1, timestamp 2
short_path : Path
short_path = record { entries = record { node_addr = addr 0xaa; sequence = 1; timestamp = 2 } ∷ replicate 31 zero_entry; len = 1 }

packed_state : State
packed_state = (run 1 (fresh 1 0 300000 []) (insert_funded (addr 0xaa) short_path 5 (Upto 15) ∷ [])).state

packed : memory packed_state
    ≡ (0 ∷ 0 ∷ 0 ∷ 0 ∷ 0 ∷ 0 ∷ 0 ∷ 0 ∷ []) ++ ((0xe0 ∷ 0x93 ∷ 0x04 ∷ 0 ∷ 0 ∷ 0 ∷ 0 ∷ 0 ∷ []) ++ ((1 ∷ 0 ∷ 0 ∷ 0 ∷ 0 ∷ 0 ∷ 0 ∷ 0 ∷ []) ++ ((0 ∷ 0 ∷ 0 ∷ 0 ∷ 0 ∷ 0 ∷ 0 ∷ 0 ∷ []) ++ ((1 ∷ 0 ∷ 0 ∷ 0 ∷ 0 ∷ 0 ∷ 0 ∷ 0 ∷ [])
    ++ (replicate 16 0xaa ++ ((1 ∷ []) ++ (replicate 16 0xaa ++ ((1 ∷ 0 ∷ 0 ∷ 0 ∷ 0 ∷ 0 ∷ 0 ∷ 0 ∷ []) ++ ((2 ∷ 0 ∷ 0 ∷ 0 ∷ 0 ∷ 0 ∷ 0 ∷ 0 ∷ []) ++ (replicate 992 0
    ++ ((5 ∷ 0 ∷ 0 ∷ 0 ∷ 0 ∷ 0 ∷ 0 ∷ 0 ∷ []) ++ ((5 ∷ 0 ∷ 0 ∷ 0 ∷ 0 ∷ 0 ∷ 0 ∷ 0 ∷ []) ++ ((0xe5 ∷ 0x93 ∷ 0x04 ∷ 0 ∷ 0 ∷ 0 ∷ 0 ∷ 0 ∷ []) ++ ((0 ∷ 0 ∷ 0 ∷ []) ++ ((1 ∷ []) ++ ((0 ∷ 0 ∷ 0 ∷ 0 ∷ 0 ∷ 0 ∷ 0 ∷ 0 ∷ [])
    ++ ((2 ∷ []) ++ ((5 ∷ 0 ∷ 0 ∷ 0 ∷ 0 ∷ 0 ∷ 0 ∷ 0 ∷ []) ++ ((1 ∷ 0 ∷ 0 ∷ 0 ∷ 0 ∷ 0 ∷ 0 ∷ 0 ∷ []) ++ (16 ∷ []))))))))))))))))))))
unfolding short_path packed_state seen_from zero_rows memory le_bytes coord_entries_bytes entry_bytes row_bytes rows_bytes
packed = refl
