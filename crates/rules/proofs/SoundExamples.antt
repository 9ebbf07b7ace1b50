-- Closed examples of sound and unsound states: each condition of 01 broken in turn, and the limits that still hold.
use Prim.Native.Nat.{ℕ, ◌+◌}
use mathlib.Core.Path.{◌≡◌, refl}
use mathlib.Core.List.{List, [], ◌∷◌}
use mathlib.Core.Bool.{true, false}
use lib.ListN.{replicate}
use Rattle.rules.specs.Records.{Row, State, max_rows, with_held, with_seq}
use Rattle.rules.specs.Sound.{sound}
use Rattle.rules.specs.Refusals.{fresh}
use Rattle.rules.proofs.Compute.{addr, path, seen_from}

-- a row of the key k: length, MTU mark, source, verified_until, place, stamp (first, q), weight
row_with : ℕ → ℕ → ℕ → ℕ → ℕ → ℕ → ℕ → ℕ → ℕ → Row
row_with k len mark source until place first q w = record { key = addr k; entry = record { path = record { len = len; entries = (path 1).entries }; created_at = 0; last_used = 0; expires_at = 300000; mtu_mark = mark; mtu = 0; source = source; verified_until = until }; place = place; stamp_first = first; stamp_seq = q; weight = w }

-- max_entries, seq, stored_weight, count
holding : ℕ → ℕ → ℕ → ℕ → List Row → State
holding m q stored count rs = with_seq q (with_held stored count rs [] (fresh 0 m 300000 []))

ok_row : Row
ok_row = row_with 1 1 0 1 0 0 0 5 16

-- a hint; a weight above its path's, up to 32; a parked verified row; a probation hint; R 1,024; all of max and Q in R 3
sound_states : sound 24 (holding 2 5 16 1 (ok_row ∷ [])) ∷ sound 24 (holding 2 5 32 1 (row_with 1 1 1 1 0 0 9 5 32 ∷ [])) ∷ sound 24 (holding 2 5 16 1 (row_with 1 1 0 0 70 1 70 5 16 ∷ [])) ∷ sound 24 (holding 2 5 0 1 (row_with 1 32 0 1 0 2 9 5 32 ∷ [])) ∷ sound max_rows (holding 2 5 0 0 []) ∷ sound 3 (holding 2 5 32 2 (ok_row ∷ row_with 2 1 0 1 0 0 0 5 16 ∷ [])) ∷ [] ≡ replicate 6 true
unfolding holding ok_row row_with seen_from
sound_states = refl

-- R over 1,024; R under max + Q; a main row over M; two rows in probation; place 3; source 2; mark 2; length 0; length 33;
-- weight under the path's; weight 33; stored weight wrong; stamp past seq; a hint with verified_until; a verified row in probation;
-- a parked hint; a parked row of another first; a count that is not the rows'; keys equal; keys descending
unsound_states : sound (max_rows + 1) (holding 2 5 16 1 (ok_row ∷ [])) ∷ sound 2 (holding 2 5 16 1 (ok_row ∷ [])) ∷ sound 3 (holding 2 5 48 3 (ok_row ∷ row_with 2 1 0 1 0 0 0 5 16 ∷ row_with 3 1 0 1 0 0 0 5 16 ∷ [])) ∷ sound 24 (holding 2 5 0 2 (row_with 1 1 0 1 0 2 0 5 16 ∷ row_with 2 1 0 1 0 2 0 5 16 ∷ []))
    ∷ sound 24 (holding 2 5 0 1 (row_with 1 1 0 1 0 3 0 5 16 ∷ [])) ∷ sound 24 (holding 2 5 16 1 (row_with 1 1 0 2 0 0 0 5 16 ∷ [])) ∷ sound 24 (holding 2 5 16 1 (row_with 1 1 2 1 0 0 0 5 16 ∷ [])) ∷ sound 24 (holding 2 5 16 1 (row_with 1 0 0 1 0 0 0 5 16 ∷ [])) ∷ sound 24 (holding 2 5 33 1 (row_with 1 33 0 1 0 0 0 5 33 ∷ []))
    ∷ sound 24 (holding 2 5 16 1 (row_with 1 17 0 1 0 0 0 5 16 ∷ [])) ∷ sound 24 (holding 2 5 33 1 (row_with 1 1 0 1 0 0 0 5 33 ∷ [])) ∷ sound 24 (holding 2 5 17 1 (ok_row ∷ [])) ∷ sound 24 (holding 2 4 16 1 (ok_row ∷ [])) ∷ sound 24 (holding 2 5 16 1 (row_with 1 1 0 1 7 0 0 5 16 ∷ [])) ∷ sound 24 (holding 2 5 0 1 (row_with 1 1 0 0 7 2 0 5 16 ∷ []))
    ∷ sound 24 (holding 2 5 16 1 (row_with 1 1 0 1 0 1 0 5 16 ∷ [])) ∷ sound 24 (holding 2 5 16 1 (row_with 1 1 0 0 7 1 8 5 16 ∷ [])) ∷ sound 24 (holding 2 5 16 25 (ok_row ∷ [])) ∷ sound 24 (holding 2 5 32 2 (ok_row ∷ ok_row ∷ [])) ∷ sound 24 (holding 2 5 32 2 (row_with 2 1 0 1 0 0 0 5 16 ∷ ok_row ∷ [])) ∷ [] ≡ replicate 20 false
unfolding holding ok_row row_with seen_from
unsound_states = refl
