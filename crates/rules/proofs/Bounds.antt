-- What a call can cost: room exactly when it can be made, keys examined, stamps drawn.
use Prim.Native.Nat.{ℕ, ◌+◌, ◌*◌, ◌<◌, ◌≤◌}
use mathlib.Core.Path.{◌≡◌, refl, ◌∙◌, subst}
use Rattle.std.specs.Prelude.{Option, Some}
use mathlib.Core.Bool.{Bool, true, false, ◌&&◌, not}
use native.Mathlib.Omega.{arith}
use lib.Dec.{leb}
use lib.ListN.{length}
use borrow.Author.Tests.{leb-true}
use Rattle.types.specs.Paths.{path_weight}
use Rattle.rules.specs.Cases.{maybe}
use Rattle.rules.specs.Records.{State, main_limit, probation_limit}
use Rattle.rules.specs.Rows.{main_count, probation_count}
use Rattle.rules.specs.Sound.{sound}
use Rattle.rules.specs.Room.{make_probation_room, make_room, room_can_be_made}
use Rattle.rules.specs.Placement.{without_key}
use Rattle.rules.specs.Calls.{Call, Refused, VerifiedWrite, examined_of, verified_write}
use Rattle.rules.specs.Refusals.{Step, gives, key_in_main, no_place_for, stamps_of_call, step}
use Rattle.rules.proofs.Addresses.{contradiction}
use Rattle.rules.proofs.SoundTest.{is_sound, sound_is}
use Rattle.rules.proofs.Walks.{room_roomed}
use Rattle.rules.proofs.Moves.{probation_evict, ready}
use Rattle.rules.proofs.Refused.{by_step, given_exactly}
use Rattle.rules.proofs.CallsKeep.{without_key_out}
use Rattle.rules.proofs.SoundKept.{both_segments, perform_keeps}

-- ROOM CAN BE MADE EXACTLY WHEN 01'S CLOSED FORM HOLDS
pub room_exact : (R now w : ℕ) (s : State) → sound R s ≡ true → (make_room now w s).made ≡ room_can_be_made now w s
room_exact R now w s h = (room_roomed now w s (ready (sound_is R s h))).exact

-- what number 4 says of a verified insert: the key is not in main, M main rows are taken, and seeking room fails
pub record NoPlace (R : ℕ) (s : State) (v : VerifiedWrite) : Type 0 where
  pub outside : key_in_main v.key s ≡ false
  pub taken : main_limit R s ≤ main_count s
  pub unmade : (make_room v.time (path_weight v.path) (without_key v.key s)).made ≡ false

-- NUMBER 4 IS GIVEN ONLY WHERE NO MAIN ROW IS FREE AND ROOM IS SOUGHT IN VAIN
pub four_without_room : (R : ℕ) (s : State) (q : Call) (v : VerifiedWrite) → verified_write q ≡ Some v → (step R s q).answer ≡ Refused 4 → NoPlace R s v
unfolding no_place_for
four_without_room R s q v w e =
    let g = (given_exactly R s q).four.0 e in
    let p : maybe (Some v) false (no_place_for R s) ≡ true = subst (λ (o : Option VerifiedWrite). maybe o false (no_place_for R s) ≡ true) w g.3 in
    let d = without_key v.key s in
    let h : sound R d ≡ true = is_sound R d (without_key_out R v.key v.time s (sound_is R s g.0)).sound in
    let k = parts (key_in_main v.key s) (leb (main_limit R s) (main_count s)) (room_can_be_made v.time (path_weight v.path) d) p in
    record { outside = k.0; taken = leb-true (main_limit R s) (main_count s) k.1; unmade = room_exact R v.time (path_weight v.path) d h ∙ k.2 }
  where
    parts : (a b c : Bool) → not a && (b && not c) ≡ true → (a ≡ false) × (b ≡ true) × (c ≡ false)
    parts true b c h = contradiction {b = false} h refl
    parts false false c h = contradiction {b = false} h refl
    parts false true true h = contradiction {b = false} h refl
    parts false true false h = (refl, refl, refl)

-- PROBATION ROOM CAN ALWAYS BE MADE
pub probation_room : (R : ℕ) (s : State) → sound R s ≡ true → probation_count (make_probation_room s).state < probation_limit (make_probation_room s).state
probation_room R s h = (probation_evict R s (sound_is R s h)).few

-- EXAMINED IS AT MOST TWICE THE ROWS HELD BEFORE THE CALL
pub step_examined : (R : ℕ) (s : State) (q : Call) → examined_of (step R s q).answer ≤ 2 * length s.rows
unfolding gives examined_of
step_examined R s q = by_step R s q (λ (t : Step). examined_of t.answer ≤ 2 * length s.rows) (λ n. omega arith)
    (λ l. let h = sound_is R s l.sound in omega (arith, (perform_keeps R s q l).seen, both_segments s.seq s.rows h.each))

-- A CALL RAISES seq BY LESS THAN 4,096
pub step_stamps : (R : ℕ) (s : State) (q : Call) → (step R s q).state.seq < s.seq + stamps_of_call
unfolding gives
step_stamps R s q = by_step R s q (λ (t : Step). t.state.seq < s.seq + stamps_of_call) (λ n. omega arith)
    (λ l. let h = sound_is R s l.sound in let g = perform_keeps R s q l in omega (arith, g.stamps, g.seen, h.small, h.space, h.mains, h.probations))
