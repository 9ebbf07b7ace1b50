-- What is there once room was sought: a sound state without the victim, still without the key, with stamps to draw.
use mathlib.Core.Path.{◌≡◌, refl, sym, ap, ◌∙◌}
use Prim.Native.Nat.{ℕ, ◌+◌, ◌*◌, ◌≤◌, ◌<◌}
use native.Mathlib.Omega.{arith}
use mathlib.Core.List.{List}
use mathlib.Core.Bool.{true, false, cond}
use lib.ListN.{length}
use Rattle.types.specs.declared.node_addr.NodeAddr.{NodeAddr}
use Rattle.types.specs.Values.{largest_number}
use Rattle.rules.specs.Records.{State, main_limit, max_rows}
use Rattle.rules.specs.Rows.{in_probation, total, main_count, probation_count, with_only_rows}
use Rattle.rules.specs.Sound.{sound}
use Rattle.rules.specs.Room.{Room, take_out, make_room, main_visits, probation_visits}
use Rattle.rules.specs.Memory.{capacity, view_rows}
use Rattle.rules.proofs.SoundKept.{both_segments}
use Rattle.rules.proofs.RowLists.{total_twice}
use Rattle.rules.proofs.LentMemory.{capacity_same}
use Rattle.rules.proofs.Walks.{Roomed, room_roomed}
use Rattle.rules.proofs.Moves.{ready, room_sound, probation_twice}
use Rattle.rules.proofs.Others.{room_gone, made_free}
use Rattle.rules.specs.Layout.{head_size, number_limit, row_size}
use Rattle.rules.proofs.Foreign.{view_length}
use Rattle.rules.specs.Refusals.{last_seq}
use Rattle.std.specs.Prelude.{Option, Some, None}
use Rattle.room.specs.declared.victims.Victim.{Victim}
use Rattle.room.specs.declared.victims.Room.{Room as RoomAnswer}
use Rattle.room.specs.Rooms.{room_of, without_victim, Leaves, Settled, Without, StampsLeft}
use Rattle.room.proofs.ClosedForm.{main_visits_lem, probation_visits_lem}
use Rattle.room.proofs.RoomToFile.{shown, laid_out, few, free_in_main, reached_without, without_gone}
use Rattle.room.proofs.LeftVictims.{without_none}
use Rattle.filing.specs.InRoom.{Takes}

-- ---- before

-- enough stamps for every walk
pub stamps_left : (n : ℕ) (l : List ℕ) → sound (capacity l) (view_rows n l) ≡ true → (view_rows n l).seq ≤ last_seq → StampsLeft n l
stamps_left n l h q = omega (arith, probation_visits_lem (view_rows n l).rows, view_length n l, few n l h)

pub room_asks : (time n : ℕ) (l : List ℕ) → sound (capacity l) (view_rows n l) ≡ true → (view_rows n l).seq ≤ last_seq
    → (head_size + n * row_size ≤ length l) × (sound (capacity l) (view_rows n l) ≡ true) × ((view_rows n l).seq + total (main_visits time) (view_rows n l).rows < number_limit)
room_asks time n l h q = (laid_out n l h, h, omega (arith, main_visits_lem time (view_rows n l).rows, view_length n l, few n l h))

-- ---- a victim that was left in place

-- it takes no stamp with it
pub victim_seq : (v : Option Victim) (s : State) → (without_victim v s).seq ≡ s.seq
unfolding without_victim take_out with_only_rows
victim_seq (Some v) s = refl
victim_seq None s = refl

-- what a row asks that takes its place, or a free row
pub left_takes : {k : NodeAddr} {v : Option Victim} {n j : ℕ} {l m : List ℕ} → Without k n l → length m ≡ length l → j ≤ n → Leaves v (view_rows n l).rows (view_rows j m).rows
    → (view_rows j m).seq < largest_number → (v ≡ None → Without k j m × (j < capacity m)) → Takes k v j m
left_takes {k} {n = n} {j} {l} {m} wo z h d q f = record {
  free = λ e. record { without = (f e).0; room = (f e).1; seq = q };
  over = λ x e. record {
    fits = omega (arith, laid_out n l wo.sound);
    inside = omega (arith, (d x e).inside, view_length j m);
    rising = (d x e).rising;
    gone = (d x e).gone k wo.gone;
    weighs = (d x e).weighs;
    light = (d x e).light;
    seq = q;
  };
}

-- ---- after

-- r, and memory m, tell the room that was sought among n rows of memory l
pub record Sought (l m : List ℕ) (n time w : ℕ) (r : RoomAnswer) : Type 0 where
  pub size : length m ≡ length l
  pub room : room_of r (view_rows r.rows m) ≡ make_room time w (view_rows n l)
  pub rows : r.rows ≤ n
  pub leaves : Leaves r.victim (view_rows n l).rows (view_rows r.rows m).rows
  pub none : r.made ≡ false → r.victim ≡ None

pub sought : (l m : List ℕ) (n time w : ℕ) (r : RoomAnswer) → length m ≡ length l → Settled time w n r l m → Sought l m n time w r
sought l m n time w r z e = record { size = z; room = e.room; rows = e.rows; leaves = e.leaves; none = e.none }

-- the same, where the weight that was asked for is w
pub sought_for : {l m : List ℕ} {n time v w : ℕ} {r : RoomAnswer} → v ≡ w → length m ≡ length l → Settled time v n r l m → Sought l m n time w r
sought_for {l} {m} {n} {time} {r = r} g z e = rw (← g) (sought l m n time _ r z e)

module _ (k : NodeAddr) (n : ℕ) (l m : List ℕ) (time w : ℕ) (r : RoomAnswer) (wo : Without k n l) (so : Sought l m n time w r) where
  pub left_state : without_victim r.victim (view_rows r.rows m) ≡ (make_room time w (view_rows n l)).state
  unfolding room_of
  left_state = ap (λ (x : Room). x.state) so.room

  pub room_made : r.made ≡ (make_room time w (view_rows n l)).made
  unfolding room_of
  room_made = ap (λ (x : Room). x.made) so.room

  pub room_examined : r.examined ≡ (make_room time w (view_rows n l)).examined
  unfolding room_of
  room_examined = ap (λ (x : Room). x.examined) so.room

  made : Roomed time w (view_rows n l) (make_room time w (view_rows n l))
  made = room_roomed time w (view_rows n l) (ready (shown n l wo.sound))

  both : main_count (view_rows n l) + probation_count (view_rows n l) ≤ max_rows
  both = omega (arith, both_segments (view_rows n l).seq (view_rows n l).rows (shown n l wo.sound).each, view_length n l, few n l wo.sound)

  pub examined_few : r.examined ≤ 2 * max_rows
  examined_few = omega (arith, room_examined, made.seen, both)

  pub room_seq : (view_rows n l).seq ≤ last_seq → (make_room time w (view_rows n l)).state.seq < largest_number
  room_seq q = omega (arith, made.stamps, made.seen, both)

  -- no victim was left
  pub free_state : r.victim ≡ None → view_rows r.rows m ≡ (make_room time w (view_rows n l)).state
  free_state e = sym (without_none r.victim (view_rows r.rows m) e) ∙ left_state

  pub still_without : r.victim ≡ None → Without k r.rows m
  still_without e =
      let s = shown n l wo.sound in
      reached_without k l m r.rows (make_room time w (view_rows n l)).state (record { size = so.size; state = free_state e })
      (room_sound (capacity l) (view_rows n l) s time w) (room_gone k time w (view_rows n l) s (without_gone k n l wo))

  -- a row is free in main
  pub free_main : main_count (make_room time w (view_rows n l)).state < main_limit (capacity l) (make_room time w (view_rows n l)).state → r.victim ≡ None → r.rows < capacity m
  free_main c e = free_in_main r.rows m (still_without e).sound (rw (capacity_same l m so.size, free_state e) c)

  pub made_in_main : r.made ≡ true → r.victim ≡ None → r.rows < capacity m
  made_in_main t = free_main (made_free (view_rows n l) (shown n l wo.sound) time w (sym room_made ∙ t))

  pub takes : (r.victim ≡ None → r.rows < capacity m) → (view_rows n l).seq ≤ last_seq → Takes k r.victim r.rows m
  takes f q =
      let s : (view_rows r.rows m).seq < largest_number = omega (arith, room_seq q, victim_seq r.victim (view_rows r.rows m), ap (λ (x : State). x.seq) left_state) in
      left_takes wo so.size so.rows so.leaves s (λ e. (still_without e, f e))

  -- no room was made
  visits : r.victim ≡ None → total probation_visits (view_rows r.rows m).rows ≤ 2 * probation_count (view_rows n l)
  visits e = rw (free_state e) (omega (arith, total_twice probation_visits (λ x. cond (in_probation x) 1 0) probation_twice (make_room time w (view_rows n l)).state.rows, made.probations))

  pub stamps_after : r.victim ≡ None → (view_rows n l).seq ≤ last_seq → StampsLeft r.rows m
  stamps_after e q =
      let a : (view_rows r.rows m).seq ≤ (view_rows n l).seq + 2 * main_count (view_rows n l) = rw (free_state e) (omega (arith, made.stamps, made.seen)) in
      omega (arith, visits e, both)
