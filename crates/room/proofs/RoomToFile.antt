-- What a row that is filed meets: a sound state with a row free, reached by rooms made and rows taken out.
use mathlib.Core.Path.{◌≡◌, sym, ap, ◌∙◌}
use Prim.Native.Nat.{ℕ, ◌+◌, ◌*◌, ◌≤◌, ◌<◌}
use native.Mathlib.Omega.{arith}
use mathlib.Core.List.{List}
use mathlib.Core.Bool.{true}
use lib.ListN.{length}
use Rattle.types.specs.declared.node_addr.NodeAddr.{NodeAddr}
use Rattle.rules.specs.Records.{Entry, State, main_limit, probation_limit, max_rows}
use Rattle.rules.specs.Rows.{main_count, probation_count}
use Rattle.rules.specs.Sound.{ascends, sound}
use Rattle.rules.specs.Room.{file_new}
use Rattle.rules.specs.Memory.{capacity, view_rows}
use Rattle.rules.proofs.SoundTest.{Sound, ascends_test, sound_is, is_sound}
use Rattle.rules.proofs.SoundKept.{both_segments}
use Rattle.rules.proofs.RowLists.{find_none}
use Rattle.rules.proofs.Sizes.{length_insert}
use Rattle.rules.proofs.GotPart.{find_gone}
use Rattle.rules.proofs.LentMemory.{capacity_same}
use Rattle.rules.proofs.Moves.{Gone}
use Rattle.rules.specs.Layout.{head_size, row_size}
use Rattle.rules.proofs.Foreign.{view_length}
use Rattle.room.specs.Rooms.{Without}

-- ---- a sound state in memory

pub shown : (n : ℕ) (l : List ℕ) → sound (capacity l) (view_rows n l) ≡ true → Sound (capacity l) (view_rows n l)
shown n l h = sound_is (capacity l) (view_rows n l) h

both : (n : ℕ) (l : List ℕ) → Sound (capacity l) (view_rows n l) → main_count (view_rows n l) + probation_count (view_rows n l) ≡ n
both n l s = both_segments (view_rows n l).seq (view_rows n l).rows s.each ∙ view_length n l

-- the rows are there
pub laid_out : (n : ℕ) (l : List ℕ) → sound (capacity l) (view_rows n l) ≡ true → head_size + n * row_size ≤ length l
unfolding capacity
laid_out n l h = let s = shown n l h in omega (arith, both n l s, s.mains, s.probations, s.space)

-- and rise
pub rises : (n : ℕ) (l : List ℕ) → sound (capacity l) (view_rows n l) ≡ true → ascends (view_rows n l).rows ≡ true
rises n l h = ascends_test (view_rows n l).rows (shown n l h).rising

pub few : (n : ℕ) (l : List ℕ) → sound (capacity l) (view_rows n l) ≡ true → n ≤ max_rows
few n l h = let s = shown n l h in omega (arith, both n l s, s.mains, s.probations, s.space, s.small)

-- a row is free where a segment is not full
pub free_in_main : (n : ℕ) (l : List ℕ) → sound (capacity l) (view_rows n l) ≡ true → main_count (view_rows n l) < main_limit (capacity l) (view_rows n l) → n < capacity l
free_in_main n l h m = let s = shown n l h in omega (arith, both n l s, s.probations, s.space)

pub free_in_probation : (n : ℕ) (l : List ℕ) → sound (capacity l) (view_rows n l) ≡ true → probation_count (view_rows n l) < probation_limit (view_rows n l) → n < capacity l
free_in_probation n l h m = let s = shown n l h in omega (arith, both n l s, s.mains, s.space)

-- ---- states that the code reached, as the rules name them

-- memory m shows this state, from memory l
pub record Reached (l m : List ℕ) (n : ℕ) (s : State) : Type 0 where
  pub size : length m ≡ length l
  pub state : view_rows n m ≡ s

pub reached_sound : (l m : List ℕ) (n : ℕ) (s : State) → Reached l m n s → Sound (capacity l) s → sound (capacity m) (view_rows n m) ≡ true
reached_sound l m n s r h = rw (capacity_same l m r.size, r.state) (is_sound (capacity l) s h)

pub reached_without : (k : NodeAddr) (l m : List ℕ) (n : ℕ) (s : State) → Reached l m n s → Sound (capacity l) s → Gone k s → Without k n m
reached_without k l m n s r h g = record { sound = reached_sound l m n s r h; gone = rw r.state (find_gone k s.rows g) }

pub without_gone : (k : NodeAddr) (n : ℕ) (l : List ℕ) → Without k n l → Gone k (view_rows n l)
without_gone k n l w = find_none k (view_rows n l).rows w.gone

-- ---- a row filed

pub filed_length : (k : NodeAddr) (e : Entry) (w p : ℕ) (s : State) → length (file_new k e w p s).rows ≡ length s.rows + 1
unfolding file_new
filed_length k e w p s = omega (arith, length_insert (record { key = k; entry = e; place = p; stamp_first = e.last_used; stamp_seq = s.seq + 1; weight = w }) s.rows)

-- the state that is there once a row was filed into state s
pub filed : (k : NodeAddr) (e x : Entry) (w v p n : ℕ) (l m : List ℕ) (s : State) → view_rows n l ≡ s → x ≡ e → v ≡ w → view_rows (n + 1) m ≡ file_new k x v p (view_rows n l) →
    view_rows (length (file_new k e w p s).rows) m ≡ file_new k e w p s
filed k e x w v p n l m s a b c d =
    let z : length (file_new k e w p s).rows ≡ n + 1 = filed_length k e w p s ∙ ap (λ (y : State). length y.rows + 1) (sym a) ∙ ap (λ (y : ℕ). y + 1) (view_length n l) in
    ap (λ (y : ℕ). view_rows y m) z ∙ d ∙ rw (a, b, c)
