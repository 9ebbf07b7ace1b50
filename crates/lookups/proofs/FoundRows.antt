-- The part that get hands back is the path of the key's unexpired row, or nothing.
use mathlib.Core.Path.{◌≡◌, refl, ◌∙◌, subst}
use Prim.Native.Nat.{ℕ, ◌+◌, ◌*◌, ◌-◌, ◌≤◌}
use native.Mathlib.Omega.{arith}
use mathlib.Core.List.{List, []}
use Rattle.std.specs.Prelude.{Option, None, Some}
use mathlib.Core.Bool.{true, false}
use Rattle.types.specs.declared.node_addr.NodeAddr.{NodeAddr}
use Rattle.rules.specs.Cases.{maybe}
use Rattle.rules.specs.Records.{State}
use Rattle.rules.specs.Rows.{row_at}
use Rattle.rules.specs.Sound.{sound}
use Rattle.rules.specs.Entries.{expired}
use Rattle.rules.specs.Lookups.{unexpired_row}
use Rattle.rules.specs.Calls.{Get, GetAndTouch, path_given, verified_write, draws_stamps}
use Rattle.rules.specs.Refusals.{refusal, Asked, perform_request, perform, gives, serve}
use Rattle.rules.specs.Answers.{refusal_of}
use Rattle.rules.specs.Memory.{capacity, view_rows, view}
use Rattle.rules.specs.Lent.{Bytes, Typed, lent, call, path_part, found_part, got_part}
use Rattle.rules.proofs.SoundTest.{RowOk}
use Rattle.rules.proofs.RowLists.{every_at}
use Rattle.rules.proofs.SoundKept.{step_sound}
use Rattle.rules.proofs.LentMemory.{capacity_same, lent_request}
use Rattle.rules.specs.Layout.{coord_entry_size}
use Rattle.types.specs.Paths.{path_places}
use Rattle.refusals.proofs.SoundCalls.{done_rows, not_refused}
use Rattle.refusals.proofs.SearchedKeys.{Found, inside}
use Rattle.lookups.specs.Steps.{StandsAt, path_start, place_found}

get_allowed : (l : List ℕ) (k : NodeAddr) (time : ℕ) → sound (capacity l) (view l) ≡ true → refusal (capacity l) (view l) (Asked (Get k time)) ≡ None
unfolding path_given verified_write draws_stamps
get_allowed l k time h = not_refused l (Get k time) h refl refl refl

-- get is done: number 0
pub get_zero : (l : List ℕ) (k : NodeAddr) (time : ℕ) → sound (capacity l) (view l) ≡ true → 0 ≡ refusal_of (call l (Get k time)).answer
unfolding lent serve perform_request perform gives refusal_of
get_zero l k time h = rw (get_allowed l k time h)

pub path_short : {k : NodeAddr} {n i : ℕ} {l : List ℕ} → Found k n (Some i) l → (row_at i (view_rows n l).rows).entry.path.len ≤ path_places
path_short {k} {n} {i} {l} f = (every_at (RowOk (view_rows n l).seq) i (view_rows n l).rows (omega (arith, inside f, f.memory.rows)) f.memory.sound.each).short

module _ {k : NodeAddr} {n : ℕ} {o : Option ℕ} {l : List ℕ} (f : Found k n o l) (time : ℕ) where
  -- the memory is left
  pub get_left : Bytes l → l ≡ (call l (Get k time)).memory
  unfolding perform gives
  get_left b = (done_rows f.memory (Get k time) l n (get_allowed l k time f.sound) b refl refl).memory

  -- u is the row that is found
  module _ (u : Option ℕ) (e : unexpired_row k time (view_rows n l) ≡ u) where
    unexpired : unexpired_row k time (view l) ≡ u
    unexpired = subst (λ (s : State). unexpired_row k time s ≡ u) f.memory.same e

    got_part_lem : maybe u [] (λ i. path_part i (row_at i (view_rows n l).rows).entry.path.len l) ≡ got_part k time l
    unfolding got_part found_part
    got_part_lem = rw (get_allowed l k time f.sound, unexpired, f.memory.same)

  nothing_stands : unexpired_row k time (view_rows n l) ≡ None → StandsAt k time l 0 0
  unfolding place_found
  nothing_stands e = record { part = got_part_lem None e; ordered = omega arith; inside = omega arith; own = rw (unexpired None e) }

-- ---- where the part stands

module _ {k : NodeAddr} {n : ℕ} {l : List ℕ} (time : ℕ) where
  pub absent_stands : Found k n None l → StandsAt k time l 0 0
  unfolding unexpired_row
  absent_stands f = nothing_stands f time (rw f.row)

  pub expired_stands : {i : ℕ} → Found k n (Some i) l → expired time (row_at i (view_rows n l).rows).entry ≡ true → StandsAt k time l 0 0
  unfolding unexpired_row
  expired_stands f x = nothing_stands f time (rw (f.row, x))

  pub path_stands : {i start end : ℕ} → Found k n (Some i) l → expired time (row_at i (view_rows n l).rows).entry ≡ false
      → start ≡ path_start i → end ≡ start + (row_at i (view_rows n l).rows).entry.path.len * coord_entry_size → StandsAt k time l start end
  unfolding unexpired_row path_part place_found
  path_stands {i} {start} {end} f x a b =
      let e : unexpired_row k time (view_rows n l) ≡ Some i = rw (f.row, x) in
      let z : end - start ≡ (row_at i (view_rows n l).rows).entry.path.len * coord_entry_size = omega arith in
      record {
        part = rw (z, a) (got_part_lem f time (Some i) e);
        ordered = omega arith;
        inside = omega (arith, inside f, f.memory.long, path_short f);
        own = a ∙ rw (unexpired f time (Some i) e);
      }

-- ---- get_and_touch

-- the memory that a touch leaves is sound
pub touch_sound : (l : List ℕ) (k : NodeAddr) (time : ℕ) (m : List ℕ) → Bytes l → Typed (GetAndTouch k time) → sound (capacity l) (view l) ≡ true
    → m ≡ (call l (GetAndTouch k time)).memory → sound (capacity m) (view m) ≡ true
touch_sound l k time m b g h v =
    let o = lent_request l (Asked (GetAndTouch k time)) b g in
    rw (v, capacity_same l (call l (GetAndTouch k time)).memory o.size, o.state) (step_sound (capacity l) (view l) (GetAndTouch k time) h)
