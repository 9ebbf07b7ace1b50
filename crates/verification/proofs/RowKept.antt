-- A verified insert whose row is written where it stands.
use mathlib.Core.Path.{◌≡◌, refl, sym, ap, ◌∙◌}
use Prim.Native.Nat.{ℕ, min}
use mathlib.Core.List.{List}
use Rattle.std.specs.Prelude.{Option, Ok}
use mathlib.Core.Bool.{Bool, true, ◌&&◌}
use lib.ListN.{length}
use Rattle.types.specs.declared.node_addr.NodeAddr.{NodeAddr}
use Rattle.types.specs.declared.coord.Path.{Path}
use Rattle.types.specs.Paths.{path_weight}
use Rattle.types.specs.declared.placed.VerifiedInsert.{VerifiedInsert}
use Rattle.rules.specs.Records.{State, weight_bound}
use Rattle.rules.specs.Rows.{row_at, in_main, main_count, with_only_rows}
use Rattle.rules.specs.Room.{Room, file_new, take_out, has_room, make_room}
use Rattle.rules.specs.Placement.{without_key, verified_entry, insert_verified}
use Rattle.rules.specs.Memory.{view_rows}
use Rattle.rules.proofs.SoundTest.{Sound, and_left, and_right, is_sound}
use Rattle.rules.proofs.Moves.{take_out_sound}
use Rattle.search.specs.ByKey.{searched}
use Rattle.room.proofs.RoomSettled.{room_there}
use Rattle.filing.proofs.FiledInRoom.{rows_there}
use Rattle.verification.proofs.VerifiedRows.{out_held}

-- what the test said
pub room_told : (i : ℕ) (p : Path) (s : State) {w : ℕ} {b : Bool} → w ≡ path_weight p → b ≡ in_main (row_at i s.rows) && has_room (min w (weight_bound s.max_entries)) (take_out i s)
    → b ≡ true → (in_main (row_at i s.rows) ≡ true) × (has_room (min (path_weight p) (weight_bound s.max_entries)) (take_out i s) ≡ true)
room_told i p s ew e t =
    let h : in_main (row_at i s.rows) && has_room (min (path_weight p) (weight_bound s.max_entries)) (take_out i s) ≡ true = rw ew at (sym e ∙ t) in
    (and_left _ _ h, and_right (in_main (row_at i s.rows)) (has_room (min (path_weight p) (weight_bound s.max_entries)) (take_out i s)) h)

room_kept : (R i t w : ℕ) (s : State) → Sound R s → has_room (min w (weight_bound s.max_entries)) (take_out i s) ≡ true
    → ◌≡◌ {A = Room} (record { made = true; state = take_out i s; examined = 0 }) (make_room t w (take_out i s))
unfolding has_room take_out with_only_rows
room_kept R i t w s d h =
    let o = take_out i s in
    room_there t w R o.max_entries (main_count o) o.stored_weight (min w (weight_bound o.max_entries)) o _ (is_sound R o (take_out_sound R i s d)) refl refl refl refl refl h

-- key k's row is row i, and main has room for path p without it
module _ (k : NodeAddr) (p : Path) (t : ℕ) (mtu : Option ℕ) {R i w : ℕ} {s : State} (d : Sound R s) (f : searched k s.rows ≡ Ok i)
    (h : has_room (min (path_weight p) (weight_bound s.max_entries)) (take_out i s) ≡ true) (ew : w ≡ path_weight p) where
  kept : ◌≡◌ {A = Room} (record { made = true; state = take_out i s; examined = 0 }) (make_room t (path_weight p) (without_key k s))
  kept = room_kept R i t (path_weight p) s d h ∙ ap (make_room t (path_weight p)) (out_held k s (sym f) refl refl)

  pub kept_said : ◌≡◌ {A = VerifiedInsert} (record { weight = w; examined = 0 }) (record { weight = path_weight p; examined = (insert_verified k p t mtu s).examined })
  unfolding insert_verified
  kept_said = rw (ew, ← kept)

  kept_state : file_new k (verified_entry k p t mtu s) (path_weight p) 0 (take_out i s) ≡ (insert_verified k p t mtu s).state
  unfolding insert_verified
  kept_state = ap (λ (m : Room). file_new k (verified_entry k p t mtu s) (path_weight p) 0 m.state) kept

  pub kept_left : (n : ℕ) (z : List ℕ) → view_rows n z ≡ file_new k (verified_entry k p t mtu s) w 0 (take_out i s)
      → view_rows (length (insert_verified k p t mtu s).state.rows) z ≡ (insert_verified k p t mtu s).state
  kept_left n z e = rows_there n z (insert_verified k p t mtu s).state (e ∙ rw ew kept_state)
