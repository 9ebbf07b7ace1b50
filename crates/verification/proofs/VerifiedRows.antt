-- A verified insert, step by step: the entry, the key's row out, room, and the row filed.
use mathlib.Core.Path.{◌≡◌, refl, ap, ◌∙◌, subst}
use Prim.Native.Nat.{ℕ, ◌+◌, ◌*◌, ◌≤◌, ◌<◌}
use native.Mathlib.Omega.{arith}
use mathlib.Core.List.{List}
use Rattle.std.specs.Prelude.{Option, None, Some, Result, Ok, Err}
use mathlib.Core.Bool.{true, false}
use lib.ListN.{length}
use Rattle.types.specs.declared.node_addr.NodeAddr.{NodeAddr}
use Rattle.types.specs.declared.coord.Path.{Path}
use Rattle.types.specs.Paths.{path_weight}
use Rattle.types.specs.declared.placed.VerifiedInsert.{VerifiedInsert}
use Rattle.rules.specs.Records.{Entry, State, main_limit}
use Rattle.rules.specs.Rows.{row_at, total, main_count}
use Rattle.rules.specs.Sound.{sound}
use Rattle.rules.specs.Entries.{new_entry, update, mark_verified, set_mtu}
use Rattle.rules.specs.Room.{take_out, make_room, main_visits, file_new}
use Rattle.rules.specs.Placement.{without_key, verified_entry, insert_verified}
use Rattle.rules.specs.Refusals.{last_seq, no_place_for}
use Rattle.rules.specs.Memory.{capacity, view_rows}
use Rattle.rules.proofs.CallsKeep.{Out, without_key_out, verified_free}
use Rattle.rules.proofs.LentMemory.{capacity_same}
use Rattle.rules.specs.Layout.{head_size, number_limit, row_size}
use Rattle.search.specs.ByKey.{searched}
use Rattle.refusals.proofs.SoundCalls.{found, missing}
use Rattle.verification.proofs.NoPlace.{row_inside}
use Rattle.room.specs.declared.victims.Room.{Room as RoomAnswer}
use Rattle.room.specs.Rooms.{Without, without_victim}
use Rattle.room.proofs.RoomToFile.{shown, Reached, reached_without}
use Rattle.filing.specs.InRoom.{Takes}
use Rattle.filing.proofs.FiledInRoom.{rows_there}
use Rattle.filing.proofs.RoomSought.{Sought, room_asks, left_state, room_examined, free_main, takes}
use Rattle.verification.specs.Searches.{Within}

-- ---- the row that was searched for

pub within : {n i : ℕ} {a : Result ℕ ℕ} → a ≡ Ok i → Within n a → i < n
within {n} e h = subst (Within n) e h

pub found_within : (n : ℕ) (l : List ℕ) (k : NodeAddr) (a : Result ℕ ℕ) → a ≡ searched k (view_rows n l).rows → Within n a
found_within n l k (Ok i) e = row_inside n l k {r = Ok i} e refl
found_within n l k (Err i) e = tt

-- ---- the entry

module _ (k : NodeAddr) (p : Path) (t : ℕ) (s : State) {i ttl : ℕ} {a : Result ℕ ℕ} {x y : Entry} (f : a ≡ searched k s.rows) (et : ttl ≡ s.default_ttl) where
  pub entry_held : a ≡ Ok i → x ≡ update p t ttl (row_at i s.rows).entry → y ≡ mark_verified t x → y ≡ verified_entry k p t None s
  unfolding verified_entry
  entry_held g ex ey = ey ∙ rw (ex, et, found k s.rows i a f g)

  pub entry_new : a ≡ Err i → x ≡ new_entry p t ttl → y ≡ mark_verified t x → y ≡ verified_entry k p t None s
  unfolding verified_entry
  entry_new g ex ey = ey ∙ rw (ex, et, missing k s.rows i a f g)

module _ (k : NodeAddr) (p : Path) (t : ℕ) (s : State) {mtu : Option ℕ} {x : Entry} (h : x ≡ verified_entry k p t None s) where
  pub entry_plain : mtu ≡ None → x ≡ verified_entry k p t mtu s
  entry_plain e = rw e h

  pub entry_with_mtu : {m : ℕ} {y : Entry} → mtu ≡ Some m → y ≡ set_mtu m x → y ≡ verified_entry k p t mtu s
  unfolding verified_entry
  entry_with_mtu e g = g ∙ rw (e, h)

-- ---- the key's row out

module _ (k : NodeAddr) (s : State) {i : ℕ} {a : Result ℕ ℕ} (f : a ≡ searched k s.rows) where
  pub out_held : {x : State} → a ≡ Ok i → x ≡ take_out i s → x ≡ without_key k s
  unfolding without_key
  out_held g e = e ∙ rw (found k s.rows i a f g)

  pub out_absent : a ≡ Err i → s ≡ without_key k s
  unfolding without_key
  out_absent g = rw (missing k s.rows i a f g)

-- ---- room, and the row filed

-- the key's row is out: memory m shows r rows, those of memory l without key k; w is the weight of path p
pub record KeyOut (k : NodeAddr) (p : Path) (n r w : ℕ) (l m : List ℕ) : Type 0 where
  pub sound : sound (capacity l) (view_rows n l) ≡ true
  pub reached : Reached l m r (without_key k (view_rows n l))
  pub weight : w ≡ path_weight p

module _ {k : NodeAddr} {p : Path} {n r w : ℕ} {l m : List ℕ} (o : KeyOut k p n r w l m) (t : ℕ) where
  out : Out (capacity l) k t (view_rows n l) (without_key k (view_rows n l))
  out = without_key_out (capacity l) k t (view_rows n l) (shown n l o.sound)

  without : Without k r m
  without = reached_without k l m r (without_key k (view_rows n l)) o.reached out.sound out.gone

  seq_out : (view_rows n l).seq ≤ last_seq → (view_rows r m).seq ≤ last_seq
  seq_out q = omega (arith, ap (λ (x : State). x.seq) o.reached.state, out.seq)

  -- what seeking room asks
  pub room_asked : (view_rows n l).seq ≤ last_seq → (head_size + r * row_size ≤ length m) × (sound (capacity m) (view_rows r m) ≡ true)
      × ((view_rows r m).seq + total (main_visits t) (view_rows r m).rows < number_limit)
  room_asked q = room_asks t r m without.sound (seq_out q)

  main_free : no_place_for (capacity l) (view_rows n l) (record { key = k; path = p; time = t }) ≡ false
      → main_count (make_room t w (view_rows r m)).state < main_limit (capacity m) (make_room t w (view_rows r m)).state
  main_free f = rw (o.weight, capacity_same l m o.reached.size, o.reached.state) (verified_free (capacity l) k p t (view_rows n l) (shown n l o.sound) f)

  -- a, and memory z, tell the room that was sought
  module _ {z : List ℕ} {a : RoomAnswer} (so : Sought m z r t w a) where
    -- what the row that is filed asks
    pub row_asked : (view_rows n l).seq ≤ last_seq → no_place_for (capacity l) (view_rows n l) (record { key = k; path = p; time = t }) ≡ false
        → Takes k a.victim a.rows z
    row_asked q f = takes k r m z t w a without so (free_main k r m z t w a without so (main_free f)) (seq_out q)

    -- what is answered
    pub insert_said : (mtu : Option ℕ) → ◌≡◌ {A = VerifiedInsert} (record { weight = w; examined = a.examined })
        (record { weight = path_weight p; examined = (insert_verified k p t mtu (view_rows n l)).examined })
    unfolding insert_verified
    insert_said mtu = rw (room_examined k r m z t w a without so, o.weight, o.reached.state)

    -- what is left in memory y: x is the entry that was filed
    module _ (mtu : Option ℕ) {x : Entry} (ex : x ≡ verified_entry k p t mtu (view_rows n l)) where
      filed_anew : file_new k x w 0 (without_victim a.victim (view_rows a.rows z)) ≡ (insert_verified k p t mtu (view_rows n l)).state
      unfolding insert_verified
      filed_anew = rw (left_state k r m z t w a without so, ex, o.weight, o.reached.state)

      pub insert_left : (j : ℕ) (y : List ℕ) → view_rows j y ≡ file_new k x w 0 (without_victim a.victim (view_rows a.rows z))
          → view_rows (length (insert_verified k p t mtu (view_rows n l)).state.rows) y ≡ (insert_verified k p t mtu (view_rows n l)).state
      insert_left j y ey = rows_there j y (insert_verified k p t mtu (view_rows n l)).state (ey ∙ filed_anew)
