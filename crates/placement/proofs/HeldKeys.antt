-- A held key: its row taken out, and the room that is sought then; a verified row's rejection.
use mathlib.Core.Path.{◌≡◌, refl, sym, ap, ◌∙◌}
use Prim.Native.Nat.{ℕ, max, ◌+◌, ◌*◌, ◌-◌, ◌≤◌, ◌<◌}
use native.Mathlib.Omega.{arith}
use mathlib.Core.List.{List}
use mathlib.Core.Bool.{Bool, true, false, cond, ◌&&◌, ◌||◌, not}
use lib.ListN.{length}
use borrow.Author.Tests.{lt-ltb, le-ltb, le-leb, lt-leb, eq-eqb, ltb-false}
use Rattle.types.specs.declared.node_addr.NodeAddr.{NodeAddr}
use Rattle.types.specs.declared.placed.Segment.{Segment}
use Rattle.types.specs.declared.placed.Segment.TheVariants.{Main, Probation}
use Rattle.types.specs.declared.placed.Placed.{Placed}
use Rattle.types.specs.Paths.{same_path, path_weight}
use Rattle.types.specs.Values.{covers}
use Rattle.rules.specs.Records.{Row, State, by_use, probation}
use Rattle.rules.specs.Rows.{row_at, in_main, in_probation, at_place, main_count, probation_count, main_weight, with_only_rows}
use Rattle.rules.specs.Sound.{sound}
use Rattle.rules.specs.Entries.{verified}
use Rattle.rules.specs.Room.{file_new, take_out, make_room}
use Rattle.rules.specs.Placement.{place_result, rejected}
use Rattle.rules.specs.Placement as rule
use Rattle.rules.specs.Refusals.{last_seq}
use Rattle.rules.specs.Memory.{cut, row_of, capacity, view_rows}
use Rattle.rules.proofs.Addresses.{contradiction}
use Rattle.rules.proofs.SoundTest.{Sound, RowOk, is_sound}
use Rattle.rules.proofs.RowLists.{cores, every_at, rising_unique, total_without}
use Rattle.rules.proofs.LentMemory.{capacity_same}
use Rattle.rules.proofs.Walks.{Roomed, room_roomed}
use Rattle.rules.proofs.Moves.{ready, take_out_sound}
use Rattle.rules.proofs.Limits.{limits_of, probation_of}
use Rattle.rules.proofs.Others.{take_out_gone, take_out_seq, take_out_limits, take_out_main}
use Rattle.rules.specs.Layout.{head_size, row_size}
use Rattle.rules.proofs.Foreign.{view_length}
use Rattle.memory.proofs.Fields.{row_at_lem}
use Rattle.std.specs.Prelude.{None}
use Rattle.room.specs.declared.victims.Room.{Room as RoomAnswer}
use Rattle.room.specs.Rooms.{room_of, without_victim, Leaves, Settled, Without}
use Rattle.room.proofs.LeftVictims.{without_none}
use Rattle.room.proofs.RoomToFile.{shown, free_in_probation, reached_without}
use Rattle.entries.specs.declared.new_entry.NewEntry.{NewEntry}
use Rattle.entries.specs.NewEntries.{entry_from}
use Rattle.filing.specs.Filings.{Free}
use Rattle.filing.specs.InRoom.{Takes}
use Rattle.filing.proofs.FiledInRoom.{rows_there}
use Rattle.filing.proofs.RoomSought.{Sought, free_main, free_state, still_without, takes}
use Rattle.placement.specs.declared.operands.Hint.{Hint}
use Rattle.placement.specs.declared.held_key.Held.{Held}
use Rattle.placement.specs.Operands.{update, held_outcome, refile_held, promote, place_probation, grow, place_main, place_held}
use Rattle.placement.specs.Placements.{Placing, row_in, Holds, HeldHint, rejected_as}

-- ---- a row that is there

pub weight_stored : (n : ℕ) (l : List ℕ) → sound (capacity l) (view_rows n l) ≡ true → (view_rows n l).stored_weight ≡ main_weight (view_rows n l)
weight_stored n l h = (shown n l h).stored_weight

-- its bytes, saved
pub saved_row : (n i : ℕ) (l : List ℕ) {b : List ℕ} → i < n → b ≡ cut (head_size + i * row_size) row_size l → row_of b ≡ row_in n i l
saved_row n i l h e = ap row_of e ∙ sym (row_at_lem n i l h)

-- ---- taken out

probation_one_less : (i : ℕ) (s : State) → i < length s.rows → at_place 2 (row_at i s.rows) ≡ true → probation_count (take_out i s) + 1 ≡ probation_count s
unfolding take_out with_only_rows
probation_one_less i s h e = rw e at (total_without (λ r. cond (in_probation r) 1 0) i s.rows h)

not_main : (r : Row) → r.place ≤ 2 → in_main r ≡ false → at_place 2 r ≡ true
unfolding in_main at_place
not_main r h e = eq-eqb r.place 2 (omega (arith, ltb-false r.place 2 e))

pub taken_sound : (n i : ℕ) (l m : List ℕ) → sound (capacity l) (view_rows n l) ≡ true → length m ≡ length l → sound (capacity m) (take_out i (view_rows n l)) ≡ true
taken_sound n i l m h z = rw (capacity_same l m z) (is_sound (capacity l) (take_out i (view_rows n l)) (take_out_sound (capacity l) i (view_rows n l) (shown n l h)))

-- row i, that of key k, is out of the n rows of memory l, and m is left
pub record Out (k : NodeAddr) (n i : ℕ) (l m : List ℕ) : Type 0 where
  pub holds : Holds k n i l
  pub size : length m ≡ length l
  pub state : view_rows (n - 1) m ≡ take_out i (view_rows n l)

module _ {k : NodeAddr} {n i : ℕ} {l m : List ℕ} (u : Out k n i l m) where
  inside : i < length (view_rows n l).rows
  inside = rw (view_length n l) u.holds.inside

  whole : Sound (capacity l) (view_rows n l)
  whole = shown n l u.holds.sound

  pub out_without : Without k (n - 1) m
  out_without =
      reached_without k l m (n - 1) (take_out i (view_rows n l)) (record { size = u.size; state = u.state }) (take_out_sound (capacity l) i (view_rows n l) whole)
      (take_out_gone k i (view_rows n l) (rising_unique (cores (view_rows n l).rows) whole.rising) inside u.holds.key)

  out_seq : (view_rows n l).seq ≤ last_seq → (view_rows (n - 1) m).seq ≤ last_seq
  out_seq q = rw u.state (omega (arith, take_out_seq i (view_rows n l)))

-- the row of a held hint is out of memory l, as m is left, and room was sought there for w, as r and x tell; b: it was in main
pub record Lifted (h : Hint) (at : Held) (b : Bool) (w : ℕ) (r : RoomAnswer) (l m x : List ℕ) : Type 0 where
  pub held : HeldHint h at l
  pub main : in_main (row_in at.n at.i l) ≡ b
  pub out_size : length m ≡ length l
  pub out : view_rows (at.n - 1) m ≡ take_out at.i (view_rows at.n l)
  pub size : length x ≡ length m
  pub room : room_of r (view_rows r.rows x) ≡ make_room h.time w (view_rows (at.n - 1) m)
  pub rows : r.rows ≤ at.n - 1
  pub leaves : Leaves r.victim (view_rows (at.n - 1) m).rows (view_rows r.rows x).rows
  pub none : r.made ≡ false → r.victim ≡ None

-- the same, from what the functions promise
pub lifted : {h : Hint} {at : Held} {b : Bool} {v w : ℕ} {r : RoomAnswer} {l m x : List ℕ} → HeldHint h at l × (in_main (row_in at.n at.i l) ≡ b) → length m ≡ length l
    → view_rows (at.n - 1) m ≡ take_out at.i (view_rows at.n l) → v ≡ w → length x ≡ length m
    → Settled h.time v (at.n - 1) r m x → Lifted h at b w r l m x
lifted held z e g y f = record { held = held.0; main = held.1; out_size = z; out = e; size = y; room = rw (← g) f.room; rows = f.rows; leaves = f.leaves; none = f.none }

-- the row with its entry updated, filed at place c
abbrev pub filed : Hint → ℕ → NewEntry → RoomAnswer → List ℕ → ℕ → State
filed h w a r x c = file_new h.key (entry_from a) w c (without_victim r.victim (view_rows r.rows x))

module _ {h : Hint} {at : Held} {b : Bool} {w : ℕ} {r : RoomAnswer} {l m x : List ℕ} (t : Lifted h at b w r l m x) where
  u : Out h.key at.n at.i l m
  u = record { holds = t.held.holds; size = t.out_size; state = t.out }

  so : Sought m x (at.n - 1) h.time w r
  so = record { size = t.size; room = t.room; rows = t.rows; leaves = t.leaves; none = t.none }

  without : Without h.key (at.n - 1) m
  without = out_without u

  made : Roomed h.time w (view_rows (at.n - 1) m) (make_room h.time w (view_rows (at.n - 1) m))
  made = room_roomed h.time w (view_rows (at.n - 1) m) (ready (shown (at.n - 1) m without.sound))

  limits_kept : limits_of (make_room h.time w (view_rows (at.n - 1) m)).state ≡ limits_of (view_rows at.n l)
  limits_kept = made.limits ∙ rw t.out (take_out_limits at.i (view_rows at.n l))

  -- the row that was taken out left one free
  freed : (c : Bool) → in_main (row_in at.n at.i l) ≡ c → r.victim ≡ None → r.rows < capacity x
  freed true p q =
      let a : main_count (view_rows (at.n - 1) m) + 1 ≡ main_count (view_rows at.n l) = rw t.out (take_out_main at.i (view_rows at.n l) (inside u) p) in
      free_main h.key (at.n - 1) m x h.time w r without so (omega (arith, ap probation_of limits_kept, capacity_same l m t.out_size, made.mains, a, (whole u).mains)) q
  freed false p q =
      let y = not_main (row_in at.n at.i l) (every_at (RowOk (view_rows at.n l).seq) at.i (view_rows at.n l).rows (inside u) (whole u).each).place p in
      let a : probation_count (view_rows (at.n - 1) m) + 1 ≡ probation_count (view_rows at.n l) = rw t.out (probation_one_less at.i (view_rows at.n l) (inside u) y) in
      free_in_probation r.rows x (still_without h.key (at.n - 1) m x h.time w r without so q).sound
      (rw (free_state h.key (at.n - 1) m x h.time w r without so q) (omega (arith, ap probation_of limits_kept, made.probations, a, (whole u).probations)))

  -- what filing asks
  pub out_takes : Takes h.key r.victim r.rows x
  out_takes = takes h.key (at.n - 1) m x h.time w r without so (freed b t.main) (out_seq u t.held.seq)

  -- the room that was sought, by the rules
  pub room_there : room_of r (view_rows r.rows x) ≡ make_room h.time w (take_out at.i (view_rows at.n l))
  room_there = t.room ∙ rw t.out

  -- filed in main or in probation: to is where, in which segment, and the charge that is added
  pub promoted_is : (a : NewEntry) {to : ℕ × Segment × ℕ} {y : List ℕ} → entry_from a ≡ update h (row_in at.n at.i l).entry
      → to ≡ cond r.made (by_use, Main, w) (probation, Probation, 0) → view_rows (length (filed h w a r x to.0).rows) y ≡ filed h w a r x to.0
      → Placing (promote h w at.i (view_rows at.n l)) (record { outcome = at.outcome; added_weight = to.2; segment = to.1; unfunded = false; examined = r.examined }) y
  unfolding promote update held_outcome rule.promote place_result room_of
  promoted_is a {to} {y} ea et ef = rw (← room_there, ← t.held.outcome, ← ea, et) (go r.made (rw et at ef))
    where
      goes : Bool → ℕ × Segment × ℕ
      goes c = cond c (by_use, Main, w) (probation, Probation, 0)

      go : (c : Bool) → view_rows (length (filed h w a r x (goes c).0).rows) y ≡ filed h w a r x (goes c).0
          → Placing (cond c (place_result at.outcome w Main false r.examined (filed h w a r x by_use)) (place_result at.outcome 0 Probation false r.examined (filed h w a r x probation)))
          (record { outcome = at.outcome; added_weight = (goes c).2; segment = (goes c).1; unfunded = false; examined = r.examined }) y
      go true f = record { says = refl; state = f }
      go false f = record { says = refl; state = f }

  -- grown, where room was made or the hint is stated
  pub grown_is : (a : NewEntry) {q : ℕ} {y : List ℕ} → entry_from a ≡ update h (row_in at.n at.i l).entry → q ≡ w - (row_in at.n at.i l).weight → r.made || h.stated ≡ true
      → view_rows (length (filed h w a r x by_use).rows) y ≡ filed h w a r x by_use
      → Placing (grow h w at.i (view_rows at.n l)) (record { outcome = at.outcome; added_weight = q; segment = Main; unfunded = false; examined = r.examined }) y
  unfolding grow update held_outcome rule.grow place_result room_of
  grown_is a ea eq c ef = rw (← room_there, c, ← t.held.outcome, ← ea, ← eq) (record { says = refl; state = ef })

  -- no room was made, and the hint is not stated: a, the row's bytes, go back
  module _ {a : List ℕ} (ea : a ≡ cut (head_size + at.i * row_size) row_size l) (c : r.made || h.stated ≡ false) where
    pub unmade : (d : Bool) → r.made ≡ d → r.victim ≡ None
    unmade true e = contradiction (rw e) c
    unmade false e = t.none e

    pub goes_back_asks : Free h.key r.rows x × ((row_of a).key ≡ h.key)
    goes_back_asks = (out_takes.free (unmade r.made refl), rw (saved_row at.n at.i l t.held.holds.inside ea) t.held.holds.key)

    pub goes_back : {d : Placed} {y : List ℕ} → d ≡ rejected_as false r.examined
        → view_rows (r.rows + 1) y ≡ file_new h.key (row_of a).entry (row_of a).weight by_use (view_rows r.rows x) → Placing (grow h w at.i (view_rows at.n l)) d y
    unfolding grow rule.grow rejected place_result room_of
    goes_back ed ey = rw (← room_there, c, ← (saved_row at.n at.i l t.held.holds.inside ea), without_none _ _ (unmade r.made refl)) (record { says = ed; state = rows_there _ _ _ ey })

-- ---- 3. a verified row

pub main_of : (r : Row) → r.place < 2 → in_main r ≡ true
unfolding in_main
main_of r h = lt-ltb r.place 2 h

pub main_not : (r : Row) → 2 ≤ r.place → in_main r ≡ false
unfolding in_main
main_not r h = le-ltb r.place 2 h

-- v, whether the row is verified, and c, whether its path is the new one
stays_as : (v stated c : Bool) → (v && not stated ≡ true → v && not (stated && not c) ≡ true) × (v && c ≡ true → v && not (stated && not c) ≡ true)
    × (v && not stated ≡ false → v && c ≡ false → v && not (stated && not c) ≡ false)
stays_as false stated c = (λ h. h, λ h. h, λ h g. refl)
stays_as true false c = (λ h. refl, λ h. refl, λ h g. h)
stays_as true true true = (λ h. refl, λ h. refl, λ h g. g)
stays_as true true false = (λ h. h, λ h. h, λ h g. refl)

module _ (h : Hint) (i : ℕ) (s : State) where
  pub stays_unstated : verified h.time (row_at i s.rows).entry && not h.stated ≡ true → place_held h i s ≡ rejected false 0 s
  unfolding place_held rule.place_held rule.stays_verified
  stays_unstated e = rw ((stays_as (verified h.time (row_at i s.rows).entry) h.stated (same_path (row_at i s.rows).entry.path h.path.now)).0 e)

  pub stays_same : verified h.time (row_at i s.rows).entry && same_path (row_at i s.rows).entry.path h.path.now ≡ true → place_held h i s ≡ rejected false 0 s
  unfolding place_held rule.place_held rule.stays_verified
  stays_same e = rw ((stays_as (verified h.time (row_at i s.rows).entry) h.stated (same_path (row_at i s.rows).entry.path h.path.now)).1 e)

  module _ (a : verified h.time (row_at i s.rows).entry && not h.stated ≡ false) (b : verified h.time (row_at i s.rows).entry && same_path (row_at i s.rows).entry.path h.path.now ≡ false) where
    pub goes_to_main : (row_at i s.rows).place < 2 → place_main h i s ≡ place_held h i s
    unfolding place_held place_main rule.place_held rule.stays_verified
    goes_to_main e = rw ((stays_as (verified h.time (row_at i s.rows).entry) h.stated (same_path (row_at i s.rows).entry.path h.path.now)).2 a b, main_of (row_at i s.rows) e)

    pub goes_to_probation : 2 ≤ (row_at i s.rows).place → place_probation h i s ≡ place_held h i s
    unfolding place_held place_probation rule.place_held rule.stays_verified
    goes_to_probation e = rw ((stays_as (verified h.time (row_at i s.rows).entry) h.stated (same_path (row_at i s.rows).entry.path h.path.now)).2 a b, main_not (row_at i s.rows) e)

-- ---- 4. in probation

-- w: the charge
pub probation_covered : (h : Hint) (w i : ℕ) (s : State) → w ≡ max (path_weight h.path.now) (row_at i s.rows).weight → covers h.funding w ≡ true → promote h w i s ≡ place_probation h i s
unfolding place_probation promote rule.place_probation
probation_covered h w i s e c = rw (← e, c)

pub probation_uncovered : (h : Hint) (w i : ℕ) (s : State) → w ≡ max (path_weight h.path.now) (row_at i s.rows).weight → covers h.funding w ≡ false
    → refile_held h w Probation i s ≡ place_probation h i s
unfolding place_probation refile_held held_outcome update rule.place_probation
probation_uncovered h w i s e c = rw (← e, c)

-- ---- 5. in main

pub main_kept : (h : Hint) (i : ℕ) (s : State) → path_weight h.path.now ≤ (row_at i s.rows).weight → refile_held h (row_at i s.rows).weight Main i s ≡ place_main h i s
unfolding place_main refile_held held_outcome update rule.place_main
main_kept h i s e = rw (le-leb _ _ e)

module _ (h : Hint) (w i : ℕ) (s : State) (g : w ≡ path_weight h.path.now) (e : (row_at i s.rows).weight < w) where
  pub main_grown : covers h.funding (w - (row_at i s.rows).weight) ≡ true → grow h w i s ≡ place_main h i s
  unfolding place_main grow rule.place_main
  main_grown c = rw (← g, lt-leb _ _ e, c)

pub main_rejected : (h : Hint) (i : ℕ) (s : State) → (row_at i s.rows).weight < path_weight h.path.now → covers h.funding (path_weight h.path.now - (row_at i s.rows).weight) ≡ false
    → place_main h i s ≡ rejected true 0 s
unfolding place_main rule.place_main
main_rejected h i s e c = rw (lt-leb _ _ e, c)

-- Rejected, and nothing written
pub rejected_there : (unfunded : Bool) (examined n : ℕ) (d : Placed) (l : List ℕ) → d ≡ rejected_as unfunded examined → Placing (rejected unfunded examined (view_rows n l)) d l
unfolding rejected place_result
rejected_there unfunded examined n d l e = record { says = e; state = rows_there n _ _ refl }
