-- Room that is there, victims that leave or stay for the row that takes their place, and victims that go back.
use mathlib.Core.Path.{◌≡◌, refl, sym, ap, ◌∙◌, subst}
use Prim.Native.Nat.{ℕ, zero, suc, ◌+◌, ◌-◌, ◌*◌, ◌≤◌, ◌<◌, min}
use native.Mathlib.Omega.{arith}
use mathlib.Core.List.{List, [], ◌∷◌, map}
use mathlib.Core.Bool.{Bool, true, false, cond, ◌&&◌}
use lib.Dec.{ltb, leb, eqb}
use lib.ListN.{length}
use borrow.Author.Tests.{eq-eqb, ne_eqb, lt-ltb, ltb-true, ltb-false}
use Rattle.rules.specs.Cases.{Every}
use Rattle.rules.specs.Records.{Row, State, aside, weight_bound, max_rows}
use Rattle.rules.specs.Rows.{row_at, at_place, in_main, keep_rows, count_rows, main_count, total, weigh_rows, with_rows, with_only_rows}
use Rattle.rules.specs.Sound.{sound}
use Rattle.rules.specs.Room.{Walk, Chosen, next_victim, has_room, set_aside, put_back, choose_victims, settled, make_room, take_out, Room}
use Rattle.rules.specs.Memory.{capacity, view_rows}
use Rattle.rules.specs.Layout.{head_size, row_size}
use Rattle.rules.proofs.Addresses.{contradiction}
use Rattle.rules.proofs.RowLists.{Core, by_cond, by_maybe, cores, core, every_map, every_mapped, map_cores}
use Rattle.rules.proofs.SoundTest.{RowOk, and_left, and_right, sound_is}
use Rattle.rules.proofs.Moves.{ready}
use Rattle.rules.proofs.Walks.{Going, Led, back_core, choose_led, not_at, start_led}
use Rattle.rules.proofs.Loops.{choosing, choose_done}
use Rattle.types.specs.Paths.{path_places}
use Rattle.memory.proofs.Fields.{same_head}
use Rattle.memory.proofs.RowLaws.{view_length}
use Rattle.retention.proofs.KeptRows.{only_rows, rows_same}
use Rattle.retention.specs.Sweep.{PathFit, PathsFit}
use Rattle.std.specs.Prelude.{Some, None}
use Rattle.std.specs.Option.{ForSome}
use Rattle.stamps.specs.Walked.{walk_from}
use Rattle.stamps.proofs.RowTotals.{count_few}
use Rattle.room.specs.declared.victims.Choice.{Choice}
use Rattle.room.specs.declared.victims.Chosen.{Chosen as ChosenAnswer}
use Rattle.room.specs.declared.victims.Room.{Room as RoomAnswer}
use Rattle.room.specs.Rooms.{chosen_of, room_of, without_victim, SetAside, LeftAt, Settled}
use Rattle.room.proofs.ClosedForm.{Bounds, room_asks, sound_small}
use Rattle.room.proofs.ChosenVictims.{next_yields}
use Rattle.room.proofs.LeftVictims.{not_aside, at_none, at_one, left_at, one_aside, back_mains, aside_not_main}
use Rattle.room.proofs.RoomToFile.{few}

-- room, by what is said of it
abbrev pub room_as : Bool → ℕ → State → Room
room_as made examined s = record { made = made; state = s; examined = examined }

-- ---- a state that keeps its rows

keep_every : (q : ℕ) (rs : List Row) → Every (RowOk q) rs → not_aside rs ≡ rs
unfolding keep_rows
keep_every q [] h = refl
keep_every q (r ∷ rs) h =
    let n = not_at aside r (λ e. let z : ⊥ = omega (arith, h.0.place) in z) in
    rw n (ap (λ (xs : List Row). r ∷ xs) (keep_every q rs h.1))

pub room_there : (now w R m count stored x : ℕ) (s : State) (b : Bool) → sound R s ≡ true → m ≡ s.max_entries → count ≡ main_count s → stored ≡ s.stored_weight →
    x ≡ min w (weight_bound m) → b ≡ ltb count m && leb (stored + x) (weight_bound m) → b ≡ true → room_as true 0 s ≡ make_room now w s
unfolding make_room settled has_room
room_there now w R m count stored x s b h em ec es ex t q =
    let d = sound_is R s h in
    let f : has_room (min w (weight_bound s.max_entries)) s ≡ true = sym (t ∙ rw (ex, em, ec, es, d.stored_weight)) ∙ q in
    let g = sym (only_rows s.rows s refl d.stored_weight d.counted) ∙ rows_same s in
    let k : with_only_rows (not_aside s.rows) s ≡ s = rw (keep_every s.seq s.rows d.each) g in
    rw (choose_done now (min w (weight_bound s.max_entries)) (walk_from s 0) f, k)

-- ---- what was chosen

-- what the walks leave in the head
record Held (v x : Walk) : Type 0 where
  stored_weight : x.state.stored_weight ≡ v.state.stored_weight
  row_count : x.state.row_count ≡ v.state.row_count

choose_held : (now w n : ℕ) (v : Walk) → Held v (choose_victims n now w v).walk
unfolding choose_victims set_aside with_rows
choose_held now w zero v = record { stored_weight = refl; row_count = refl }
choose_held now w (suc n) v =
    let x = next_victim now v in
    let s = (next_yields now v).same in
    by_cond (λ (c : Chosen). Held v c.walk) (has_room w v.state)
    (λ e. record { stored_weight = refl; row_count = refl })
    (λ e. by_maybe (λ (c : Chosen). Held v c.walk) x.victim
    (λ d. record { stored_weight = s.stored_weight; row_count = s.row_count })
    (λ i d. let k = choose_held now w n (set_aside i x.walk) in record { stored_weight = k.stored_weight ∙ s.stored_weight; row_count = k.row_count ∙ s.row_count }))

-- the weight that a row without its place stores
abbrev core_weight : Core → ℕ
core_weight x = cond x.on_probation 0 x.weight

core_weights : List Core → ℕ
core_weights [] = 0
core_weights (x ∷ xs) = core_weight x + core_weights xs

core_weight_lem : (q : ℕ) (r : Row) → RowOk q r → cond (in_main r) r.weight 0 ≡ core_weight (core r)
unfolding in_main at_place
core_weight_lem q r o = go (ltb r.place 2) refl
  where
    go : (b : Bool) → ltb r.place 2 ≡ b → cond b r.weight 0 ≡ cond (eqb r.place 2) 0 r.weight
    go true e = let p = ltb-true r.place 2 e in rw (ne_eqb r.place 2 (λ d. let z : ⊥ = omega arith in z))
    go false e = let p = ltb-false r.place 2 e in rw (eq-eqb r.place 2 (omega (arith, o.place)))

weigh_cores : (q : ℕ) (rs : List Row) → Every (RowOk q) rs → weigh_rows in_main rs ≡ core_weights (cores rs)
unfolding total core_weights
weigh_cores q [] h = refl
weigh_cores q (r ∷ rs) h = omega (arith, core_weight_lem q r h.0, weigh_cores q rs h.1)

length_map : (rs : List Row) → length (map put_back rs) ≡ length rs
length_map [] = refl
length_map (r ∷ rs) = ap suc (length_map rs)

back_weight : (now q : ℕ) (rs ss : List Row) (p : ℕ) → Every (Going now q) rs → Every (RowOk p) ss → cores rs ≡ cores ss →
    weigh_rows in_main (map put_back rs) ≡ weigh_rows in_main ss
back_weight now q rs ss p g o e =
    let k = every_mapped (RowOk q) put_back rs (every_map (λ r x. x.ok) rs g) in
    weigh_cores q (map put_back rs) k ∙ ap core_weights (map_cores put_back back_core rs ∙ e) ∙ sym (weigh_cores p ss o)

-- ---- what make_room answers

-- there is room: no victim is sought
abbrev Unsought : ℕ → RoomAnswer → Type 0
Unsought n r = r ≡ record { made = true; rows = n; victim = None; examined = 0 }

there : (now w n : ℕ) (l : List ℕ) (r : RoomAnswer) → Unsought n r → room_as true 0 (view_rows n l) ≡ make_room now w (view_rows n l) → Settled now w n r l l
unfolding room_of without_victim
there now w n l r e q = rw e (record { room = q; rows = omega arith; leaves = at_none _; none = λ f. contradiction refl f })

module _ {w m x n stored : ℕ} {l : List ℕ} (u : Bounds w m x n l) (es : stored ≡ (view_rows 0 l).stored_weight) where
  load : stored ≡ (view_rows n l).stored_weight
  load = es ∙ (same_head 0 n l).stored_weight

  -- what has_room asks
  pub stored_asks : (m ≤ max_rows) × (stored ≤ max_rows * 256) × (x ≤ weight_bound m)
  stored_asks = room_asks u (omega (arith, load, (sound_small (capacity l) (view_rows n l) u.sound).stored))

  module _ {count : ℕ} {b : Bool} (ec : count ≡ main_count (view_rows n l)) (t : b ≡ ltb count m && leb (stored + x) (weight_bound m)) where
    pub full : b ≡ false → has_room x (view_rows n l) ≡ false
    unfolding has_room
    full q = sym (t ∙ rw (u.max, ec, load, (sound_is (capacity l) (view_rows n l) u.sound).stored_weight)) ∙ q

    pub main_there : (now : ℕ) {r : RoomAnswer} → b ≡ true → Unsought n r → Settled now w n r l l
    main_there now {r} q a =
        there now w n l r a (room_there now w (capacity l) m count stored x (view_rows n l) b u.sound u.max ec load u.cut t q)

  -- main has at most all rows
  pub rows_there : (now : ℕ) {b : Bool} {r : RoomAnswer} → b ≡ ltb n m && leb (stored + x) (weight_bound m) → b ≡ true → Unsought n r → Settled now w n r l l
  rows_there now t q a =
      let s = view_rows n l in
      let y = sym t ∙ q in
      let c : main_count s < m = omega (arith, count_few in_main s.rows, view_length n l, ltb-true n m (and_left (ltb n m) (leb (stored + x) (weight_bound m)) y)) in
      main_there {b = true} refl (rw (lt-ltb (main_count s) m c, and_right (ltb n m) (leb (stored + x) (weight_bound m)) y)) now refl a

-- ---- victims were chosen, and stand aside in memory t; main had count rows

pub record Aside (now w n count : ℕ) (c : Choice) (l t : List ℕ) : Type 0 where
  pub size : head_size + n * row_size ≤ length l
  pub sound : sound (capacity l) (view_rows n l) ≡ true
  pub mains : count ≡ main_count (view_rows n l)
  pub long : length t ≡ length l
  pub chosen : chosen_of c (view_rows n t) ≡ choosing now (min w (weight_bound (view_rows n l).max_entries)) (walk_from (view_rows n l) 0)
  pub aside : ForSome c.chosen (λ d. SetAside count d (view_rows n t))

pub stand_aside : {now w m x n count : ℕ} {c : Choice} {l t : List ℕ} → Bounds w m x n l → head_size + n * row_size ≤ length l → count ≡ main_count (view_rows n l) →
    length t ≡ length l → chosen_of c (view_rows n t) ≡ choosing now x (walk_from (view_rows n l) 0) → ForSome c.chosen (λ d. SetAside count d (view_rows n t)) → Aside now w n count c l t
stand_aside {now} {w} {n = n} {l = l} u h e k a f =
    let q = u.cut ∙ ap (λ (y : ℕ). min w (weight_bound y)) u.max in
    record { size = h; sound = u.sound; mains = e; long = k; chosen = a ∙ ap (λ (y : ℕ). choosing now y (walk_from (view_rows n l) 0)) q; aside = f }

-- the weight that is stored and the count of rows are those before, so they hold once the victims are put back
record Waiting (s t : State) : Type 0 where
  stored_weight : t.stored_weight ≡ weigh_rows in_main (map put_back t.rows)
  row_count : t.row_count ≡ s.row_count
  paths : PathsFit t.rows
  same : cores t.rows ≡ cores s.rows
  mains : count_rows (λ r. in_main (put_back r)) t.rows ≡ main_count s

path_fit : (now q : ℕ) (r : Row) → Going now q r → PathFit r
path_fit now q r g =
    let e = back_core r in
    record { long = subst (λ (y : Core). 1 ≤ y.entry.path.len) e g.ok.long; short = subst (λ (y : Core). y.entry.path.len ≤ path_places) e g.ok.short }

module _ {now w n count : ℕ} {c : Choice} {l t : List ℕ} (u : Aside now w n count c l t) where
  waits : Waiting (view_rows n l) (view_rows n t)
  unfolding chosen_of
  waits =
      let s = view_rows n l in
      let v = view_rows n t in
      let x = min w (weight_bound s.max_entries) in
      let d = sound_is (capacity l) s u.sound in
      let e : walk_from v c.examined ≡ (choosing now x (walk_from s 0)).walk = ap (λ (y : Chosen). y.walk) u.chosen in
      let k : Led now s (walk_from v c.examined) = subst (Led now s) (sym e) (choose_led now x s (suc (main_count s)) (walk_from s 0) (start_led now s (ready d))).led in
      let a : Held (walk_from s 0) (walk_from v c.examined) = subst (Held (walk_from s 0)) (sym e) (choose_held now x (suc (main_count s)) (walk_from s 0)) in
      record {
        stored_weight = a.stored_weight ∙ d.stored_weight ∙ sym (back_weight now v.seq v.rows s.rows s.seq k.each d.each k.same);
        row_count = a.row_count;
        paths = every_map (path_fit now v.seq) v.rows k.each;
        same = k.same;
        mains = k.mains;
      }

  -- what drop_aside asks
  pub drop_asks : (n ≤ max_rows) × (head_size + n * row_size ≤ length t) × PathsFit (view_rows n t).rows
  drop_asks = (few n l u.sound, omega (arith, u.size, u.long), waits.paths)

  room_made : {d : ChosenAnswer} (x : State) → c.chosen ≡ Some d → x ≡ with_only_rows (not_aside (view_rows n t).rows) (view_rows n t) → room_as true c.examined x ≡ make_room now w (view_rows n l)
  unfolding make_room settled chosen_of
  room_made x m e = rw (← u.chosen, m, e)

  -- the only victim stays, and is what would leave
  pub one_left : {d : ChosenAnswer} → c.chosen ≡ Some d → count - d.left ≡ 1 →
      Settled now w n (record { made = true; rows = n; victim = Some (record { at = d.last; stored = d.stored }); examined = c.examined }) l t
  unfolding room_of without_victim take_out
  one_left {d} m h =
      let s = view_rows n l in
      let v = view_rows n t in
      let a = u.aside d m in
      let only = one_aside d.last v.rows a.last.inside a.last.there (omega (arith, back_mains v.rows, waits.mains, u.mains, a.mains)) in
      let out = aside_not_main (row_at d.last v.rows) a.last.there in
      let q = left_at (record { at = d.last; stored = d.stored }) s.rows v.rows (sound_is (capacity l) s u.sound).rising waits.same a.last.inside out a.weighs a.light in
      record { room = room_made (take_out d.last v) m (rw only); rows = omega arith; leaves = at_one (λ i. LeftAt i s.rows v.rows) _ q; none = λ f. contradiction refl f }

  pub all_dropped : {d : ChosenAnswer} (j : ℕ) (y : List ℕ) → c.chosen ≡ Some d → (j ≤ n) × (view_rows j y ≡ with_only_rows (not_aside (view_rows n t).rows) (view_rows n t)) →
      Settled now w n (record { made = true; rows = j; victim = None; examined = c.examined }) l y
  unfolding room_of without_victim
  all_dropped j y m d = record { room = room_made (view_rows j y) m d.1; rows = d.0; leaves = at_none _; none = λ f. contradiction refl f }

  pub all_back : (y : List ℕ) → c.chosen ≡ None → view_rows n y ≡ with_rows (map put_back (view_rows n t).rows) (view_rows n t) →
      Settled now w n (record { made = false; rows = n; victim = None; examined = c.examined }) l y
  unfolding room_of without_victim make_room settled chosen_of
  all_back y m d =
      let v = view_rows n t in
      let g = waits.row_count ∙ (sound_is (capacity l) (view_rows n l) u.sound).counted ∙ view_length n l ∙ sym (view_length n t) in
      record { room = rw (← u.chosen, m, d, only_rows (map put_back v.rows) v (length_map v.rows) waits.stored_weight g); rows = omega arith; leaves = at_none _; none = λ f. refl }
