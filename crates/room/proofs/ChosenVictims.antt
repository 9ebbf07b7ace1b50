-- Victims chosen and set aside, turn by turn.
use mathlib.Core.Path.{◌≡◌, refl, sym, ap, ◌∙◌, subst}
use Prim.Native.Nat.{ℕ, zero, suc, ◌+◌, ◌-◌, ◌≤◌, ◌<◌, ◌*◌}
use native.Mathlib.Omega.{arith}
use mathlib.Core.List.{List}
use Rattle.std.specs.Prelude.{Option, None, Some}
use mathlib.Core.Bool.{Bool, true, false, cond, ◌&&◌}
use lib.Dec.{ltb, leb}
use lib.ListN.{length}
use Rattle.rules.specs.Records.{Row, State, aside, by_use, parked, weight_bound, max_rows, weight_limit}
use Rattle.rules.specs.Rows.{row_at, at_place, in_main, change_row, lowest_stamp, main_count, main_weight, total, with_rows}
use Rattle.rules.specs.Sound.{sound}
use Rattle.rules.specs.Entries.{verified}
use Rattle.rules.specs.Room.{Walk, Sought, main_visits, visits_left, take_up, restamp, park, stamp, raised, untouched, stale, return_lapsed, seek, sought, next_victim, has_room, at_new_place, set_aside}
use Rattle.rules.specs.Memory.{capacity, view_rows}
use Rattle.rules.specs.Layout.{head_size, number_limit, row_size}
use Rattle.rules.proofs.Limits.{max_of}
use Rattle.rules.proofs.Addresses.{contradiction}
use Rattle.rules.proofs.RowLists.{by_cond, by_maybe, lowest_at, total_change}
use Rattle.rules.proofs.SoundTest.{sound_is}
use Rattle.rules.proofs.Moves.{ready}
use Rattle.rules.proofs.Walks.{Ends, Led, next_led, start_led, main_of, next_restamp, next_park, turns_lapsed, turns_last, turns_stale, place_is}
use Rattle.rules.proofs.Loops.{choosing, choose_done, choose_none, choose_more}
use Rattle.memory.proofs.Fields.{same_head}
use Rattle.memory.proofs.RowLaws.{view_length}
use Rattle.stamps.specs.declared.lowest.LowestOfMain.{LowestOfMain}
use Rattle.stamps.specs.declared.walk.Victim.{Victim as VictimAnswer}
use Rattle.stamps.specs.Walked.{walk_from, sought_of, MainIs}
use Rattle.room.specs.Rooms.{LastAside, SetAside}
use Rattle.room.proofs.ClosedForm.{sound_small}
use Rattle.room.proofs.RowsAside.{last_aside}
use Rattle.room.proofs.WalkCounts.{next_from}

-- ---- what the walk for one victim leaves as it is

pub record Same (w x : Walk) : Type 0 where
  pub stored_weight : x.state.stored_weight ≡ w.state.stored_weight
  pub row_count : x.state.row_count ≡ w.state.row_count
  pub weights : main_weight x.state ≡ main_weight w.state

same_more : (w x y : Walk) → Same w x → Same x y → Same w y
same_more w x y a b = record { stored_weight = b.stored_weight ∙ a.stored_weight; row_count = b.row_count ∙ a.row_count; weights = b.weights ∙ a.weights }

same_restamp : (w : Walk) (i : ℕ) → main_weight (take_up restamp i w).state ≡ main_weight w.state → Same w (take_up restamp i w)
unfolding take_up restamp stamp raised with_rows
same_restamp w i e = record { stored_weight = refl; row_count = refl; weights = e }

same_park : (w : Walk) (i : ℕ) → main_weight (take_up park i w).state ≡ main_weight w.state → Same w (take_up park i w)
unfolding take_up park stamp raised with_rows
same_park w i e = record { stored_weight = refl; row_count = refl; weights = e }

lapsed_same : (now n : ℕ) (w : Walk) → Same w (return_lapsed n now w)
unfolding return_lapsed
lapsed_same now zero w = record { stored_weight = refl; row_count = refl; weights = refl }
lapsed_same now (suc n) w = by_maybe (Same w) (lowest_stamp parked w.state.rows)
    (λ d. record { stored_weight = refl; row_count = refl; weights = refl })
    (λ i d. let g = lowest_at parked w.state.rows i d in
    by_cond (Same w) (ltb (row_at i w.state.rows).stamp_first now)
    (λ a.
    let r = row_at i w.state.rows in
    let x = next_restamp now w i g.inside (main_of now w.state parked r (omega arith) g.there) (turns_lapsed now r g.there a) in
    same_more w (take_up restamp i w) (return_lapsed n now (take_up restamp i w)) (same_restamp w i x.weights) (lapsed_same now n (take_up restamp i w)))
    (λ a. record { stored_weight = refl; row_count = refl; weights = refl }))

-- and a victim stands by use
pub record Yields (w : Walk) (x : Sought) : Type 0 where
  pub same : Same w x.walk
  pub there : (i : ℕ) → x.victim ≡ Some i → (i < length x.walk.state.rows) × (at_place by_use (row_at i x.walk.state.rows) ≡ true)

yields_more : (w y : Walk) (x : Sought) → Same w y → Yields y x → Yields w x
yields_more w y x a b = record { same = same_more w y x.walk a b.same; there = b.there }

yields_none : (w : Walk) → Yields w (sought None w)
unfolding sought
yields_none w = record { same = record { stored_weight = refl; row_count = refl; weights = refl }; there = λ i q. contradiction {b = true} refl (cc) }

yields_some : (i : ℕ) (w : Walk) → i < length w.state.rows → at_place by_use (row_at i w.state.rows) ≡ true → Yields w (sought (Some i) (take_up untouched i w))
unfolding sought take_up untouched
yields_some i w l p =
    let rs = w.state.rows in
    record {
      same = record { stored_weight = refl; row_count = refl; weights = refl };
      there = λ j q. let z : i ≡ j = cc in subst (λ (j : ℕ). (j < length rs) × (at_place by_use (row_at j rs) ≡ true)) z (l, p);
    }

seek_yields : (now n : ℕ) (w : Walk) → Yields w (seek n now w)
unfolding seek
seek_yields now zero w = yields_none w
seek_yields now (suc n) w = by_maybe (Yields w) (lowest_stamp by_use w.state.rows)
    (λ d. yields_none w)
    (λ i d.
    let g = lowest_at by_use w.state.rows i d in
    let r = row_at i w.state.rows in
    by_cond (Yields w) (stale r)
    (λ a.
    let x = next_restamp now w i g.inside (main_of now w.state by_use r (omega arith) g.there) (turns_stale now r g.there a) in
    yields_more w (take_up restamp i w) (seek n now (take_up restamp i w)) (same_restamp w i x.weights) (seek_yields now n (take_up restamp i w)))
    (λ a. by_cond (Yields w) (verified now r.entry)
    (λ b.
    let x = next_park now w i g.inside g.there (turns_last now r g.there a) b in
    yields_more w (take_up park i w) (seek n now (take_up park i w)) (same_park w i x.weights) (seek_yields now n (take_up park i w)))
    (λ b. yields_some i w g.inside g.there)))

pub next_yields : (now : ℕ) (w : Walk) → Yields w (next_victim now w)
unfolding next_victim
next_yields now w =
    let v = return_lapsed (visits_left now w) now w in
    yields_more w v (seek (visits_left now v) now v) (lapsed_same now (visits_left now w) w) (seek_yields now (visits_left now v) v)

-- ---- a victim set aside

aside_weight : (w : Walk) (i : ℕ) → i < length w.state.rows → at_place by_use (row_at i w.state.rows) ≡ true →
    main_weight (set_aside i w).state + (row_at i w.state.rows).weight ≡ main_weight w.state
unfolding set_aside with_rows at_new_place in_main
aside_weight w i l h =
    let rs = w.state.rows in
    let p = place_is by_use (row_at i rs) h in
    let f : Row → ℕ = λ x. cond (ltb x.place 2) x.weight 0 in
    let z : total f (change_row (at_new_place aside) i rs) + (row_at i rs).weight ≡ total f rs + 0 = rw p at (total_change f (at_new_place aside) i rs l) in
    omega arith

-- ---- choosing, from s on, at v

pub record Choosing (now w : ℕ) (s : State) (count stored : ℕ) (v : Walk) : Type 0 where
  pub same : choosing now w (walk_from s 0) ≡ choosing now w v
  pub led : Led now s v
  pub mains : count ≡ main_count v.state
  pub loads : stored ≡ main_weight v.state
  pub small : stored ≤ max_rows * weight_limit

-- what one call was given, and what it read: max_entries, and how many rows main had at first
pub record Call : Type 0 where
  pub now : ℕ
  pub w : ℕ
  pub n : ℕ
  pub memory : List ℕ
  pub max : ℕ
  pub mains : ℕ

abbrev given : Call → State
given q = view_rows q.n q.memory

-- room for w, as the code tests it
abbrev pub fits : Call → ℕ → ℕ → Bool
fits q count stored = ltb count q.max && leb (stored + q.w) (weight_bound q.max)

-- victims were set aside, and memory m shows the rows then: count rows of main are left, of weight `stored`
pub record Choice (q : Call) (count stored e : ℕ) (m : List ℕ) : Type 0 where
  pub long : length m ≡ length q.memory
  pub size : head_size + q.n * row_size ≤ length m
  pub max : q.max ≡ (given q).max_entries
  pub most : q.max ≤ max_rows
  pub bound : q.w ≤ weight_bound q.max
  pub stamps : (given q).seq + total (main_visits q.now) (given q).rows < number_limit
  pub choosing : Choosing q.now q.w (given q) count stored (walk_from (view_rows q.n m) e)
  pub few : count ≤ q.mains

-- and row i was the last
pub record Gone (q : Call) (count stored e i : ℕ) (m : List ℕ) : Type 0 where
  pub choice : Choice q count stored e m
  pub last : LastAside q.mains count i (view_rows q.n m).rows

module _ {q : Call} {count stored e : ℕ} {m : List ℕ} (k : Choice q count stored e m) where
  -- what has_room asks
  pub choice_asks : (q.max ≤ max_rows) × (stored ≤ max_rows * 256) × (q.w ≤ weight_bound q.max)
  choice_asks = (k.most, omega (arith, k.choosing.small), k.bound)

  choice_test : has_room q.w (view_rows q.n m) ≡ fits q count stored
  unfolding has_room
  choice_test = sym (rw (k.choosing.mains, k.choosing.loads, k.max, ← ap max_of k.choosing.led.limits))

  -- seq has room for the walk that is left
  pub choice_seq : (view_rows q.n m).seq + total (main_visits q.now) (view_rows q.n m).rows < number_limit
  choice_seq = omega (arith, k.stamps, k.choosing.led.done, k.choosing.led.stamps)

  pub chosen_enough : {b : Bool} → b ≡ fits q count stored → b ≡ true →
      record { made = true; walk = walk_from (view_rows q.n m) e } ≡ choosing q.now q.w (walk_from (given q) 0)
  chosen_enough h t = sym (k.choosing.same ∙ choose_done q.now q.w (walk_from (view_rows q.n m) e) (choice_test ∙ sym h ∙ t))

  pub set_aside_lem : (i : ℕ) → LastAside q.mains count i (view_rows q.n m).rows → SetAside q.mains (record { left = count; stored = stored; last = i }) (view_rows q.n m)
  set_aside_lem i h = record { mains = k.choosing.mains; weighs = k.choosing.loads; light = k.choosing.small; last = h }

pub choice_start : (q : Call) {main : LowestOfMain} {stored : ℕ} → head_size + q.n * row_size ≤ length q.memory → sound (capacity q.memory) (given q) ≡ true →
    (given q).seq + total (main_visits q.now) (given q).rows < number_limit → MainIs main (given q).rows → q.mains ≡ main.count →
    q.w ≤ weight_bound (given q).max_entries → has_room q.w (given q) ≡ false → q.max ≡ (view_rows 0 q.memory).max_entries → stored ≡ (view_rows 0 q.memory).stored_weight →
    Choice q main.count stored 0 q.memory × MainIs main (given q).rows × (fits q main.count stored ≡ false)
choice_start q {main} {stored} h z k m c b f em es =
    let d = sound_is (capacity q.memory) (given q) z in
    let g = sound_small (capacity q.memory) (given q) z in
    let e = es ∙ (same_head 0 q.n q.memory).stored_weight in
    let x = em ∙ (same_head 0 q.n q.memory).max_entries in
    let j : Choice q main.count stored 0 q.memory = record {
      long = refl;
      size = h;
      max = x;
      most = omega (arith, g.max);
      bound = omega arith;
      stamps = k;
      choosing = record { same = refl; led = start_led q.now (given q) (ready d); mains = m.count; loads = e ∙ d.stored_weight; small = omega (arith, g.stored) };
      few = omega (arith, c);
    } in
    (j, m, sym (choice_test j) ∙ f)

-- row i of memory y is the victim
pub record Victim (q : Call) (count stored e i : ℕ) (y : List ℕ) : Type 0 where
  pub inside : i < q.n
  pub size : head_size + q.n * row_size ≤ length y
  pub some_left : 1 ≤ count
  pub enough : (row_at i (view_rows q.n y).rows).weight ≤ stored
  pub goes : {v : ℕ} {x : List ℕ} → v ≡ (row_at i (view_rows q.n y).rows).weight → length x ≡ length y →
      view_rows q.n x ≡ with_rows (change_row (at_new_place aside) i (view_rows q.n y).rows) (view_rows q.n y) → Gone q (count - 1) (stored - v) e i x

-- the walk for one victim came to memory y, and answered r
pub record Came (q : Call) (count stored e : ℕ) (y : List ℕ) (r : VictimAnswer) : Type 0 where
  pub long : length y ≡ length q.memory
  pub keys : e + r.examined < number_limit
  pub none_left : r.found ≡ None → record { made = false; walk = walk_from (view_rows q.n y) (e + r.examined) } ≡ choosing q.now q.w (walk_from (given q) 0)
  pub victim : {i : ℕ} → r.found ≡ Some i → Victim q count stored (e + r.examined) i y

pub came : {q : Call} {count stored e : ℕ} {m y : List ℕ} {r : VictimAnswer} → Choice q count stored e m → fits q count stored ≡ false → length y ≡ length m →
    sought_of r (view_rows q.n y) ≡ next_victim q.now (walk_from (view_rows q.n m) 0) → Came q count stored e y r
unfolding sought set_aside with_rows
came {q} {count} {stored} {e} {m} {y} {r} c f len a =
    let now = q.now in
    let s = given q in
    let g = c.choosing in
    let v = walk_from (view_rows q.n m) e in
    let u = view_rows q.n y in
    let z = walk_from u (e + r.examined) in
    let o = r.found in
    let n = next_from now e (view_rows q.n m) u r a in
    let k : Ends now s v (sought o z) = subst (Ends now s v) n (next_led now s v g.led) in
    let j : Yields v (sought o z) = subst (Yields v) n (next_yields now v) in
    let full = choice_test c ∙ f in
    let found = ap (λ (x : Sought). x.victim) n in
    record {
      long = len ∙ c.long;
      keys = bound o refl k;
      none_left = λ b. sym (g.same ∙ choose_none now q.w v full (found ∙ b) ∙ ap (λ (x : Sought). record { made = false; walk = x.walk }) n);
      victim = λ {i} b.
          let h = b in
          let p = j.there i h in
          let ends = k.yields i h in
          let loss = aside_weight z i p.0 p.1 ∙ j.same.weights in
          record {
            inside = omega (arith, p.0, view_length q.n y);
            size = omega (arith, c.size);
            some_left = omega (arith, g.mains, ends.1);
            enough = omega (arith, g.loads, loss);
            goes = λ ev ex d.
                record {
                  choice = record {
                    long = ex ∙ len ∙ c.long;
                    size = omega (arith, c.size);
                    max = c.max;
                    most = c.most;
                    bound = c.bound;
                    stamps = c.stamps;
                    choosing = rw (d, ev) (record {
                      same = g.same ∙ choose_more now q.w s v i g.led full (found ∙ h) ∙ ap (λ (x : Sought). choosing now q.w (set_aside i x.walk)) n;
                      led = ends.0;
                      mains = omega (arith, g.mains, ends.1);
                      loads = omega (arith, g.loads, loss);
                      small = omega (arith, g.small);
                    });
                    few = omega (arith, c.few);
                  };
                  last = rw d (last_aside i u.rows c.few p.0);
                };
          };
    }
  where
    bound : (o : Option ℕ) → r.found ≡ o →
        Ends q.now (given q) (walk_from (view_rows q.n m) e) (sought r.found (walk_from (view_rows q.n y) (e + r.examined))) → e + r.examined < number_limit
    bound None d k = omega (arith, c.stamps, (k.ended d).led.done)
    bound (Some i) d k = omega (arith, c.stamps, (k.yields i d).0.done)
