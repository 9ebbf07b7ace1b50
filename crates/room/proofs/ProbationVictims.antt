-- Room in probation, turn by turn and without fuel.
use mathlib.Core.Path.{◌≡◌, refl, sym, ap, ◌∙◌}
use Prim.Native.Nat.{ℕ, zero, suc, ◌+◌, ◌*◌, ◌≤◌, ◌<◌}
use native.Mathlib.Omega.{arith}
use mathlib.Core.List.{List}
use Rattle.std.specs.Prelude.{None, Some, Option}
use mathlib.Core.Bool.{Bool, true, false, cond}
use lib.Dec.{ltb}
use lib.ListN.{length}
use borrow.Author.Tests.{eqb-true, lt-ltb, le-ltb}
use Rattle.rules.specs.Records.{Row, State, probation, probation_bound, probation_limit, max_rows, weight_limit}
use Rattle.rules.specs.Rows.{row_at, at_place, in_main, in_probation, change_row, without_row, lowest_stamp, probation_count, total, with_rows, with_only_rows}
use Rattle.rules.specs.Sound.{sound}
use Rattle.rules.specs.Room.{Walk, take_up, take_out, restamp, stamp, raised, refiled, stale, probation_visits, evict_below, make_probation_room}
use Rattle.rules.specs.Memory.{capacity, view_rows}
use Rattle.rules.specs.Layout.{head_size, number_limit, row_size}
use Rattle.rules.proofs.RowLists.{core, cores, change_cores, lowest_at, total_change, total_some, total_without}
use Rattle.rules.proofs.Limits.{limits_of, probation_of}
use Rattle.rules.proofs.SoundTest.{Sound, sound_is}
use Rattle.rules.proofs.Moves.{restamp_sound, visits_of, visits_restamped}
use Rattle.rules.proofs.Sizes.{few_rows, light}
use Rattle.memory.proofs.Fields.{same_head}
use Rattle.memory.proofs.RowLaws.{view_length}
use Rattle.stamps.specs.declared.lowest.LowestStamp.{LowestStamp}
use Rattle.stamps.specs.Walked.{walk_from, LowestIs}
use Rattle.room.specs.Rooms.{LeftAt, Leaves, without_victim}
use Rattle.room.specs.declared.victims.Victim.{Victim}
use Rattle.room.proofs.LeftVictims.{at_none, at_one, left_at}

abbrev visits : State → ℕ
visits s = total probation_visits s.rows

abbrev guests : List Row → ℕ
guests rs = total (λ x. cond (in_probation x) 1 0) rs

abbrev evicting : ℕ → Walk → Walk
evicting b w = evict_below b (visits w.state) w

-- ---- a probation row restamped

still_there : (q : ℕ) (r : Row) → at_place probation r ≡ true → at_place probation (refiled q r.entry r.weight r) ≡ true
unfolding refiled in_main at_place
still_there q r p = rw (eqb-true r.place 2 p)

not_main : (r : Row) → at_place probation r ≡ true → in_main r ≡ false
unfolding in_main at_place
not_main r p = rw (eqb-true r.place 2 p)

same_core : (q : ℕ) (r : Row) → at_place probation r ≡ true → core (refiled q r.entry r.weight r) ≡ core r
unfolding refiled in_main at_place
same_core q r p = rw (eqb-true r.place 2 p)

-- ---- the walk's equations

evict_done : (b n : ℕ) (w : Walk) → ltb (probation_count w.state) b ≡ true → evict_below b n w ≡ w
unfolding evict_below
evict_done b zero w h = refl
evict_done b (suc n) w h = rw h

evict_none : (b n : ℕ) (w : Walk) → lowest_stamp probation w.state.rows ≡ None → evict_below b n w ≡ w
unfolding evict_below
evict_none b zero w l = refl
evict_none b (suc n) w l = rw l (go (ltb (probation_count w.state) b))
  where
    go : (c : Bool) → cond c w w ≡ w
    go true = refl
    go false = refl

evict_turn : (b : ℕ) (f : ℕ → State → State) (i n : ℕ) (w : Walk) → ltb (probation_count w.state) b ≡ false →
    lowest_stamp probation w.state.rows ≡ Some i → cond (stale (row_at i w.state.rows)) restamp take_out ≡ f → visits w.state ≡ suc n → evicting b w ≡ evict_below b n (take_up f i w)
unfolding evict_below
evict_turn b f i n w h l e v = rw (v, h, l, e)

-- ---- from the rows of l to those of m, after e keys

pub record Evicting (n e : ℕ) (l m : List ℕ) : Type 0 where
  pub long : length m ≡ length l
  pub size : head_size + n * row_size ≤ length m
  pub first : sound (capacity l) (view_rows n l) ≡ true
  pub sound : Sound (capacity l) (view_rows n m)
  pub limits : limits_of (view_rows n m) ≡ limits_of (view_rows n l)
  pub same : evicting (probation_limit (view_rows n l)) (walk_from (view_rows n l) 0) ≡ evicting (probation_limit (view_rows n l)) (walk_from (view_rows n m) e)
  pub keys : e + total probation_visits (view_rows n m).rows < number_limit
  pub stamps : (view_rows n m).seq + total probation_visits (view_rows n m).rows < number_limit
  pub full : probation_limit (view_rows n l) ≤ probation_count (view_rows n m)
  pub cores : cores (view_rows n m).rows ≡ cores (view_rows n l).rows

-- what make_probation_room answers, with the rows that memory m shows
abbrev pub Evicted : ℕ → Option Victim → ℕ → List ℕ → List ℕ → Type 0
Evicted n v e l m = (walk_from (without_victim v (view_rows n m)) e ≡ make_probation_room (view_rows n l)) × Leaves v (view_rows n l).rows (view_rows n m).rows

module _ (n : ℕ) (l : List ℕ) {max bound : ℕ} {r : LowestStamp}
    (em : max ≡ (view_rows 0 l).max_entries) (eb : bound ≡ probation_bound max) (c : LowestIs probation r (view_rows n l).rows) where
  limit : bound ≡ probation_limit (view_rows n l)
  limit = eb ∙ ap probation_bound (em ∙ (same_head 0 n l).max_entries)

  -- there is room
  pub room_free : r.count < bound → Evicted n None 0 l l
  unfolding make_probation_room without_victim
  room_free h = (sym (evict_done (probation_limit (view_rows n l)) (visits (view_rows n l)) (walk_from (view_rows n l) 0) (rw (← limit, ← c.count) (lt-ltb r.count bound h))), at_none _)

  pub evict_start : head_size + n * row_size ≤ length l → sound (capacity l) (view_rows n l) ≡ true →
      (view_rows n l).seq + total probation_visits (view_rows n l).rows < number_limit → bound ≤ r.count → Evicting n 0 l l
  evict_start h z s b =
      record {
        long = refl;
        size = h;
        first = z;
        sound = sound_is (capacity l) (view_rows n l) z;
        limits = refl;
        same = refl;
        keys = omega arith;
        stamps = s;
        full = omega (arith, limit, c.count);
        cores = refl;
      }

-- there is no row to take up
pub evict_ends : {n e : ℕ} {l m : List ℕ} {o : Option ℕ} → Evicting n e l m → o ≡ lowest_stamp probation (view_rows n m).rows → o ≡ None →
    Evicted n None e l m
unfolding make_probation_room without_victim
evict_ends {n} {e} {l = l} {m = m} g h q =
    let s = view_rows n m in
    (sym (g.same ∙ evict_none (probation_limit (view_rows n l)) (visits s) (walk_from s e) (sym h ∙ q)), at_none _)

-- row i is taken up in m
pub record Taken (n e i : ℕ) (l m : List ℕ) : Type 0 where
  pub lowest : lowest_stamp probation (view_rows n m).rows ≡ Some i
  pub there : at_place probation (row_at i (view_rows n m).rows) ≡ true
  pub visit : 1 ≤ total probation_visits (view_rows n m).rows
  pub inside : i < n
  pub going : Evicting n e l m

pub taken : {n e i : ℕ} {l m : List ℕ} {o : Option ℕ} → Evicting n e l m → o ≡ lowest_stamp probation (view_rows n m).rows → o ≡ Some i → Taken n e i l m
taken {n} {i = i} {m = m} g h q =
    let rs = (view_rows n m).rows in
    let d = sym h ∙ q in
    let a = lowest_at probation rs i d in
    let w = some_visit (row_at i rs) (stale (row_at i rs)) refl a.there in
    record { lowest = d; there = a.there; visit = omega (arith, total_some probation_visits i rs a.inside); inside = omega (arith, a.inside, view_length n m); going = g }
  where
    some_visit : (r : Row) (b : Bool) → stale r ≡ b → at_place probation r ≡ true → 1 ≤ probation_visits r
    some_visit r true a p = omega (arith, visits_of r true p a)
    some_visit r false a p = omega (arith, visits_of r false p a)

module _ {n e i : ℕ} {l m : List ℕ} {o : Option ℕ} (v : Evicting n e l m) (ev : o ≡ lowest_stamp probation (view_rows n m).rows) (eo : o ≡ Some i) where
  u : Taken n e i l m
  u = taken v ev eo

  pub visit_left : (1 ≤ total probation_visits (view_rows n m).rows) × (i < n)
  visit_left = (u.visit, u.inside)

  here : i < length (view_rows n m).rows
  here = omega (arith, u.inside, view_length n m)

  full : ltb (probation_count (view_rows n m)) (probation_limit (view_rows n l)) ≡ false
  full = le-ltb (probation_count (view_rows n m)) (probation_limit (view_rows n l)) u.going.full

  visits_fall : stale (row_at i (view_rows n m).rows) ≡ true → visits (view_rows n m) ≡ suc (visits (restamp i (view_rows n m)))
  unfolding restamp stamp raised with_rows
  visits_fall a =
      let t = view_rows n m in
      let q = t.seq + 1 in
      let r = row_at i t.rows in
      omega (arith, visits_of r true u.there a, total_change probation_visits (λ x. refiled q x.entry x.weight x) i t.rows here, visits_restamped q r u.there)

  -- it is restamped, and memory x shows the rows then
  module _ {b : Bool} (x : List ℕ) (eb : b ≡ stale (row_at i (view_rows n m).rows)) (d : b ≡ true) (z : view_rows n x ≡ restamp i (view_rows n m)) where
    pub turn_less : total probation_visits (view_rows n x).rows < total probation_visits (view_rows n m).rows
    turn_less = rw z (omega (arith, visits_fall (sym eb ∙ d)))

    pub turned : length x ≡ length m → Evicting n (e + 1) l x
    unfolding take_up restamp stamp raised with_rows
    turned len =
        let g = u.going in
        let t = view_rows n m in
        let rs = t.rows in
        let r = row_at i rs in
        let q = t.seq + 1 in
        let f : Row → Row = λ x. refiled q x.entry x.weight x in
        let p = still_there q r u.there in
        let a = sym eb ∙ d in
        let w = visits_fall a in
        let c : guests (change_row f i rs) + 1 ≡ guests rs + 1 = rw (u.there, p) at (total_change (λ x. cond (in_probation x) 1 0) f i rs here) in
        record {
          long = len ∙ g.long;
          size = omega (arith, g.size);
          first = g.first;
          sound = rw z (restamp_sound (capacity l) i t g.sound here u.there);
          limits = rw z g.limits;
          same = rw z (g.same ∙ evict_turn (probation_limit (view_rows n l)) restamp i (total probation_visits (change_row f i rs)) (walk_from t e) full u.lowest (rw a) w);
          keys = rw z (omega (arith, g.keys));
          stamps = rw z (omega (arith, g.stamps));
          full = rw z (omega (arith, g.full));
          cores = rw z (change_cores f i rs (same_core q r u.there) ∙ g.cores);
        }

  -- without the victim probation is not full, as it was not over the bound
  pub yielded : {b : Bool} {x : ℕ} → b ≡ stale (row_at i (view_rows n m).rows) → b ≡ false → x ≡ (view_rows 0 m).stored_weight →
      Evicted n (Some (record { at = i; stored = x })) (e + 1) l m
  unfolding make_probation_room take_up take_out with_only_rows without_victim
  yielded {x = x} h d es =
      let a = sym h ∙ d in
      let g = u.going in
      let t = view_rows n m in
      let rs = t.rows in
      let r = row_at i rs in
      let j = total probation_visits (without_row i rs) in
      let w : visits t ≡ suc j = omega (arith, total_without probation_visits i rs here, visits_of r false u.there a) in
      let c : guests (without_row i rs) + 1 ≡ guests rs = rw u.there at (total_without (λ x. cond (in_probation x) 1 0) i rs here) in
      let q = probation_limit (view_rows n l) in
      let k : probation_count (take_out i t) < q = omega (arith, g.sound.probations, ap probation_of g.limits) in
      let z = evict_done q j (walk_from (take_out i t) (e + 1)) (lt-ltb (probation_count (take_out i t)) q k) in
      let y = light t.seq rs g.sound.each in
      let s : x ≡ t.stored_weight = es ∙ (same_head 0 n m).stored_weight in
      let small : x ≤ max_rows * weight_limit = omega (arith, s, g.sound.stored_weight, few_rows (capacity l) t g.sound, g.sound.small) in
      let rising = (sound_is (capacity l) (view_rows n l) g.first).rising in
      let left = left_at (record { at = i; stored = x }) (view_rows n l).rows rs rising g.cores here (not_main r u.there) (s ∙ g.sound.stored_weight) small in
      (sym (g.same ∙ evict_turn q take_out i j (walk_from t e) full u.lowest (rw a) w ∙ z), at_one (λ y. LeftAt y (view_rows n l).rows rs) _ left)
