-- The walk for victims: what each turn keeps, where it ends, and that room is made exactly when it can be.
use Prim.Native.Nat.{ℕ, zero, suc, ◌+◌, ◌*◌, ◌<◌, ◌≤◌, min}
use mathlib.Core.Path.{◌≡◌, refl, sym, ◌∙◌, ap, subst}
use mathlib.Core.List.{List, map}
use Rattle.std.specs.Prelude.{None, Some}
use mathlib.Core.Bool.{Bool, true, false, cond, ◌&&◌, not}
use lib.Dec.{ltb, leb, eqb}
use lib.ListN.{length}
use borrow.Author.Tests.{eq-eqb, ne_eqb, eqb-true, ltb-true, ltb-false, leb-true, lt-ltb, le-ltb, le-leb, not-true}
use native.Mathlib.Omega.{arith}
use Rattle.types.specs.declared.node_addr.NodeAddr.{NodeAddr}
use Rattle.rules.specs.Cases.{Every}
use Rattle.rules.specs.Records.{Entry, Row, State, aside, by_use, parked, weight_bound}
use Rattle.rules.specs.Rows.{at_place, change_row, count_rows, in_main, in_probation, keep_rows, lowest_stamp, main_count, main_weight, probation_count, row_at, total, weigh_rows, with_only_rows, with_rows}
use Rattle.rules.specs.Sound.{from_verified}
use Rattle.rules.specs.Entries.{verified}
use Rattle.rules.specs.Room.{Chosen, Room, Sought, Walk, at_new_place, choose_victims, has_room, main_visits, make_room, next_victim, park, parked_at, put_back, raised, refiled, restamp, return_lapsed, room_can_be_made, seek, set_aside, settled, sought, stale, stamp, take_up, untouched, verified_in_main, visits_left}
use Rattle.rules.proofs.Addresses.{contradiction}
use Rattle.rules.proofs.RowLists.{Core, Rising, by_cond, by_maybe, change_cores, core, cores, every_all, every_change, every_keep, every_kept, every_map, every_mapped, every_three, every_turned, look, look_keep, lowest_at, lowest_none, map_cores, of_cores, rising_keep, to_cores, total_change, total_keep_le, total_le, total_map, total_same, total_twice, total_zero}
use Rattle.rules.proofs.Limits.{limits_of, max_of}
use Rattle.rules.proofs.SoundTest.{RowOk, and_both, and_case}

-- ---- places

pub place_is : (p : ℕ) (r : Row) → at_place p r ≡ true → r.place ≡ p
unfolding at_place
place_is p r h = eqb-true r.place p h

pub main_small : (r : Row) → in_main r ≡ true → r.place < 2
unfolding in_main
main_small r h = ltb-true r.place 2 h

pub not_at : (p : ℕ) (r : Row) → (r.place ≡ p → ⊥) → at_place p r ≡ false
unfolding at_place
not_at p r h = ne_eqb r.place p h

at : (p : ℕ) (r : Row) → r.place ≡ p → at_place p r ≡ true
unfolding at_place
at p r h = eq-eqb r.place p h

in_main_lem : (r : Row) → r.place < 2 → in_main r ≡ true
unfolding in_main
in_main_lem r h = lt-ltb r.place 2 h

pub back_not : (r : Row) → at_place aside r ≡ false → put_back r ≡ r
unfolding put_back
back_not r h = rw h

-- ---- a turn: a row r under head seq q becomes z under q'

pub record Going (now q : ℕ) (r : Row) : Type 0 where
  pub ok : RowOk q (put_back r)
  pub spared : at_place aside r ≡ true → verified now r.entry ≡ false

pub record Turn (now q q' : ℕ) (r z : Row) : Type 0 where
  pub same : core z ≡ core r
  pub going : Going now q r → Going now q' z
  pub firmly : verified_in_main now z ≡ verified_in_main now r
  pub mainly : in_main (put_back z) ≡ in_main (put_back r)
  pub left : main_visits now r ≡ suc (main_visits now z)

-- a main row filed by last use
abbrev filed : ℕ → Row → Row
filed q r = record { key = r.key; entry = r.entry; place = by_use; stamp_first = r.entry.last_used; stamp_seq = q; weight = r.weight }

refiled_main : (q : ℕ) (r : Row) → in_main r ≡ true → refiled q r.entry r.weight r ≡ filed q r
unfolding refiled
refiled_main q r m = rw m

filed_turn : (now q : ℕ) (r : Row) → in_main r ≡ true → main_visits now r ≡ 2 → Turn now q (q + 1) r (filed (q + 1) r)
unfolding main_visits stale verified_in_main in_main at_place put_back
filed_turn now q r m t =
    let p = main_small r m in
    let n2 : eqb r.place 2 ≡ false = ne_eqb r.place 2 (λ e. let z : ⊥ = omega arith in z) in
    let n3 : eqb r.place 3 ≡ false = ne_eqb r.place 3 (λ e. let z : ⊥ = omega arith in z) in
    record {
      same = rw n2;
      going = λ g. let o : RowOk q r = rw n3 at g.ok in
          record { ok = record { place = omega arith; source = o.source; mtu_mark = o.mtu_mark; long = o.long; short = o.short; heavy = o.heavy; light = o.light; stamped = omega arith; hinted = o.hinted; on_probation = λ e. contradiction {b = false} e refl; parked = λ e. contradiction {b = false} e refl }; spared = λ e. contradiction {b = false} e refl };
      firmly = rw m;
      mainly = rw (n3, m);
      left = t ∙ rw (eq-eqb r.entry.last_used r.entry.last_used refl);
    }

verified_until : (now : ℕ) (e : Entry) → verified now e ≡ true → (from_verified e ≡ true) × (now ≤ e.verified_until)
unfolding verified
verified_until now e h = and_case (from_verified e) (leb now e.verified_until) h (λ a b. (a, leb-true now e.verified_until b))

parked_turn : (now q : ℕ) (r : Row) → at_place by_use r ≡ true → main_visits now r ≡ 1 → verified now r.entry ≡ true → Turn now q (q + 1) r (parked_at (q + 1) r)
unfolding main_visits stale verified_in_main in_main at_place put_back parked_at
parked_turn now q r h t v =
    let p = eqb-true r.place 0 h in
    let n3 : eqb r.place 3 ≡ false = ne_eqb r.place 3 (λ e. let z : ⊥ = omega arith in z) in
    let u = verified_until now r.entry v in
    record {
      same = rw p;
      going = λ g. let o : RowOk q r = rw n3 at g.ok in
          record { ok = record { place = omega arith; source = o.source; mtu_mark = o.mtu_mark; long = o.long; short = o.short; heavy = o.heavy; light = o.light; stamped = omega arith; hinted = o.hinted; on_probation = λ e. contradiction {b = false} e refl; parked = λ e. (u.0, refl) }; spared = λ e. contradiction {b = false} e refl };
      firmly = rw p;
      mainly = rw p;
      left = t ∙ rw (le-ltb r.entry.verified_until now u.1);
    }

aside_turn : (now q : ℕ) (r : Row) → at_place by_use r ≡ true → main_visits now r ≡ 1 → verified now r.entry ≡ false → Turn now q q r (at_new_place aside r)
unfolding main_visits stale verified_in_main in_main at_place put_back at_new_place
aside_turn now q r h t v =
    let p = eqb-true r.place 0 h in
    let n3 : eqb r.place 3 ≡ false = ne_eqb r.place 3 (λ e. let z : ⊥ = omega arith in z) in
    record {
      same = rw p;
      going = λ g. let o : RowOk q r = rw n3 at g.ok in
          record { ok = record { place = omega arith; source = o.source; mtu_mark = o.mtu_mark; long = o.long; short = o.short; heavy = o.heavy; light = o.light; stamped = o.stamped; hinted = o.hinted; on_probation = λ e. contradiction {b = false} e refl; parked = λ e. contradiction {b = false} e refl }; spared = λ e. v };
      firmly = rw (p, v);
      mainly = rw p;
      left = t;
    }

-- ---- what a walk that began at s keeps

pub record Led (now : ℕ) (s : State) (w : Walk) : Type 0 where
  pub limits : limits_of w.state ≡ limits_of s
  pub same : cores w.state.rows ≡ cores s.rows
  pub each : Every (Going now w.state.seq) w.state.rows
  pub done : w.examined + visits_left now w ≡ total (main_visits now) s.rows
  pub stamps : w.state.seq ≤ s.seq + w.examined
  pub firms : count_rows (verified_in_main now) w.state.rows ≡ count_rows (verified_in_main now) s.rows
  pub loads : weigh_rows (verified_in_main now) w.state.rows ≡ weigh_rows (verified_in_main now) s.rows
  pub mains : count_rows (λ r. in_main (put_back r)) w.state.rows ≡ main_count s
  pub probations : probation_count w.state ≡ probation_count s

going_later : (now q q' : ℕ) (r : Row) → q ≤ q' → Going now q r → Going now q' r
going_later now q q' r l g = let o = g.ok in
    record { ok = record { place = o.place; source = o.source; mtu_mark = o.mtu_mark; long = o.long; short = o.short; heavy = o.heavy; light = o.light; stamped = omega (arith, o.stamped); hinted = o.hinted; on_probation = o.on_probation; parked = o.parked }; spared = g.spared }

module _ (now : ℕ) (s : State) where
  led_turn : (w w' : Walk) (i : ℕ) (f : Row → Row) → Led now s w → i < length w.state.rows → Turn now w.state.seq w'.state.seq (row_at i w.state.rows) (f (row_at i w.state.rows))
      → limits_of w'.state ≡ limits_of w.state → w'.state.rows ≡ change_row f i w.state.rows → w.state.seq ≤ w'.state.seq → w'.state.seq ≤ w.state.seq + 1 → w'.examined ≡ w.examined + 1
      → Led now s w'
  led_turn w w' i f h l t m e a b c =
      let rs = w.state.rows in
      let r = row_at i rs in
      let keeps : (g : Row → ℕ) → g (f r) ≡ g r → total g w'.state.rows ≡ total g rs = λ g q. rw e (omega (arith, total_change g f i rs l)) in
      record {
        limits = m ∙ h.limits;
        same = rw e (change_cores f i rs t.same ∙ h.same);
        each = rw e (every_turned (Going now w.state.seq) (Going now w'.state.seq) f i rs (λ x g. going_later now w.state.seq w'.state.seq x a g) t.going h.each);
        done = rw e (omega (arith, h.done, total_change (main_visits now) f i rs l, t.left));
        stamps = omega (arith, h.stamps);
        firms = keeps (λ x. cond (verified_in_main now x) 1 0) (rw t.firmly) ∙ h.firms;
        loads = keeps (λ x. cond (verified_in_main now x) x.weight 0) (rw t.firmly (ap (λ (y : Core). cond (verified_in_main now r) y.weight 0) t.same)) ∙ h.loads;
        mains = keeps (λ x. cond (in_main (put_back x)) 1 0) (rw t.mainly) ∙ h.mains;
        probations = keeps (λ x. cond (in_probation x) 1 0) (ap (λ (y : Core). cond y.on_probation 1 0) t.same) ∙ h.probations;
      }

  -- the four ways in which a row is taken up
  pub main_of : (p : ℕ) (r : Row) → p < 2 → at_place p r ≡ true → in_main r ≡ true
  main_of p r l h = let e = place_is p r h in in_main_lem r (omega arith)

  led_restamp : (w : Walk) (i : ℕ) → i < length w.state.rows → in_main (row_at i w.state.rows) ≡ true → main_visits now (row_at i w.state.rows) ≡ 2 → Led now s w → Led now s (take_up restamp i w)
  unfolding take_up restamp stamp with_rows raised
  led_restamp w i l m t h =
      let r = row_at i w.state.rows in
      let q = w.state.seq in
      led_turn w (take_up restamp i w) i (λ x. refiled (q + 1) x.entry x.weight x) h l (subst (Turn now q (q + 1) r) (sym (refiled_main (q + 1) r m)) (filed_turn now q r m t)) refl refl (omega arith) (omega arith) refl

  led_park : (w : Walk) (i : ℕ) → i < length w.state.rows → at_place by_use (row_at i w.state.rows) ≡ true → main_visits now (row_at i w.state.rows) ≡ 1 → verified now (row_at i w.state.rows).entry ≡ true → Led now s w → Led now s (take_up park i w)
  unfolding take_up park stamp with_rows raised
  led_park w i l m t v h =
      led_turn w (take_up park i w) i (parked_at (w.state.seq + 1)) h l (parked_turn now w.state.seq (row_at i w.state.rows) m t v) refl refl (omega arith) (omega arith) refl

  led_aside : (w : Walk) (i : ℕ) → i < length w.state.rows → at_place by_use (row_at i w.state.rows) ≡ true → main_visits now (row_at i w.state.rows) ≡ 1 → verified now (row_at i w.state.rows).entry ≡ false → Led now s w → Led now s (set_aside i (take_up untouched i w))
  unfolding take_up untouched set_aside with_rows
  led_aside w i l m t v h =
      led_turn w (set_aside i (take_up untouched i w)) i (at_new_place aside) h l (aside_turn now w.state.seq (row_at i w.state.rows) m t v) refl refl (omega arith) (omega arith) refl

-- the turns that are left to a row
pub turns_stale : (now : ℕ) (r : Row) → at_place by_use r ≡ true → stale r ≡ true → main_visits now r ≡ 2
unfolding main_visits
turns_stale now r a b = rw (a, b)

pub turns_last : (now : ℕ) (r : Row) → at_place by_use r ≡ true → stale r ≡ false → main_visits now r ≡ 1
unfolding main_visits
turns_last now r a b = rw (a, b)

pub turns_lapsed : (now : ℕ) (r : Row) → at_place parked r ≡ true → ltb r.stamp_first now ≡ true → main_visits now r ≡ 2
unfolding main_visits
turns_lapsed now r a b = let n : at_place by_use r ≡ false = not_at by_use r (λ e. let p = place_is parked r a in let z : ⊥ = omega arith in z) in rw (n, a, b)

turns_none : (now : ℕ) (r : Row) → main_visits now r ≡ 0 → (at_place by_use r ≡ false) × (at_place parked r ≡ true → now ≤ r.stamp_first)
unfolding main_visits
turns_none now r h = go (at_place by_use r) refl (stale r) (at_place parked r) refl (ltb r.stamp_first now) refl h
  where
    go : (a : Bool) → at_place by_use r ≡ a → (b : Bool) (c : Bool) → at_place parked r ≡ c → (d : Bool) → ltb r.stamp_first now ≡ d → ◌≡◌ {A = ℕ} (cond a (cond b 2 1) (cond (c && d) 2 0)) 0 → (at_place by_use r ≡ false) × (at_place parked r ≡ true → now ≤ r.stamp_first)
    go true e true c f d g z = absurd (let y : ⊥ = omega arith in y)
    go true e false c f d g z = absurd (let y : ⊥ = omega arith in y)
    go false e b true f true g z = absurd (let y : ⊥ = omega arith in y)
    go false e b true f false g z = (e, λ q. omega (arith, ltb-false r.stamp_first now g))
    go false e b false f d g z = (e, λ q. contradiction q f)

-- no parked row has lapsed
abbrev pub Calm : ℕ → List Row → Type 0
Calm now rs = Every (λ r. at_place parked r ≡ true → now ≤ r.stamp_first) rs

-- a stamp of a main row leaves one turn less and the main rows as many
pub record Next (now : ℕ) (w w' : Walk) : Type 0 where
  pub less : visits_left now w ≡ suc (visits_left now w')
  pub mains : main_count w'.state ≡ main_count w.state
  pub weights : main_weight w'.state ≡ main_weight w.state

pub next_restamp : (now : ℕ) (w : Walk) (i : ℕ) → i < length w.state.rows → in_main (row_at i w.state.rows) ≡ true → main_visits now (row_at i w.state.rows) ≡ 2 → Next now w (take_up restamp i w)
unfolding take_up restamp stamp with_rows raised
next_restamp now w i l m t =
    let rs = w.state.rows in
    let r = row_at i rs in
    let q = w.state.seq + 1 in
    let f : Row → Row = λ x. refiled q x.entry x.weight x in
    let e = refiled_main q r m in
    let u = filed_turn now w.state.seq r m t in
    let a : main_visits now r ≡ suc (main_visits now (f r)) = subst (λ x. main_visits now r ≡ suc (main_visits now x)) (sym e) u.left in
    let b : in_main (filed q r) ≡ true = in_main_lem (filed q r) (omega arith) in
    let up : (g : Row → ℕ) → g (filed q r) ≡ g r → total g (change_row f i rs) ≡ total g rs = λ g z. let y : g (f r) ≡ g r = ap g e ∙ z in omega (arith, total_change g f i rs l) in
    record { less = omega (arith, total_change (main_visits now) f i rs l); mains = up (λ x. cond (in_main x) 1 0) (rw (m, b)); weights = up (λ x. cond (in_main x) x.weight 0) (rw (m, b)) }

park_small : (q : ℕ) (r : Row) → (parked_at q r).place < 2
unfolding parked_at
park_small q r = omega arith

pub next_park : (now : ℕ) (w : Walk) (i : ℕ) → i < length w.state.rows → at_place by_use (row_at i w.state.rows) ≡ true → main_visits now (row_at i w.state.rows) ≡ 1 → verified now (row_at i w.state.rows).entry ≡ true → Next now w (take_up park i w)
unfolding take_up park stamp with_rows raised parked_at
next_park now w i l h t v =
    let rs = w.state.rows in
    let r = row_at i rs in
    let q = w.state.seq + 1 in
    let u = parked_turn now w.state.seq r h t v in
    let p = place_is by_use r h in
    let m : in_main r ≡ true = in_main_lem r (omega arith) in
    let b : in_main (parked_at q r) ≡ true = in_main_lem (parked_at q r) (park_small q r) in
    record {
      less = omega (arith, total_change (main_visits now) (parked_at q) i rs l, u.left);
      mains = let z : total (λ x. cond (in_main x) 1 0) (change_row (parked_at q) i rs) + 1 ≡ total (λ x. cond (in_main x) 1 0) rs + 1 = rw (m, b) at (total_change (λ x. cond (in_main x) 1 0) (parked_at q) i rs l) in omega arith;
      weights = let z : total (λ x. cond (in_main x) x.weight 0) (change_row (parked_at q) i rs) + r.weight ≡ total (λ x. cond (in_main x) x.weight 0) rs + r.weight = rw (m, b) at (total_change (λ x. cond (in_main x) x.weight 0) (parked_at q) i rs l) in omega arith;
    }

-- ---- where the walk ends

record Woken (now : ℕ) (s : State) (w x : Walk) : Type 0 where
  led : Led now s x
  calm : Calm now x.state.rows
  mains : main_count x.state ≡ main_count w.state
  weights : main_weight x.state ≡ main_weight w.state

lapsed_led : (now : ℕ) (s : State) (n : ℕ) (w : Walk) → n ≡ visits_left now w → Led now s w → Woken now s w (return_lapsed n now w)
unfolding return_lapsed
lapsed_led now s zero w e h = record { led = h; calm = every_map (λ r z. (turns_none now r z).1) w.state.rows (total_zero (main_visits now) w.state.rows (sym e)); mains = refl; weights = refl }
lapsed_led now s (suc n) w e h = by_maybe (Woken now s w) (lowest_stamp parked w.state.rows)
    (λ d. record { led = h; calm = every_map (λ r a q. contradiction q a) w.state.rows (lowest_none parked w.state.rows d); mains = refl; weights = refl })
    (λ i d. let g = lowest_at parked w.state.rows i d in
    by_cond (Woken now s w) (ltb (row_at i w.state.rows).stamp_first now)
    (λ a.
    let t = turns_lapsed now (row_at i w.state.rows) g.there a in
    let m = main_of now s parked (row_at i w.state.rows) (omega arith) g.there in
    let x = next_restamp now w i g.inside m t in
    let k = lapsed_led now s n (take_up restamp i w) (omega (arith, x.less)) (led_restamp now s w i g.inside m t h) in
    record { led = k.led; calm = k.calm; mains = k.mains ∙ x.mains; weights = k.weights ∙ x.weights })
    (λ a. record { led = h; calm = every_map (λ r f q. omega (arith, f q, ltb-false (row_at i w.state.rows).stamp_first now a)) w.state.rows g.least; mains = refl; weights = refl }))

-- no victim is left
pub record Stuck (now : ℕ) (s : State) (w x : Walk) : Type 0 where
  pub led : Led now s x
  pub none_by_use : Every (λ r. at_place by_use r ≡ false) x.state.rows
  pub calm : Calm now x.state.rows
  pub mains : main_count x.state ≡ main_count w.state
  pub weights : main_weight x.state ≡ main_weight w.state

pub record Ends (now : ℕ) (s : State) (w : Walk) (x : Sought) : Type 0 where
  pub ended : x.victim ≡ None → Stuck now s w x.walk
  pub yields : (i : ℕ) → x.victim ≡ Some i → Led now s (set_aside i x.walk) × (suc (main_count (set_aside i x.walk).state) ≡ main_count w.state)

calm_restamp : (now : ℕ) (w : Walk) (i : ℕ) → in_main (row_at i w.state.rows) ≡ true → Calm now w.state.rows → Calm now (take_up restamp i w).state.rows
unfolding take_up restamp stamp with_rows raised at_place
calm_restamp now w i m c =
    let r = row_at i w.state.rows in
    let q = w.state.seq + 1 in
    every_change (λ x. at_place parked x ≡ true → now ≤ x.stamp_first) (λ x. refiled q x.entry x.weight x) i w.state.rows
    (λ z. subst (λ (x : Row). eqb x.place parked ≡ true → now ≤ x.stamp_first) (sym (refiled_main q r m)) (λ a. contradiction {b = false} a refl)) c

calm_park : (now : ℕ) (w : Walk) (i : ℕ) → verified now (row_at i w.state.rows).entry ≡ true → Calm now w.state.rows → Calm now (take_up park i w).state.rows
unfolding take_up park stamp with_rows raised parked_at
calm_park now w i v c = every_change (λ x. at_place parked x ≡ true → now ≤ x.stamp_first) (parked_at (w.state.seq + 1)) i w.state.rows (λ z a. (verified_until now (row_at i w.state.rows).entry v).1) c

aside_mains : (w : Walk) (i : ℕ) → i < length w.state.rows → at_place by_use (row_at i w.state.rows) ≡ true → suc (main_count (set_aside i (take_up untouched i w)).state) ≡ main_count w.state
unfolding take_up untouched set_aside with_rows at_new_place in_main
aside_mains w i l h =
    let rs = w.state.rows in
    let p = place_is by_use (row_at i rs) h in
    let z : total (λ x. cond (ltb x.place 2) 1 0) (change_row (at_new_place aside) i rs) + 1 ≡ total (λ x. cond (ltb x.place 2) 1 0) rs + 0 = rw p at (total_change (λ x. cond (ltb x.place 2) 1 0) (at_new_place aside) i rs l) in
    omega arith

seek_led : (now : ℕ) (s : State) (n : ℕ) (w : Walk) → n ≡ visits_left now w → Led now s w → Calm now w.state.rows → Ends now s w (seek n now w)
unfolding seek sought
seek_led now s zero w e h c = record { ended = λ q. record { led = h; none_by_use = every_map (λ r z. (turns_none now r z).0) w.state.rows (total_zero (main_visits now) w.state.rows (sym e)); calm = c; mains = refl; weights = refl }; yields = λ i q. contradiction {b = true} refl (cc) }
seek_led now s (suc n) w e h c = by_maybe (Ends now s w) (lowest_stamp by_use w.state.rows)
    (λ d. record { ended = λ q. record { led = h; none_by_use = lowest_none by_use w.state.rows d; calm = c; mains = refl; weights = refl }; yields = λ i q. contradiction {b = true} refl (cc) })
    (λ i d.
    let r = row_at i w.state.rows in
    let g = lowest_at by_use w.state.rows i d in
    let m = main_of now s by_use r (omega arith) g.there in
    by_cond (Ends now s w) (stale r)
    (λ a.
    let t = turns_stale now r g.there a in
    let x = next_restamp now w i g.inside m t in
    let k = seek_led now s n (take_up restamp i w) (omega (arith, x.less)) (led_restamp now s w i g.inside m t h) (calm_restamp now w i m c) in
    record { ended = λ q. let u = k.ended q in record { led = u.led; none_by_use = u.none_by_use; calm = u.calm; mains = u.mains ∙ x.mains; weights = u.weights ∙ x.weights }; yields = λ j q. ((k.yields j q).0, (k.yields j q).1 ∙ x.mains) })
    (λ a. let t = turns_last now r g.there a in
    by_cond (Ends now s w) (verified now r.entry)
    (λ b.
    let x = next_park now w i g.inside g.there t b in
    let k = seek_led now s n (take_up park i w) (omega (arith, x.less)) (led_park now s w i g.inside g.there t b h) (calm_park now w i b c) in
    record { ended = λ q. let u = k.ended q in record { led = u.led; none_by_use = u.none_by_use; calm = u.calm; mains = u.mains ∙ x.mains; weights = u.weights ∙ x.weights }; yields = λ j q. ((k.yields j q).0, (k.yields j q).1 ∙ x.mains) })
    (λ b. record {
      ended = λ q. contradiction {b = true} refl (cc);
      yields = λ j q. let z : i ≡ j = cc in subst (λ (j : ℕ). Led now s (set_aside j (take_up untouched i w)) × (suc (main_count (set_aside j (take_up untouched i w)).state) ≡ main_count w.state)) z
          (led_aside now s w i g.inside g.there t b h, aside_mains w i g.inside g.there);
    })))

pub next_led : (now : ℕ) (s : State) (w : Walk) → Led now s w → Ends now s w (next_victim now w)
unfolding next_victim
next_led now s w h =
    let k = lapsed_led now s (visits_left now w) w refl h in
    let v = return_lapsed (visits_left now w) now w in
    let g = seek_led now s (visits_left now v) v refl k.led k.calm in
    record { ended = λ q. let u = g.ended q in record { led = u.led; none_by_use = u.none_by_use; calm = u.calm; mains = u.mains ∙ k.mains; weights = u.weights ∙ k.weights }; yields = λ i q. ((g.yields i q).0, (g.yields i q).1 ∙ k.mains) }

-- ---- the victims

-- room over the rows verified at now
abbrev pub room_test : ℕ → ℕ → State → Bool
room_test now w s = ltb (count_rows (verified_in_main now) s.rows) s.max_entries && leb (weigh_rows (verified_in_main now) s.rows + w) (weight_bound s.max_entries)

test_mono : (a b x y w l t : ℕ) → a ≤ b → x ≤ y → ltb b l && leb (y + w) t ≡ true → ltb a l && leb (x + w) t ≡ true
test_mono a b x y w l t p q h = and_case (ltb b l) (leb (y + w) t) h (λ f g. and_both (lt-ltb a l (omega (arith, ltb-true b l f))) (le-leb (x + w) t (omega (arith, leb-true (y + w) t g))))

verified_main : (now n : ℕ) (r : Row) → cond (verified_in_main now r) n 0 ≤ cond (in_main r) n 0
unfolding verified_in_main
verified_main now n r = go (in_main r) (verified now r.entry)
  where
    go : (a b : Bool) → cond (a && b) n 0 ≤ cond a n 0
    go true true = omega arith
    go true false = omega arith
    go false b = omega arith

-- where no row is by use and none has lapsed, what is main is verified
main_verified : (now q : ℕ) (r : Row) → Going now q r → at_place by_use r ≡ false → (at_place parked r ≡ true → now ≤ r.stamp_first) → in_main r ≡ verified_in_main now r
unfolding verified_in_main verified
main_verified now q r g a c = go (in_main r) refl
  where
    go : (m : Bool) → in_main r ≡ m → m ≡ m && (from_verified r.entry && leb now r.entry.verified_until)
    go false e = refl
    go true e =
        let p : r.place ≡ 1 = one (main_small r e) in
        let n3 : at_place aside r ≡ false = not_at aside r (λ d. let z : ⊥ = omega arith in z) in
        let o : RowOk q r = subst (RowOk q) (back_not r n3) g.ok in
        let k = o.parked (at parked r p) in
        sym (and_both k.0 (le-leb now r.entry.verified_until (omega (arith, k.1, c (at parked r p)))))
      where
        one : r.place < 2 → r.place ≡ 1
        one l = let n : r.place ≡ 0 → ⊥ = λ d. contradiction (at by_use r d) a in omega arith

pub record Chose (now w : ℕ) (s : State) (n : ℕ) (v : Walk) (c : Chosen) : Type 0 where
  pub led : Led now s c.walk
  pub fits : c.made ≡ true → has_room w c.walk.state ≡ true
  pub exact : main_count v.state < n → c.made ≡ room_test now w s

pub choose_led : (now w : ℕ) (s : State) (n : ℕ) (v : Walk) → Led now s v → Chose now w s n v (choose_victims n now w v)
unfolding choose_victims has_room
choose_led now w s zero v h = record { led = h; fits = λ q. contradiction {b = false} q refl; exact = λ l. absurd (let z : ⊥ = omega arith in z) }
choose_led now w s (suc n) v h =
    let x = next_victim now v in
    let k = next_led now s v h in
    by_cond (Chose now w s (suc n) v) (has_room w v.state)
    (λ e. record { led = h; fits = λ q. e; exact = λ l. sym (roomy e) })
    (λ e. by_maybe (Chose now w s (suc n) v) x.victim
    (λ d. record { led = (k.ended d).led; fits = λ q. contradiction {b = false} q refl; exact = λ l. sym (sym (stuck x.walk (k.ended d)) ∙ e) })
    (λ i d. let y = k.yields i d in let c = choose_led now w s n (set_aside i x.walk) y.0 in
    record { led = c.led; fits = c.fits; exact = λ l. c.exact (omega (arith, y.1)) }))
  where
    roomy : ltb (main_count v.state) v.state.max_entries && leb (main_weight v.state + w) (weight_bound v.state.max_entries) ≡ true → room_test now w s ≡ true
    roomy e = rw (← h.firms, ← h.loads, ← ap max_of h.limits) (test_mono (count_rows (verified_in_main now) v.state.rows) (main_count v.state) (weigh_rows (verified_in_main now) v.state.rows) (main_weight v.state) w v.state.max_entries (weight_bound v.state.max_entries)
        (total_le (λ r. cond (verified_in_main now r) 1 0) (λ r. cond (in_main r) 1 0) (verified_main now 1) v.state.rows) (total_le (λ r. cond (verified_in_main now r) r.weight 0) (λ r. cond (in_main r) r.weight 0) (λ r. verified_main now r.weight r) v.state.rows) e)

    stuck : (x : Walk) → Stuck now s v x → ltb (main_count v.state) v.state.max_entries && leb (main_weight v.state + w) (weight_bound v.state.max_entries) ≡ room_test now w s
    stuck x u =
        let firmly : Every (λ r. in_main r ≡ verified_in_main now r) x.state.rows = every_three (λ r g a b. main_verified now x.state.seq r g a b) x.state.rows u.led.each u.none_by_use u.calm in
        let c : main_count v.state ≡ count_rows (verified_in_main now) s.rows = sym u.mains ∙ total_same (λ r. cond (in_main r) 1 0) (λ r. cond (verified_in_main now r) 1 0) x.state.rows (every_map (λ r e. ap (λ b. cond b 1 0) e) x.state.rows firmly) ∙ u.led.firms in
        let d : main_weight v.state ≡ weigh_rows (verified_in_main now) s.rows = sym u.weights ∙ total_same (λ r. cond (in_main r) r.weight 0) (λ r. cond (verified_in_main now r) r.weight 0) x.state.rows (every_map (λ r e. ap (λ b. cond b r.weight 0) e) x.state.rows firmly) ∙ u.led.loads in
        rw (c, d, ap max_of h.limits)

-- ---- room

pub back_core : (r : Row) → core (put_back r) ≡ core r
unfolding put_back at_place at_new_place
back_core r = go (eqb r.place 3) refl
  where
    go : (b : Bool) → eqb r.place 3 ≡ b → core (cond b (at_new_place by_use r) r) ≡ core r
    go true e = rw (eqb-true r.place 3 e)
    go false e = refl

main_back : (r : Row) → cond (in_main r) 1 0 ≤ cond (in_main (put_back r)) 1 0
unfolding put_back at_place in_main
main_back r = go (eqb r.place 3) refl
  where
    go : (b : Bool) → eqb r.place 3 ≡ b → cond (ltb r.place 2) 1 0 ≤ cond (ltb (cond b (at_new_place by_use r) r).place 2) 1 0
    go true e = rw (eqb-true r.place 3 e) (omega arith)
    go false e = omega arith

pub record Ready (s : State) : Type 0 where
  pub rising : Rising (cores s.rows)
  pub each : Every (RowOk s.seq) s.rows

ok_back : (q : ℕ) (r : Row) → RowOk q r → put_back r ≡ r
ok_back q r h = back_not r (not_at aside r (λ e. let z : ⊥ = omega (arith, h.place) in z))

pub start_led : (now : ℕ) (s : State) → Ready s → Led now s (record { state = s; examined = 0 })
start_led now s h = record {
  limits = refl;
  same = refl;
  each = every_map (λ r o. record { ok = subst (RowOk s.seq) (sym (ok_back s.seq r o)) o; spared = λ e. absurd (let p = place_is aside r e in let z : ⊥ = omega (arith, o.place) in z) }) s.rows h.each;
  done = omega arith;
  stamps = omega arith;
  firms = refl;
  loads = refl;
  mains = total_same (λ r. cond (in_main (put_back r)) 1 0) (λ r. cond (in_main r) 1 0) s.rows (every_map (λ r o. ap (λ (x : Row). cond (in_main x) 1 0) (ok_back s.seq r o)) s.rows h.each);
  probations = refl;
}

pub turns_main : (now : ℕ) (r : Row) → main_visits now r ≤ 2 * cond (in_main r) 1 0
unfolding main_visits in_main
turns_main now r = go (at_place by_use r) refl (stale r) (at_place parked r) refl (ltb r.stamp_first now)
  where
    go : (a : Bool) → at_place by_use r ≡ a → (b c : Bool) → at_place parked r ≡ c → (d : Bool) → cond a (cond b 2 1) (cond (c && d) 2 0) ≤ 2 * cond (ltb r.place 2) 1 0
    go true e true c f d = rw (place_is by_use r e) (omega arith)
    go true e false c f d = rw (place_is by_use r e) (omega arith)
    go false e b true f true = rw (place_is parked r f) (omega arith)
    go false e b true f false = omega arith
    go false e b false f d = omega arith

pub record Roomed (now w : ℕ) (s : State) (m : Room) : Type 1 where
  pub limits : limits_of m.state ≡ limits_of s
  pub keeps : (P : Core → Type 0) → Every P (cores s.rows) → Every P (cores m.state.rows)
  pub spares : (k : NodeAddr) (x : Core) → verified now x.entry ≡ true → look k (cores s.rows) ≡ Some x → look k (cores m.state.rows) ≡ Some x
  pub each : Every (RowOk m.state.seq) m.state.rows
  pub rising : Rising (cores m.state.rows)
  pub counted : m.state.row_count ≡ length m.state.rows
  pub stored_weight : m.state.stored_weight ≡ main_weight m.state
  pub mains : main_count m.state ≤ main_count s
  pub probations : probation_count m.state ≤ probation_count s
  pub few : m.made ≡ true → main_count m.state < s.max_entries
  pub exact : m.made ≡ room_can_be_made now w s
  pub seen : m.examined ≤ 2 * main_count s
  pub stamps : m.state.seq ≤ s.seq + m.examined

abbrev pub stays : Row → Bool
stays r = not (at_place aside r)

-- what is left of the rows: b, where the victims leave
abbrev remains : Bool → List Row → List Row
remains b rs = cond b (keep_rows stays rs) (map put_back rs)

remains_visits : (b : Bool) (rs : List Row) → count_rows in_probation (remains b rs) ≤ count_rows in_probation rs
remains_visits true rs = total_keep_le (λ r. cond (in_probation r) 1 0) stays rs
remains_visits false rs = omega (arith, total_map (λ r. cond (in_probation r) 1 0) put_back rs, total_same (λ r. cond (in_probation (put_back r)) 1 0) (λ r. cond (in_probation r) 1 0) rs (every_all (λ r. ap (λ (y : Core). cond y.on_probation 1 0) (back_core r)) rs))

remains_mains : (b : Bool) (rs : List Row) → count_rows in_main (remains b rs) ≤ count_rows (λ r. in_main (put_back r)) rs
remains_mains true rs = omega (arith, total_keep_le (λ r. cond (in_main r) 1 0) stays rs, total_le (λ r. cond (in_main r) 1 0) (λ r. cond (in_main (put_back r)) 1 0) main_back rs)
remains_mains false rs = omega (arith, total_map (λ r. cond (in_main r) 1 0) put_back rs)

remains_each : (now q : ℕ) (b : Bool) (rs : List Row) → Every (Going now q) rs → Every (RowOk q) (remains b rs)
remains_each now q true rs g = every_kept (RowOk q) stays rs (every_map (λ r x e. subst (RowOk q) (back_not r (not-true _ e)) x.ok) rs g)
remains_each now q false rs g = every_mapped (RowOk q) put_back rs (every_map (λ r x. x.ok) rs g)

remains_keeps : (b : Bool) (rs : List Row) (P : Core → Type 0) → Every P (cores rs) → Every P (cores (remains b rs))
remains_keeps true rs P h = to_cores P (keep_rows stays rs) (every_keep (λ r. P (core r)) stays rs (of_cores P rs h))
remains_keeps false rs P h = rw (map_cores put_back back_core rs) h

remains_rising : (b : Bool) (rs : List Row) → Rising (cores rs) → Rising (cores (remains b rs))
remains_rising true rs h = rising_keep stays rs h
remains_rising false rs h = rw (map_cores put_back back_core rs) h

remains_spares : (now q : ℕ) (b : Bool) (rs : List Row) → Every (Going now q) rs → (k : NodeAddr) (x : Core) → verified now x.entry ≡ true → look k (cores rs) ≡ Some x → look k (cores (remains b rs)) ≡ Some x
remains_spares now q true rs g k x v h = look_keep k x stays rs (every_map (λ r z e. go r z (subst (λ (y : Core). verified now y.entry ≡ true) (sym e) v) (at_place aside r) refl) rs g) h
  where
    go : (r : Row) → Going now q r → verified now r.entry ≡ true → (b : Bool) → at_place aside r ≡ b → not b ≡ true
    go r z t true e = contradiction t (z.spared e)
    go r z t false e = refl
remains_spares now q false rs g k x v h = rw (map_cores put_back back_core rs) h

pub room_roomed : (now w : ℕ) (s : State) → Ready s → Roomed now w s (make_room now w s)
unfolding make_room settled with_only_rows room_can_be_made has_room
room_roomed now w s h =
    let c = choose_victims (suc (main_count s)) now (min w (weight_bound s.max_entries)) (record { state = s; examined = 0 }) in
    let k = choose_led now (min w (weight_bound s.max_entries)) s (suc (main_count s)) (record { state = s; examined = 0 }) (start_led now s h) in
    let l = k.led in
    let rs = c.walk.state.rows in
    record {
      limits = l.limits;
      keeps = λ P g. remains_keeps c.made rs P (rw l.same g);
      spares = λ j x v e. remains_spares now c.walk.state.seq c.made rs l.each j x v (rw l.same e);
      each = remains_each now c.walk.state.seq c.made rs l.each;
      rising = remains_rising c.made rs (rw l.same h.rising);
      counted = refl;
      stored_weight = refl;
      mains = omega (arith, remains_mains c.made rs, l.mains);
      probations = omega (arith, remains_visits c.made rs, l.probations);
      few = λ e. few c (k.fits e) (ap max_of l.limits) e;
      exact = k.exact (omega arith);
      seen = omega (arith, l.done, total_twice (main_visits now) (λ r. cond (in_main r) 1 0) (turns_main now) s.rows);
      stamps = l.stamps;
    }
  where
    few : (c : Chosen) → has_room (min w (weight_bound s.max_entries)) c.walk.state ≡ true → c.walk.state.max_entries ≡ s.max_entries → c.made ≡ true → count_rows in_main (remains c.made c.walk.state.rows) < s.max_entries
    few c f m e = rw e (and_case (ltb (main_count c.walk.state) c.walk.state.max_entries) (leb (main_weight c.walk.state + min w (weight_bound s.max_entries)) (weight_bound c.walk.state.max_entries)) f (λ a b. omega (arith, ltb-true (main_count c.walk.state) c.walk.state.max_entries a, total_keep_le (λ r. cond (in_main r) 1 0) stays c.walk.state.rows)))
