-- The moves on a sound state: rows out, in, and changed in place; room in main and in probation.
use Prim.Native.Nat.{ℕ, zero, suc, ◌+◌, ◌*◌, ◌<◌, ◌≤◌}
use mathlib.Core.Path.{◌≡◌, refl, sym, ◌∙◌, ap, subst}
use mathlib.Core.List.{List, [], ◌∷◌}
use Rattle.std.specs.Prelude.{Some}
use mathlib.Core.Bool.{Bool, true, false, cond}
use lib.Dec.{ltb, eqb}
use lib.ListN.{length}
use borrow.Author.Tests.{eq-eqb, ne_eqb, eqb-true, ltb-true, ltb-false}
use native.Mathlib.Omega.{arith}
use Rattle.types.specs.declared.node_addr.NodeAddr.{NodeAddr}
use Rattle.types.specs.Paths.{path_weight, path_places}
use Rattle.rules.specs.Cases.{Every}
use Rattle.rules.specs.Records.{Entry, Row, State, by_use, main_limit, probation, probation_limit, weight_limit}
use Rattle.rules.specs.Rows.{at_place, change_row, count_rows, in_main, in_probation, keep_rows, lowest_stamp, main_count, probation_count, row_at, total, with_only_rows, with_rows, without_row}
use Rattle.rules.specs.Sound.{from_verified}
use Rattle.rules.specs.Room.{Walk, evict_below, file_new, make_probation_room, make_room, probation_visits, raised, refile, refiled, restamp, stale, stamp, take_out, take_up}
use Rattle.rules.proofs.Addresses.{contradiction}
use Rattle.rules.proofs.RowLists.{Core, Rising, by_cond, by_maybe, change_cores, core, cores, every_at, every_insert, every_keep, every_map, every_turned, every_without, length_change, look, look_at, look_without, lowest_at, lowest_none, of_cores, rising_change, rising_insert, rising_keep, rising_unique, rising_without, to_cores, total_change, total_insert, total_keep_le, total_le, total_twice, total_without, total_without_le}
use Rattle.rules.proofs.Limits.{limits_of, max_of, probation_of}
use Rattle.rules.proofs.SoundTest.{RowOk, Sound}
use Rattle.rules.proofs.Walks.{Ready, room_roomed}

abbrev pub Gone : NodeAddr → State → Type 0
Gone k s = Every (λ y. y.key ≡ k → ⊥) (cores s.rows)

pub ready : {R : ℕ} {s : State} → Sound R s → Ready s
ready h = record { rising = h.rising; each = h.each }

pub later_ok : (q q' : ℕ) → q ≤ q' → (r : Row) → RowOk q r → RowOk q' r
later_ok q q' l r o = record { place = o.place; source = o.source; mtu_mark = o.mtu_mark; long = o.long; short = o.short; heavy = o.heavy; light = o.light; stamped = omega (arith, o.stamped); hinted = o.hinted; on_probation = o.on_probation; parked = o.parked }

-- ---- rows leave

pub only_sound : (R : ℕ) (s : State) (rs : List Row) → Sound R s → count_rows in_main rs ≤ main_count s → count_rows in_probation rs ≤ probation_count s → Rising (cores rs) → Every (RowOk s.seq) rs → Sound R (with_only_rows rs s)
unfolding with_only_rows
only_sound R s rs h m t r e = record { small = h.small; space = h.space; mains = omega (arith, h.mains); probations = omega (arith, h.probations); counted = refl; stored_weight = refl; rising = r; each = e }

pub keep_sound : (R : ℕ) (s : State) (p : Row → Bool) → Sound R s → Sound R (with_only_rows (keep_rows p s.rows) s)
keep_sound R s p h = only_sound R s (keep_rows p s.rows) h (total_keep_le (λ r. cond (in_main r) 1 0) p s.rows) (total_keep_le (λ r. cond (in_probation r) 1 0) p s.rows) (rising_keep p s.rows h.rising) (every_keep (RowOk s.seq) p s.rows h.each)

pub take_out_sound : (R i : ℕ) (s : State) → Sound R s → Sound R (take_out i s)
unfolding take_out
take_out_sound R i s h = only_sound R s (without_row i s.rows) h (total_without_le (λ r. cond (in_main r) 1 0) i s.rows) (total_without_le (λ r. cond (in_probation r) 1 0) i s.rows) (rising_without i s.rows h.rising) (every_without (RowOk s.seq) i s.rows h.each)

-- ---- a row changes in place

pub record InPlace (q : ℕ) (r z : Row) : Type 0 where
  pub ok : RowOk q z
  pub mainly : in_main z ≡ in_main r
  pub on_probation : at_place probation z ≡ at_place probation r
  pub load : in_main r ≡ true → z.weight ≡ r.weight

same_load : (b : Bool) (x y : ℕ) → (b ≡ true → x ≡ y) → cond b x 0 ≡ cond b y 0
same_load true x y f = f refl
same_load false x y f = refl

pub change_sound : (R : ℕ) (s s' : State) (f : Row → Row) (i : ℕ) → Sound R s → i < length s.rows → ((r : Row) → (f r).key ≡ r.key) → InPlace s'.seq (row_at i s.rows) (f (row_at i s.rows))
    → limits_of s' ≡ limits_of s → s'.rows ≡ change_row f i s.rows → s'.row_count ≡ s.row_count → s'.stored_weight ≡ s.stored_weight → s.seq ≤ s'.seq → Sound R s'
change_sound R s s' f i h l k p m e c d q =
    let rs = s.rows in
    let r = row_at i rs in
    let keeps : (g : Row → ℕ) → g (f r) ≡ g r → total g s'.rows ≡ total g rs = λ g z. rw e (omega (arith, total_change g f i rs l)) in
    record {
      small = h.small;
      space = omega (arith, ap max_of m, ap probation_of m, h.space);
      mains = omega (arith, ap probation_of m, keeps (λ x. cond (in_main x) 1 0) (rw p.mainly), h.mains);
      probations = omega (arith, ap probation_of m, keeps (λ x. cond (in_probation x) 1 0) (rw p.on_probation), h.probations);
      counted = c ∙ h.counted ∙ sym (ap length e ∙ length_change f i rs);
      stored_weight = d ∙ h.stored_weight ∙ sym (keeps (λ x. cond (in_main x) x.weight 0) (rw p.mainly (same_load (in_main r) (f r).weight r.weight p.load)));
      rising = rw e (rising_change f i rs k h.rising);
      each = rw e (every_turned (RowOk s.seq) (RowOk s'.seq) f i rs (later_ok s.seq s'.seq q) (λ o. p.ok) h.each);
    }

-- an entry that may be filed at a weight
pub record EntryOk (e : Entry) (w : ℕ) : Type 0 where
  pub source : e.source ≤ 1
  pub mtu_mark : e.mtu_mark ≤ 1
  pub long : 1 ≤ e.path.len
  pub short : e.path.len ≤ path_places
  pub heavy : path_weight e.path ≤ w
  pub light : w ≤ weight_limit
  pub hinted : from_verified e ≡ false → e.verified_until ≡ 0

pub own_ok : (q : ℕ) (r : Row) → RowOk q r → EntryOk r.entry r.weight
own_ok q r o = record { source = o.source; mtu_mark = o.mtu_mark; long = o.long; short = o.short; heavy = o.heavy; light = o.light; hinted = o.hinted }

refiled_in_place : (q : ℕ) (e : Entry) (w : ℕ) (r : Row) → r.place ≤ 2 → EntryOk e w → (in_main r ≡ false → from_verified e ≡ false) → (in_main r ≡ true → w ≡ r.weight) → InPlace q r (refiled q e w r)
unfolding refiled in_main at_place
refiled_in_place q e w r pl o v l = go (ltb r.place 2) refl
  where
    ok : (p : ℕ) → p ≤ 2 → (eqb p 2 ≡ true → from_verified e ≡ false) → (eqb p 1 ≡ true → ⊥) → RowOk q (record { key = r.key; entry = e; place = p; stamp_first = e.last_used; stamp_seq = q; weight = w })
    ok p a t n = record { place = a; source = o.source; mtu_mark = o.mtu_mark; long = o.long; short = o.short; heavy = o.heavy; light = o.light; stamped = omega arith; hinted = o.hinted; on_probation = t; parked = λ z. absurd (n z) }

    go : (b : Bool) → ltb r.place 2 ≡ b → InPlace q r (record { key = r.key; entry = e; place = cond b by_use r.place; stamp_first = e.last_used; stamp_seq = q; weight = w })
    go true x =
        let y = ltb-true r.place 2 x in
        record { ok = ok 0 (omega arith) (λ z. contradiction {b = false} z refl) (λ z. contradiction {b = false} z refl); mainly = sym x; on_probation = sym (ne_eqb r.place 2 (λ z. let n : ⊥ = omega arith in n)); load = l }
    go false x =
        let y : r.place ≡ 2 = omega (arith, ltb-false r.place 2 x) in
        record { ok = ok r.place pl (λ z. v x) (λ z. let u = eqb-true r.place 1 z in let n : ⊥ = omega arith in n); mainly = refl; on_probation = refl; load = l }

refiled_key : (q : ℕ) (e : Entry) (w : ℕ) (r : Row) → (refiled q e w r).key ≡ r.key
unfolding refiled
refiled_key q e w r = refl

pub refile_sound : (R : ℕ) (e : Entry) (w i : ℕ) (s : State) → Sound R s → i < length s.rows → EntryOk e w → (in_main (row_at i s.rows) ≡ false → from_verified e ≡ false) → (in_main (row_at i s.rows) ≡ true → w ≡ (row_at i s.rows).weight) → Sound R (refile e w i s)
unfolding refile stamp with_rows raised
refile_sound R e w i s h l o v x =
    change_sound R s (refile e w i s) (refiled (s.seq + 1) e w) i h l (refiled_key (s.seq + 1) e w)
    (refiled_in_place (s.seq + 1) e w (row_at i s.rows) (every_at (RowOk s.seq) i s.rows l h.each).place o v x) refl refl refl refl (omega arith)

pub restamp_sound : (R i : ℕ) (s : State) → Sound R s → i < length s.rows → at_place probation (row_at i s.rows) ≡ true → Sound R (restamp i s)
unfolding restamp stamp with_rows raised
restamp_sound R i s h l p =
    let r = row_at i s.rows in
    let o = every_at (RowOk s.seq) i s.rows l h.each in
    change_sound R s (restamp i s) (λ x. refiled (s.seq + 1) x.entry x.weight x) i h l (λ x. refiled_key (s.seq + 1) x.entry x.weight x)
    (refiled_in_place (s.seq + 1) r.entry r.weight r o.place (own_ok s.seq r o) (λ z. o.on_probation p) (λ z. refl)) refl refl refl refl (omega arith)

-- ---- a row enters

pub file_sound : (R : ℕ) (k : NodeAddr) (e : Entry) (w p : ℕ) (s : State) → Sound R s → Gone k s → p ≤ 2 → (p ≡ 1 → ⊥) → (p ≡ 2 → from_verified e ≡ false)
    → cond (ltb p 2) 1 0 + main_count s ≤ main_limit R s → cond (eqb p 2) 1 0 + probation_count s ≤ probation_limit s → EntryOk e w → Sound R (file_new k e w p s)
unfolding file_new in_main at_place
file_sound R k e w p s h g a np tr m t o =
    let r : Row = record { key = k; entry = e; place = p; stamp_first = e.last_used; stamp_seq = s.seq + 1; weight = w } in
    record {
      small = h.small;
      space = h.space;
      mains = rw (total_insert (λ x. cond (ltb x.place 2) 1 0) r s.rows) m;
      probations = rw (total_insert (λ x. cond (eqb x.place 2) 1 0) r s.rows) t;
      counted = refl;
      stored_weight = refl;
      rising = rising_insert r s.rows g h.rising;
      each = every_insert (RowOk (s.seq + 1)) r s.rows (record { place = a; source = o.source; mtu_mark = o.mtu_mark; long = o.long; short = o.short; heavy = o.heavy; light = o.light; stamped = omega arith; hinted = o.hinted; on_probation = λ z. tr (eqb-true p 2 z); parked = λ z. absurd (np (eqb-true p 1 z)) }) (every_map (later_ok s.seq (s.seq + 1) (omega arith)) s.rows h.each);
    }

pub file_main : (R : ℕ) (k : NodeAddr) (e : Entry) (w : ℕ) (s : State) → Sound R s → Gone k s → main_count s < main_limit R s → EntryOk e w → Sound R (file_new k e w by_use s)
file_main R k e w s h g m o = file_sound R k e w by_use s h g (omega arith) (λ z. let n : ⊥ = omega arith in n) (λ z. absurd (let n : ⊥ = omega arith in n)) (omega arith) (omega (arith, h.probations)) o

pub file_probation : (R : ℕ) (k : NodeAddr) (e : Entry) (w : ℕ) (s : State) → Sound R s → Gone k s → probation_count s < probation_limit s → from_verified e ≡ false → EntryOk e w → Sound R (file_new k e w probation s)
file_probation R k e w s h g m v o = file_sound R k e w probation s h g (omega arith) (λ z. let n : ⊥ = omega arith in n) (λ z. v) (omega (arith, h.mains)) (omega arith) o

-- ---- room in main

pub room_sound : (R : ℕ) (s : State) → Sound R s → (now w : ℕ) → Sound R (make_room now w s).state
room_sound R s h now w = let m = room_roomed now w s (ready h) in
    let q = ap probation_of m.limits in
    record { small = h.small; space = omega (arith, ap max_of m.limits, h.space); mains = omega (arith, m.mains, h.mains); probations = omega (arith, m.probations, h.probations); counted = m.counted; stored_weight = m.stored_weight; rising = m.rising; each = m.each }

-- ---- room in probation

pub record ProbationEvicted (R : ℕ) (s : State) (w : Walk) : Type 1 where
  pub sound : Sound R w.state
  pub limits : limits_of w.state ≡ limits_of s
  pub keeps : (P : Core → Type 0) → Every P (cores s.rows) → Every P (cores w.state.rows)
  pub spares : (k : NodeAddr) (x : Core) → x.on_probation ≡ false → look k (cores s.rows) ≡ Some x → look k (cores w.state.rows) ≡ Some x
  pub done : w.examined + total probation_visits w.state.rows ≡ total probation_visits s.rows
  pub stamps : w.state.seq ≤ s.seq + w.examined

pub refiled_core : (q : ℕ) (r : Row) → at_place probation r ≡ true → core (refiled q r.entry r.weight r) ≡ core r
unfolding refiled in_main at_place
refiled_core q r p = rw (eqb-true r.place 2 p)

pub visits_restamped : (q : ℕ) (r : Row) → at_place probation r ≡ true → probation_visits (refiled q r.entry r.weight r) ≡ 1
unfolding probation_visits refiled in_main at_place stale
visits_restamped q r p = rw (eqb-true r.place 2 p, eq-eqb r.entry.last_used r.entry.last_used refl)

pub visits_of : (r : Row) (b : Bool) → at_place probation r ≡ true → stale r ≡ b → probation_visits r ≡ cond b 2 1
unfolding probation_visits
visits_of r b p q = rw (p, q)

module _ (R : ℕ) (s : State) where
  evict_restamp : (w : Walk) (i : ℕ) → ProbationEvicted R s w → i < length w.state.rows → at_place probation (row_at i w.state.rows) ≡ true → stale (row_at i w.state.rows) ≡ true → ProbationEvicted R s (take_up restamp i w)
  unfolding take_up restamp stamp with_rows raised
  evict_restamp w i h l p a =
      let rs = w.state.rows in
      let r = row_at i rs in
      let q = w.state.seq + 1 in
      let f : Row → Row = λ x. refiled q x.entry x.weight x in
      let e = change_cores f i rs (refiled_core q r p) in
      record {
        sound = restamp_sound R i w.state h.sound l p;
        limits = h.limits;
        keeps = λ P g. rw e (h.keeps P g);
        spares = λ k x t g. rw e (h.spares k x t g);
        done = omega (arith, h.done, total_change probation_visits f i rs l, visits_restamped q r p, visits_of r true p a);
        stamps = omega (arith, h.stamps);
      }

  evict_out : (w : Walk) (i : ℕ) → ProbationEvicted R s w → i < length w.state.rows → at_place probation (row_at i w.state.rows) ≡ true → stale (row_at i w.state.rows) ≡ false → ProbationEvicted R s (take_up take_out i w)
  unfolding take_up take_out with_only_rows
  evict_out w i h l p a =
      let rs = w.state.rows in
      let r = row_at i rs in
      record {
        sound = take_out_sound R i w.state h.sound;
        limits = h.limits;
        keeps = λ P g. to_cores P (without_row i rs) (every_without (λ x. P (core x)) i rs (of_cores P rs (h.keeps P g)));
        spares = λ k x t g. let y = h.spares k x t g in look_without k i rs (λ z. contradiction p (let u : core r ≡ x = other r k x z (look_at i rs l (rising_unique (cores rs) h.sound.rising)) y in ap (λ (c : Core). c.on_probation) u ∙ t)) ∙ y;
        done = omega (arith, h.done, total_without probation_visits i rs l, visits_of r false p a);
        stamps = omega (arith, h.stamps);
      }
    where
      other : (r : Row) (k : NodeAddr) (x : Core) → k ≡ r.key → look r.key (cores w.state.rows) ≡ Some (core r) → look k (cores w.state.rows) ≡ Some x → core r ≡ x
      other r k x z a b = let c : look r.key (cores w.state.rows) ≡ Some x = subst (λ j. look j (cores w.state.rows) ≡ Some x) z b in cc

probation_le : (r : Row) → cond (in_probation r) 1 0 ≤ probation_visits r
unfolding probation_visits
probation_le r = go (at_place probation r) (stale r)
  where
    go : (a b : Bool) → cond a 1 0 ≤ cond a (cond b 2 1) 0
    go true true = omega arith
    go true false = omega arith
    go false b = omega arith

pub probation_twice : (r : Row) → probation_visits r ≤ 2 * cond (in_probation r) 1 0
unfolding probation_visits
probation_twice r = go (at_place probation r) (stale r)
  where
    go : (a b : Bool) → cond a (cond b 2 1) 0 ≤ 2 * cond a 1 0
    go true true = omega arith
    go true false = omega arith
    go false b = omega arith

none_count : (rs : List Row) → Every (λ r. at_place probation r ≡ false) rs → count_rows in_probation rs ≡ 0
unfolding total
none_count [] h = refl
none_count (r ∷ rs) h = rw h.0 (omega (arith, none_count rs h.1))

-- probation rows are fewer than b
pub record EvictedBelow (R b : ℕ) (s : State) (w : Walk) : Type 1 where
  pub evicted : ProbationEvicted R s w
  pub few : probation_count w.state < b

pub evict_evicted : (R b : ℕ) (s : State) (n : ℕ) (w : Walk) → 1 ≤ b → n ≡ total probation_visits w.state.rows → ProbationEvicted R s w → EvictedBelow R b s (evict_below b n w)
unfolding evict_below take_up
evict_evicted R b s zero w z e h = record { evicted = h; few = omega (arith, total_le (λ r. cond (in_probation r) 1 0) probation_visits probation_le w.state.rows) }
evict_evicted R b s (suc n) w z e h = by_cond (EvictedBelow R b s) (ltb (probation_count w.state) b)
    (λ d. record { evicted = h; few = ltb-true (probation_count w.state) b d })
    (λ d. by_maybe (EvictedBelow R b s) (lowest_stamp probation w.state.rows)
    (λ f. record { evicted = h; few = omega (arith, none_count w.state.rows (lowest_none probation w.state.rows f)) })
    (λ i f. let g = lowest_at probation w.state.rows i f in
    by_cond (λ (act : ℕ → State → State). EvictedBelow R b s (evict_below b n (take_up act i w))) (stale (row_at i w.state.rows))
    (λ a. let k = evict_restamp R s w i h g.inside g.there a in evict_evicted R b s n (take_up restamp i w) z (less (take_up restamp i w) (up restamp i w) k) k)
    (λ a. let k = evict_out R s w i h g.inside g.there a in evict_evicted R b s n (take_up take_out i w) z (less (take_up take_out i w) (up take_out i w) k) k)))
  where
    less : (x : Walk) → x.examined ≡ w.examined + 1 → ProbationEvicted R s x → n ≡ total probation_visits x.state.rows
    less x u k = omega (arith, h.done, k.done)

    up : (f : ℕ → State → State) (i : ℕ) (w : Walk) → (take_up f i w).examined ≡ w.examined + 1
    up f i w = refl

-- probation rows are fewer than Q
pub record ProbationRoomMade (R : ℕ) (s : State) (w : Walk) : Type 1 where
  pub evicted : ProbationEvicted R s w
  pub few : probation_count w.state < probation_limit w.state

pub probation_evict : (R : ℕ) (s : State) → Sound R s → ProbationRoomMade R s (make_probation_room s)
unfolding make_probation_room
probation_evict R s h =
    let u = evict_evicted R (probation_limit s) s (total probation_visits s.rows) (record { state = s; examined = 0 }) (omega arith) refl (start h) in
    record { evicted = u.evicted; few = omega (arith, u.few, ap probation_of u.evicted.limits) }
  where
    start : Sound R s → ProbationEvicted R s (record { state = s; examined = 0 })
    start h = record { sound = h; limits = refl; keeps = λ P g. g; spares = λ k x t g. g; done = omega arith; stamps = omega arith }

pub probation_seen : (R : ℕ) (s : State) → Sound R s → (make_probation_room s).examined ≤ 2 * probation_count s
probation_seen R s h = omega (arith, (probation_evict R s h).evicted.done, total_twice probation_visits (λ r. cond (in_probation r) 1 0) probation_twice s.rows)
