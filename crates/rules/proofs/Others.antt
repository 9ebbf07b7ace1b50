-- Placement on a sound state: it stays sound; what it does to other keys and to its own key's charge; what it charges; how much it examines.
use Prim.Native.Nat.{ℕ, ◌+◌, ◌-◌, ◌*◌, ◌<◌, ◌≤◌, max}
use mathlib.Core.Path.{◌≡◌, refl, sym, ◌∙◌, ap}
use Rattle.std.specs.Prelude.{Some}
use mathlib.Core.Bool.{Bool, true, false, cond, ◌||◌}
use lib.Dec.{ltb, leb, eqb, leb-zero}
use lib.ListN.{length}
use borrow.Author.Tests.{eq-eqb, ne_eqb, eqb-true, ltb-true, ltb-false, leb-true, leb-false}
use native.Mathlib.Omega.{arith}
use Rattle.types.specs.declared.coord.Path.{Path}
use Rattle.types.specs.declared.node_addr.NodeAddr.{NodeAddr}
use Rattle.types.specs.Paths.{as_written, path_weight, same_path, path_places}
use Rattle.types.specs.declared.placed.Funding.TheVariants.{Uncharged, Upto}
use Rattle.types.specs.declared.placed.HintOutcome.TheVariants.{Inserted, Rejected}
use Rattle.types.specs.declared.placed.Segment.TheVariants.{Main, Probation}
use Rattle.types.specs.declared.placed.Funding.{Funding}
use Rattle.types.specs.declared.placed.HintOutcome.{HintOutcome}
use Rattle.types.specs.declared.placed.Segment.{Segment}
use Rattle.types.specs.Values.{covers}
use Rattle.rules.specs.Cases.{Every}
use Rattle.rules.specs.Records.{Entry, Row, State, by_use, main_limit, probation, probation_limit, weight_limit}
use Rattle.rules.specs.Rows.{at_place, change_row, find, in_main, in_probation, insert_in_order, main_count, probation_count, row_at, total, with_only_rows, with_rows, without_row}
use Rattle.rules.specs.Sound.{from_verified}
use Rattle.rules.specs.Entries.{expired, new_entry, update, verified}
use Rattle.rules.specs.Room.{Room, Walk, file_new, make_probation_room, make_room, raised, refile, refiled, stamp, take_out}
use Rattle.rules.specs.Placement.{PlaceResult, grow, held_outcome, new_in_probation, new_without_room, place_held, place_hint, place_main, place_new, place_probation, place_result, promote, rejected, stays_verified}
use Rattle.rules.specs.Demand.{account_placed}
use Rattle.rules.proofs.Addresses.{contradiction}
use Rattle.rules.proofs.RowLists.{Core, Unique, by_cond, by_maybe, core, cores, every_at, every_change, every_insert, every_map, every_without, find_at, find_none, look, look_change, look_insert, look_without, of_cores, rising_unique, to_cores, total_without, total_without_le, without_gone}
use Rattle.rules.proofs.Limits.{limits_of, probation_of}
use Rattle.rules.proofs.SoundTest.{RowOk, Sound}
use Rattle.rules.proofs.Walks.{Roomed, main_small, room_roomed}
use Rattle.rules.proofs.Moves.{EntryOk, Gone, ProbationEvicted, file_main, file_probation, own_ok, probation_evict, probation_seen, ready, refile_sound, room_sound, take_out_sound}

-- ---- what a call that names k may do to a state, at the time now

pub record LeavesOthers (k : NodeAddr) (now : ℕ) (s s' : State) : Type 1 where
  pub limits : limits_of s' ≡ limits_of s
  pub others : (P : Core → Type 0) → Every (λ y. (y.key ≡ k → ⊥) → P y) (cores s.rows) → Every (λ y. (y.key ≡ k → ⊥) → P y) (cores s'.rows)
  pub spares : (j : NodeAddr) (x : Core) → (j ≡ k → ⊥) → verified now x.entry ≡ true → x.on_probation ≡ false → look j (cores s.rows) ≡ Some x → look j (cores s'.rows) ≡ Some x

pub leaves_trans : {k : NodeAddr} {now : ℕ} {c d e : State} → LeavesOthers k now c d → LeavesOthers k now d e → LeavesOthers k now c e
leaves_trans f g = record { limits = g.limits ∙ f.limits; others = λ P h. g.others P (f.others P h); spares = λ j x n a m h. g.spares j x n a m (f.spares j x n a m h) }

pub leaves_refl : {k : NodeAddr} {now : ℕ} (s : State) → LeavesOthers k now s s
leaves_refl s = record { limits = refl; others = λ P h. h; spares = λ j x n a m h. h }

pub room_leaves : {k : NodeAddr} {now w : ℕ} {s : State} {m : Room} → Roomed now w s m → LeavesOthers k now s m.state
room_leaves {k} h = record { limits = h.limits; others = λ P g. h.keeps (λ y. (y.key ≡ k → ⊥) → P y) g; spares = λ j x n a m g. h.spares j x a g }

pub evict_leaves : {k : NodeAddr} {now R : ℕ} {s : State} {w : Walk} → ProbationEvicted R s w → LeavesOthers k now s w.state
evict_leaves {k} h = record { limits = h.limits; others = λ P g. h.keeps (λ y. (y.key ≡ k → ⊥) → P y) g; spares = λ j x n a m g. h.spares j x m g }

pub take_out_leaves : {now : ℕ} (k : NodeAddr) (i : ℕ) (s : State) → (row_at i s.rows).key ≡ k → LeavesOthers k now s (take_out i s)
unfolding take_out with_only_rows
take_out_leaves k i s e = record {
  limits = refl;
  others = λ P g. to_cores (λ y. (y.key ≡ k → ⊥) → P y) (without_row i s.rows) (every_without (λ r. (r.key ≡ k → ⊥) → P (core r)) i s.rows (of_cores (λ y. (y.key ≡ k → ⊥) → P y) s.rows g));
  spares = λ j x n a m g. look_without j i s.rows (λ z. n (z ∙ e)) ∙ g;
}

pub file_leaves : {now : ℕ} (k : NodeAddr) (e : Entry) (w p : ℕ) (s : State) → LeavesOthers k now s (file_new k e w p s)
unfolding file_new
file_leaves k e w p s =
    let r : Row = record { key = k; entry = e; place = p; stamp_first = e.last_used; stamp_seq = s.seq + 1; weight = w } in
    record {
      limits = refl;
      others = λ P g. to_cores (λ y. (y.key ≡ k → ⊥) → P y) (insert_in_order r s.rows) (every_insert (λ x. (x.key ≡ k → ⊥) → P (core x)) r s.rows (λ z. absurd (z refl)) (of_cores (λ y. (y.key ≡ k → ⊥) → P y) s.rows g));
      spares = λ j x n a m g. look_insert j r n s.rows ∙ g;
    }

-- a row of key k changes in place
pub change_leaves : {now : ℕ} (k : NodeAddr) (f : Row → Row) (i : ℕ) (s s' : State) → (row_at i s.rows).key ≡ k → (f (row_at i s.rows)).key ≡ (row_at i s.rows).key → limits_of s' ≡ limits_of s → s'.rows ≡ change_row f i s.rows → LeavesOthers k now s s'
change_leaves k f i s s' e g m q = record {
  limits = m;
  others = λ P h. rw q (to_cores (λ y. (y.key ≡ k → ⊥) → P y) (change_row f i s.rows) (every_change (λ r. (r.key ≡ k → ⊥) → P (core r)) f i s.rows (λ a z. absurd (z (g ∙ e))) (of_cores (λ y. (y.key ≡ k → ⊥) → P y) s.rows h)));
  spares = λ j x n a b h. rw q (look_change j f i s.rows (λ z. n (z ∙ e)) g ∙ h);
}

pub refile_leaves : {now : ℕ} (k : NodeAddr) (e : Entry) (w i : ℕ) (s : State) → (row_at i s.rows).key ≡ k → LeavesOthers k now s (refile e w i s)
unfolding refile stamp with_rows raised refiled
refile_leaves k e w i s h = change_leaves k (refiled (s.seq + 1) e w) i s (refile e w i s) h refl refl refl

-- ---- charges

-- the charge of a row
abbrev pub charge : Core → ℕ
charge y = cond y.on_probation 0 y.weight

abbrev pub Own : NodeAddr → ℕ → State → Type 0
Own k w s = Every (λ y. y.key ≡ k → charge y ≡ w) (cores s.rows)

pub take_out_gone : (k : NodeAddr) (i : ℕ) (s : State) → Unique (cores s.rows) → i < length s.rows → (row_at i s.rows).key ≡ k → Gone k (take_out i s)
unfolding take_out with_only_rows
take_out_gone k i s u l e = every_map (λ y z q. z (q ∙ sym e)) (cores (without_row i s.rows)) (without_gone i s.rows l u)

pub gone_own : (k : NodeAddr) (a : ℕ) (s : State) → Gone k s → Own k a s
gone_own k a s g = every_map (λ y z q. absurd (z q)) (cores s.rows) g

pub file_own : (k : NodeAddr) (e : Entry) (w p : ℕ) (s : State) (n : ℕ) → cond (eqb p 2) 0 w ≡ n → Gone k s → Own k n (file_new k e w p s)
unfolding file_new at_place
file_own k e w p s n h g =
    let r : Row = record { key = k; entry = e; place = p; stamp_first = e.last_used; stamp_seq = s.seq + 1; weight = w } in
    to_cores (λ y. y.key ≡ k → charge y ≡ n) (insert_in_order r s.rows) (every_insert (λ x. x.key ≡ k → charge (core x) ≡ n) r s.rows (λ q. h) (of_cores (λ y. y.key ≡ k → charge y ≡ n) s.rows (every_map (λ y z q. absurd (z q)) (cores s.rows) g)))

pub change_own : (k : NodeAddr) (a : ℕ) (f : Row → Row) (i : ℕ) (s s' : State) → (f (row_at i s.rows)).key ≡ (row_at i s.rows).key → charge (core (f (row_at i s.rows))) ≡ charge (core (row_at i s.rows)) → s'.rows ≡ change_row f i s.rows → Own k a s → Own k a s'
change_own k a f i s s' g c q h = rw q (to_cores (λ y. y.key ≡ k → charge y ≡ a) (change_row f i s.rows) (every_change (λ r. r.key ≡ k → charge (core r) ≡ a) f i s.rows (λ z e. c ∙ z (sym g ∙ e)) (of_cores (λ y. y.key ≡ k → charge y ≡ a) s.rows h)))

refiled_charge : (q : ℕ) (e : Entry) (w : ℕ) (r : Row) → (at_place probation r ≡ false → w ≡ r.weight) → charge (core (refiled q e w r)) ≡ charge (core r)
unfolding refiled in_main at_place
refiled_charge q e w r h = go (ltb r.place 2) refl (eqb r.place 2) refl h
  where
    go : (b : Bool) → ltb r.place 2 ≡ b → (c : Bool) → eqb r.place 2 ≡ c → (c ≡ false → w ≡ r.weight) → cond (eqb (cond b 0 r.place) 2) 0 w ≡ cond c 0 r.weight
    go true x true y h = absurd (let u = ltb-true r.place 2 x in let v = eqb-true r.place 2 y in let n : ⊥ = omega arith in n)
    go true x false y h = h refl
    go false x true y h = rw y
    go false x false y h = rw y (h refl)

pub refile_own : (k : NodeAddr) (a : ℕ) (e : Entry) (w i : ℕ) (s : State) → (at_place probation (row_at i s.rows) ≡ false → w ≡ (row_at i s.rows).weight) → Own k a s → Own k a (refile e w i s)
unfolding refile stamp with_rows raised refiled
refile_own k a e w i s h o = change_own k a (refiled (s.seq + 1) e w) i s (refile e w i s) refl (refiled_charge (s.seq + 1) e w (row_at i s.rows) h) refl o

-- ---- a placement from the state c

-- the rows of both segments
abbrev pub segment_rows : State → ℕ
segment_rows s = main_count s + probation_count s

pub record Kept (R : ℕ) (k : NodeAddr) (now : ℕ) (f : Funding) (a : ℕ) (c : State) (u : PlaceResult) : Type 1 where
  pub sound : Sound R u.state
  pub leaves : LeavesOthers k now c u.state
  pub own : Own k (account_placed u.placed.outcome u.placed.added_weight a) u.state
  pub paid : covers f u.placed.added_weight ≡ true
  pub seen : u.placed.examined ≤ 2 * segment_rows c
  pub stamps : u.state.seq ≤ c.seq + (u.placed.examined + 1)

-- the state s was reached from c, with n examined
pub record From (R : ℕ) (k : NodeAddr) (now : ℕ) (c s : State) (n : ℕ) : Type 1 where
  pub sound : Sound R s
  pub leaves : LeavesOthers k now c s
  pub seen : n + 2 * probation_count s ≤ 2 * segment_rows c
  pub stamps : s.seq ≤ c.seq + n

pub covers_zero : (f : Funding) → covers f 0 ≡ true
unfolding covers
covers_zero Uncharged = refl
covers_zero (Upto n) = leb-zero n

pub from_here : {R : ℕ} {k : NodeAddr} {now : ℕ} (c : State) → Sound R c → From R k now c c 0
from_here c h = record { sound = h; leaves = leaves_refl c; seen = omega arith; stamps = omega arith }

pub take_out_rows : (i : ℕ) (s : State) → segment_rows (take_out i s) ≤ segment_rows s
unfolding take_out with_only_rows
take_out_rows i s = omega (arith, total_without_le (λ r. cond (in_main r) 1 0) i s.rows, total_without_le (λ r. cond (in_probation r) 1 0) i s.rows)

pub take_out_seq : (i : ℕ) (s : State) → (take_out i s).seq ≡ s.seq
unfolding take_out with_only_rows
take_out_seq i s = refl

pub take_out_limits : (i : ℕ) (s : State) → limits_of (take_out i s) ≡ limits_of s
unfolding take_out with_only_rows
take_out_limits i s = refl

pub take_out_mains : (i : ℕ) (s : State) → main_count (take_out i s) ≤ main_count s
unfolding take_out with_only_rows
take_out_mains i s = total_without_le (λ r. cond (in_main r) 1 0) i s.rows

pub take_out_main : (i : ℕ) (s : State) → i < length s.rows → in_main (row_at i s.rows) ≡ true → main_count (take_out i s) + 1 ≡ main_count s
unfolding take_out with_only_rows
take_out_main i s l m = rw m at (total_without (λ r. cond (in_main r) 1 0) i s.rows l)

pub file_new_seq : (k : NodeAddr) (e : Entry) (w p : ℕ) (s : State) → (file_new k e w p s).seq ≡ s.seq + 1
unfolding file_new
file_new_seq k e w p s = refl

pub refile_seq : (e : Entry) (w i : ℕ) (s : State) → (refile e w i s).seq ≡ s.seq + 1
unfolding refile stamp with_rows raised
refile_seq e w i s = refl

pub room_from : {R : ℕ} {k : NodeAddr} {now : ℕ} (c d : State) (w : ℕ) → Sound R d → LeavesOthers k now c d → segment_rows d ≤ segment_rows c → d.seq ≤ c.seq → From R k now c (make_room now w d).state (make_room now w d).examined
room_from {R} {k} {now} c d w h a l q = let m = room_roomed now w d (ready h) in
    record { sound = room_sound R d h now w; leaves = leaves_trans a (room_leaves m); seen = omega (arith, m.seen, m.probations); stamps = omega (arith, m.stamps) }

pub room_gone : {R : ℕ} (k : NodeAddr) (now w : ℕ) (s : State) → Sound R s → Gone k s → Gone k (make_room now w s).state
room_gone k now w s h g = (room_roomed now w s (ready h)).keeps (λ y. y.key ≡ k → ⊥) g

module _ {R : ℕ} {k : NodeAddr} {now : ℕ} {f : Funding} {a : ℕ} (c : State) where
  filed_kept : (s : State) (n : ℕ) (o : HintOutcome) (added : ℕ) (g : Segment) (b : Bool) (e : Entry) (w p : ℕ) → LeavesOthers k now c s → n ≤ 2 * segment_rows c → s.seq ≤ c.seq + n → Gone k s → Sound R (file_new k e w p s) → cond (eqb p 2) 0 w ≡ account_placed o added a → covers f added ≡ true
      → Kept R k now f a c (place_result o added g b n (file_new k e w p s))
  unfolding place_result
  filed_kept s n o added g b e w p near few q gone ok own paid = record { sound = ok; leaves = leaves_trans near (file_leaves k e w p s); own = file_own k e w p s (account_placed o added a) own gone; paid = paid; seen = few; stamps = omega (arith, file_new_seq k e w p s) }

  refiled_kept : (o : HintOutcome) (added : ℕ) (g : Segment) (b : Bool) (e : Entry) (w i : ℕ) → (row_at i c.rows).key ≡ k → Sound R (refile e w i c) → (at_place probation (row_at i c.rows) ≡ false → w ≡ (row_at i c.rows).weight) → Own k a c → account_placed o added a ≡ a → covers f added ≡ true
      → Kept R k now f a c (place_result o added g b 0 (refile e w i c))
  unfolding place_result
  refiled_kept o added g b e w i key ok kept own books paid = record { sound = ok; leaves = refile_leaves k e w i c key; own = rw books (refile_own k a e w i c kept own); paid = paid; seen = omega arith; stamps = omega (arith, refile_seq e w i c) }

  rejected_kept : (s : State) (n : ℕ) (b : Bool) → From R k now c s n → Own k a s → Kept R k now f a c (rejected b n s)
  unfolding rejected place_result account_placed
  rejected_kept s n b h o = record { sound = h.sound; leaves = h.leaves; own = o; paid = covers_zero f; seen = omega (arith, h.seen); stamps = omega (arith, h.stamps) }

  probation_kept : (s : State) (n : ℕ) (b : Bool) (e : Entry) (w : ℕ) → From R k now c s n → Gone k s → from_verified e ≡ false → EntryOk e w → Kept R k now f a c (new_in_probation k e w b n s)
  unfolding new_in_probation account_placed
  probation_kept s n b e w h g v o =
      let q = make_probation_room s in
      let t = probation_evict R s h.sound in
      let u = t.evicted in
      let gone = u.keeps (λ y. y.key ≡ k → ⊥) g in
      filed_kept q.state (n + q.examined) Inserted 0 Probation b e w probation (leaves_trans h.leaves (evict_leaves u)) (omega (arith, h.seen, probation_seen R s h.sound)) (omega (arith, h.stamps, u.stamps)) gone (file_probation R k e w q.state u.sound gone t.few v o) refl (covers_zero f)

  without_kept : (g : Funding) (e : Entry) (w : ℕ) (m : Room) → g ≡ f → From R k now c m.state m.examined → Gone k m.state → from_verified e ≡ false → EntryOk e w → Kept R k now f a c (new_without_room g k e w m)
  unfolding new_without_room
  without_kept Uncharged e w m q h g v o = rejected_kept m.state m.examined false h (gone_own k a m.state g)
  without_kept (Upto n) e w m q h g v o = probation_kept m.state m.examined false e w h g v o

-- ---- paths and entries

pub record PathOk (p : Path) : Type 0 where
  pub long : 1 ≤ p.len
  pub short : p.len ≤ path_places

pub weight_ok : (p : Path) → PathOk p → path_weight p ≤ weight_limit
unfolding path_weight
weight_ok p h = omega (arith, h.short)

new_ok : (p : Path) (now ttl w : ℕ) → PathOk p → path_weight p ≤ w → w ≤ weight_limit → EntryOk (new_entry p now ttl) w
unfolding new_entry update as_written path_weight
new_ok p now ttl w h a b = record { source = omega arith; mtu_mark = omega arith; long = h.long; short = h.short; heavy = a; light = b; hinted = λ q. refl }

update_ok : (p : Path) (now ttl w : ℕ) (e : Entry) → e.mtu_mark ≤ 1 → PathOk p → path_weight p ≤ w → w ≤ weight_limit → EntryOk (update p now ttl e) w
unfolding update as_written path_weight
update_ok p now ttl w e m h a b = record { source = omega arith; mtu_mark = m; long = h.long; short = h.short; heavy = a; light = b; hinted = λ q. refl }

new_hint : (p : Path) (now ttl : ℕ) → from_verified (new_entry p now ttl) ≡ false
unfolding new_entry update
new_hint p now ttl = refl

update_hint : (p : Path) (now ttl : ℕ) (e : Entry) → from_verified (update p now ttl e) ≡ false
unfolding update
update_hint p now ttl e = refl

-- main has a row for what room was made for
pub made_free : {R : ℕ} (s : State) → Sound R s → (now w : ℕ) → (make_room now w s).made ≡ true → main_count (make_room now w s).state < main_limit R (make_room now w s).state
made_free s h now w e = let m = room_roomed now w s (ready h) in omega (arith, ap probation_of m.limits, m.few e, h.space)

-- ---- 2. a new key

place_new_kept : {R : ℕ} (k : NodeAddr) (p : Path) (now ttl : ℕ) (f : Funding) (a : ℕ) (c d : State) → PathOk p → Sound R d → LeavesOthers k now c d → segment_rows d ≤ segment_rows c → d.seq ≤ c.seq → Gone k d → Kept R k now f a c (place_new k p now ttl f d)
unfolding place_new account_placed
place_new_kept {R} k p now ttl f a c d po h near less q g =
    let w = path_weight p in
    let e = new_entry p now ttl in
    let m = make_room now w d in
    let o = new_ok p now ttl w po (omega arith) (weight_ok p po) in
    let from = room_from {R = R} {k = k} {now = now} c d w h near less q in
    let gone = room_gone k now w d h g in
    by_cond (Kept R k now f a c) (covers f w)
    (λ x. by_cond (Kept R k now f a c) m.made
    (λ y. filed_kept c m.state m.examined Inserted w Main false e w by_use from.leaves (omega (arith, from.seen)) from.stamps gone (file_main R k e w m.state from.sound gone (made_free d h now w y) o) refl x)
    (λ y. without_kept c f e w m refl from gone (new_hint p now ttl) o))
    (λ x. probation_kept c d 0 true e w (record { sound = h; leaves = near; seen = omega arith; stamps = omega arith }) g (new_hint p now ttl) o)

-- ---- held keys

held_books : (p : Path) (r : Row) (w a : ℕ) → account_placed (held_outcome p r) w a ≡ a + w
unfolding held_outcome account_placed
held_books p r w a = by_cond (λ o. account_placed o w a ≡ a + w) (same_path r.entry.path p) (λ e. refl) (λ e. refl)

pub own_at : (k : NodeAddr) (a i : ℕ) (s : State) → i < length s.rows → (row_at i s.rows).key ≡ k → Own k a s → charge (core (row_at i s.rows)) ≡ a
own_at k a i s l e o = every_at (λ r. r.key ≡ k → charge (core r) ≡ a) i s.rows l (of_cores (λ y. y.key ≡ k → charge y ≡ a) s.rows o) e

main_probation : (r : Row) → in_main r ≡ true → at_place probation r ≡ false
unfolding at_place
main_probation r m = ne_eqb r.place 2 (λ e. let z = main_small r m in let n : ⊥ = omega arith in n)

probation_main : (r : Row) → r.place ≤ 2 → in_main r ≡ false → at_place probation r ≡ true
unfolding at_place in_main
probation_main r l m = eq-eqb r.place 2 (omega (arith, ltb-false r.place 2 m))

module _ {R : ℕ} (k : NodeAddr) (p : Path) (now ttl : ℕ) (f : Funding) (a i : ℕ) (s : State) (po : PathOk p) (h : Sound R s) (l : i < length s.rows) (key : (row_at i s.rows).key ≡ k) (own : Own k a s) where
  held_ok : RowOk s.seq (row_at i s.rows)
  held_ok = every_at (RowOk s.seq) i s.rows l h.each

  out_sound : Sound R (take_out i s)
  out_sound = take_out_sound R i s h

  out_gone : Gone k (take_out i s)
  out_gone = take_out_gone k i s (rising_unique (cores s.rows) h.rising) l key

  out_from : (w : ℕ) → From R k now s (make_room now w (take_out i s)).state (make_room now w (take_out i s)).examined
  out_from w = room_from s (take_out i s) w out_sound (take_out_leaves k i s key) (take_out_rows i s) (omega (arith, take_out_seq i s))

  -- the row that was taken out left one free
  free_probation : (w : ℕ) → at_place probation (row_at i s.rows) ≡ true → probation_count (make_room now w (take_out i s)).state < probation_limit (make_room now w (take_out i s)).state
  unfolding take_out with_only_rows
  free_probation w t = let m = room_roomed now w (take_out i s) (ready out_sound) in
      let z : total (λ r. cond (in_probation r) 1 0) (without_row i s.rows) + 1 ≡ total (λ r. cond (in_probation r) 1 0) s.rows = rw t at (total_without (λ r. cond (in_probation r) 1 0) i s.rows l) in
      omega (arith, ap probation_of m.limits, m.probations, h.probations)

  pub free_main : (w : ℕ) → in_main (row_at i s.rows) ≡ true → main_count (make_room now w (take_out i s)).state < main_limit R (make_room now w (take_out i s)).state
  unfolding take_out with_only_rows
  free_main w t = let m = room_roomed now w (take_out i s) (ready out_sound) in
      let z : total (λ r. cond (in_main r) 1 0) (without_row i s.rows) + 1 ≡ total (λ r. cond (in_main r) 1 0) s.rows = rw t at (total_without (λ r. cond (in_main r) 1 0) i s.rows l) in
      omega (arith, ap probation_of m.limits, m.mains, h.mains)

  place_probation_kept : in_main (row_at i s.rows) ≡ false → Kept R k now f a s (place_probation k p now ttl f i s)
  unfolding place_probation promote
  place_probation_kept m =
      let r = row_at i s.rows in
      let w = max (path_weight p) r.weight in
      let e = update p now ttl r.entry in
      let o = held_outcome p r in
      let x = make_room now w (take_out i s) in
      let t = probation_main r held_ok.place m in
      let z : a ≡ 0 = sym (rw t at (own_at k a i s l key own)) in
      let ok = update_ok p now ttl w r.entry held_ok.mtu_mark po (omega arith) (omega (arith, weight_ok p po, held_ok.light)) in
      let from = out_from w in
      let gone = room_gone k now w (take_out i s) out_sound out_gone in
      by_cond (Kept R k now f a s) (covers f w)
      (λ q. by_cond (Kept R k now f a s) x.made
      (λ d. filed_kept s x.state x.examined o w Main false e w by_use from.leaves (omega (arith, from.seen)) from.stamps gone (file_main R k e w x.state from.sound gone (made_free (take_out i s) out_sound now w d) ok) (rw (held_books p r w a) (omega arith)) q)
      (λ d. filed_kept s x.state x.examined o 0 Probation false e w probation from.leaves (omega (arith, from.seen)) from.stamps gone (file_probation R k e w x.state from.sound gone (free_probation w t) (update_hint p now ttl r.entry) ok) (rw (held_books p r 0 a) (omega arith)) (covers_zero f)))
      (λ q. refiled_kept s o 0 Probation false e w i key (refile_sound R e w i s h l ok (λ y. update_hint p now ttl r.entry) (λ y. contradiction y m)) (λ y. contradiction t y) own (rw (held_books p r 0 a) (omega arith)) (covers_zero f))

  place_main_kept : (st : Bool) → in_main (row_at i s.rows) ≡ true → Kept R k now f a s (place_main k p now ttl f st i s)
  unfolding place_main grow rejected account_placed
  place_main_kept st m =
      let r = row_at i s.rows in
      let w = path_weight p in
      let e = update p now ttl r.entry in
      let o = held_outcome p r in
      let x = make_room now w (take_out i s) in
      let t = main_probation r m in
      let z : r.weight ≡ a = rw t at (own_at k a i s l key own) in
      let from = out_from w in
      let gone = room_gone k now w (take_out i s) out_sound out_gone in
      by_cond (Kept R k now f a s) (leb w r.weight)
      (λ q. refiled_kept s o 0 Main false e r.weight i key (refile_sound R e r.weight i s h l (update_ok p now ttl r.weight r.entry held_ok.mtu_mark po (leb-true w r.weight q) held_ok.light) (λ y. update_hint p now ttl r.entry) (λ y. refl)) (λ y. refl) own (rw (held_books p r 0 a) (omega arith)) (covers_zero f))
      (λ q. by_cond (Kept R k now f a s) (covers f (w - r.weight))
      (λ d. by_cond (Kept R k now f a s) (x.made || st)
      (λ y. filed_kept s x.state x.examined o (w - r.weight) Main false e w by_use from.leaves (omega (arith, from.seen)) from.stamps gone (file_main R k e w x.state from.sound gone (free_main w m) (update_ok p now ttl w r.entry held_ok.mtu_mark po (omega arith) (weight_ok p po))) (rw (held_books p r (w - r.weight) a) (omega (arith, leb-false w r.weight q))) d)
      (λ y. filed_kept s x.state x.examined Rejected 0 Main false r.entry r.weight by_use from.leaves (omega (arith, from.seen)) from.stamps gone (file_main R k r.entry r.weight x.state from.sound gone (free_main w m) (own_ok s.seq r held_ok)) z (covers_zero f)))
      (λ d. rejected_kept s s 0 true (from_here s h) own))

  place_held_kept : (st : Bool) → Kept R k now f a s (place_held k p now ttl f st i s)
  unfolding place_held
  place_held_kept st = by_cond (Kept R k now f a s) (stays_verified p now st (row_at i s.rows))
      (λ q. rejected_kept s s 0 false (from_here s h) own)
      (λ q. by_cond (Kept R k now f a s) (in_main (row_at i s.rows)) (λ m. place_main_kept st m) (λ m. place_probation_kept m))

pub place_hint_kept : {R : ℕ} (k : NodeAddr) (p : Path) (now ttl : ℕ) (f : Funding) (st : Bool) (a : ℕ) (s : State) → PathOk p → Sound R s → Own k a s → Kept R k now f a s (place_hint k p now ttl f st s)
unfolding place_hint
place_hint_kept {R} k p now ttl f st a s po h own =
    by_maybe (Kept R k now f a s) (find k s.rows)
    (λ e. place_new_kept k p now ttl f a s s po h (leaves_refl s) (omega arith) (omega arith) (find_none k s.rows e))
    (λ i e. let g = find_at k s.rows i e in
    by_cond (Kept R k now f a s) (expired now (row_at i s.rows).entry)
    (λ x. place_new_kept k p now ttl f a s (take_out i s) po (take_out_sound R i s h) (take_out_leaves k i s g.key) (take_out_rows i s) (omega (arith, take_out_seq i s)) (take_out_gone k i s (rising_unique (cores s.rows) h.rising) g.inside g.key))
    (λ x. place_held_kept k p now ttl f a i s po h g.inside g.key own st))
