-- Each call on a sound state: it stays sound; accounts, funding, and what it spares; stamps drawn and keys examined.
use Prim.Native.Nat.{ℕ, ◌+◌, ◌*◌, ◌<◌, ◌≤◌}
use mathlib.Core.Path.{◌≡◌, refl, sym, ◌∙◌, ap, subst}
use mathlib.Core.List.{List, []}
use Rattle.std.specs.Prelude.{Option, None, Some}
use mathlib.Core.Bool.{Bool, true, false, ◌&&◌, ◌||◌, not}
use lib.Dec.{ltb, leb, eqb, leb-zero}
use lib.ListN.{length}
use borrow.Author.Tests.{eq-eqb, eqb-false, ltb-false, leb-false, not-true}
use native.Mathlib.Omega.{arith}
use Rattle.types.specs.declared.coord.Path.{Path}
use Rattle.types.specs.declared.node_addr.NodeAddr.{NodeAddr}
use Rattle.types.specs.Addresses.{same_addr}
use Rattle.types.specs.Paths.{as_written, contains, path_weight, root_of, starts_at, path_places}
use Rattle.types.specs.Values.{covers}
use Rattle.rules.specs.Cases.{Every, maybe}
use Rattle.rules.specs.Records.{Entry, Row, State, by_use, main_limit, parked, verified_source}
use Rattle.rules.specs.Rows.{at_place, find, in_main, keep_rows, main_count, row_at, total, with_only_rows, with_rows}
use Rattle.rules.specs.Sound.{from_verified}
use Rattle.rules.specs.Entries.{drop_mtu, expired, mark_hint, mark_verified, new_entry, refresh, set_mtu, update, verified}
use Rattle.rules.specs.Room.{make_room, room_can_be_made, take_out}
use Rattle.rules.specs.Placement.{insert_verified, place_hint, verified_entry, without_key}
use Rattle.rules.specs.Lookups.{clear_path_mtu, demoted, get, holds, removed_entry, rewrite, sweep, touched, with_entry}
use Rattle.rules.specs.Statistics.{next_expiry, stats}
use Rattle.rules.specs.Calls.{Answer, Call, Clear, ClearPathMtu, Demote, Done, EntryRemoved, ExpiryGiven, Get, GetAndTouch, Insert, InsertFunded, InsertStated, InsertVerified, InsertVerifiedWithPathMtu, InsertWithTtl, InvalidateOtherRoots, InvalidateViaNode, KeyHeld, NextExpiry, PathFound, PurgeExpired, Refused, Remove, Stats, StatsGiven, VerifiedWrite, charge_of, examined_of, funding_of, key_named, path_given, sweep_matches, time_given, verified_write, was_refused}
use Rattle.rules.specs.Refusals.{Step, bad_path, gives, hinted, key_in_main, no_place_for, perform, sweeps, verifies}
use Rattle.rules.specs.Lists.{Event}
use Rattle.rules.specs.Demand.{account_after, accounts_after, expiry_of, must_spare, names_other, not_past, verified_until_of, within_funding}
use Rattle.rules.proofs.Addresses.{contradiction, same_false, same_true}
use Rattle.rules.proofs.RowLists.{Core, Found, by_cond, by_maybe, core, cores, every_all, every_at, every_both, every_keep, every_map, find_at, find_none, look, look_keep, of_cores, rising_unique, to_cores}
use Rattle.rules.proofs.Limits.{limits_of, probation_of, ttl_of}
use Rattle.rules.proofs.SoundTest.{RowOk, Sound, and_left, and_right}
use Rattle.rules.proofs.Walks.{room_roomed}
use Rattle.rules.proofs.Moves.{EntryOk, Gone, change_sound, file_main, keep_sound, only_sound, ready, refile_sound, take_out_sound}
use Rattle.rules.proofs.Others.{LeavesOthers, Own, PathOk, change_leaves, change_own, charge, covers_zero, file_leaves, file_own, file_new_seq, gone_own, leaves_refl, leaves_trans, made_free, place_hint_kept, refile_leaves, refile_own, refile_seq, room_from, room_gone, segment_rows, take_out_gone, take_out_leaves, take_out_main, take_out_mains, take_out_limits, take_out_rows, take_out_seq, weight_ok}
use Rattle.rules.proofs.Refused.{Allowed}

abbrev pub Accounted : (NodeAddr → ℕ) → State → Type 0
Accounted a s = Every (λ y. a y.key ≡ charge y) (cores s.rows)

-- the time that a call gives, 0 where it gives none
abbrev pub clock : Call → ℕ
clock q = maybe (time_given q) 0 (λ t. t)

abbrev pub event : Call → Step → Event
event q t = record { call = q; answer = t.answer }

-- the row that a verified insert fixed
pub record Fixed (ttl : ℕ) (v : VerifiedWrite) (x : Core) : Type 0 where
  pub main : x.on_probation ≡ false
  pub source : x.entry.source ≡ verified_source
  pub path : x.entry.path ≡ as_written v.path
  pub expires_at : x.entry.expires_at ≡ expiry_of ttl v
  pub verified_until : x.entry.verified_until ≡ verified_until_of v

pub record DemandStep (a : NodeAddr → ℕ) (s : State) (q : Call) (t : Step) : Type 1 where
  pub default_ttl : t.state.default_ttl ≡ s.default_ttl
  pub accounted : Accounted (accounts_after (event q t) a) t.state
  pub funded : within_funding (event q t) ≡ true
  pub spared : (ttl : ℕ) (v : VerifiedWrite) (x : Core) → Fixed ttl v x → must_spare ttl v (event q t) ≡ true → look v.key (cores s.rows) ≡ Some x → look v.key (cores t.state.rows) ≡ Some x

pub record CallKeeps (R : ℕ) (a : NodeAddr → ℕ) (s : State) (q : Call) (t : Step) : Type 1 where
  pub demand : DemandStep a s q t
  pub sound : Sound R t.state
  pub stamps : t.state.seq ≤ s.seq + (examined_of t.answer + 1)
  pub seen : examined_of t.answer ≤ 2 * segment_rows s

-- ---- nothing changes: refusals and reads

-- an answer that charges nothing, examined nothing and leaves its key's account
record Quiet (q : Call) (m : Answer) : Type 0 where
  account : (a : ℕ) → account_after q m a ≡ a
  charge : charge_of m ≡ 0
  examined : examined_of m ≡ 0

demand_same : (a : NodeAddr → ℕ) (s : State) (q : Call) (m : Answer) → Quiet q m → Accounted a s → DemandStep a s q (gives m s)
unfolding gives accounts_after within_funding
demand_same a s q m e h = record {
  default_ttl = refl;
  accounted = every_map (λ y z. by_maybe (λ n. n ≡ charge y) (key_named q) (λ d. z) (λ k d. by_cond (λ n. n ≡ charge y) (same_addr y.key k) (λ t. e.account (a y.key) ∙ z) (λ t. z))) (cores s.rows) h;
  funded = subst (λ n. covers (funding_of q) n ≡ true) (sym e.charge) (covers_zero (funding_of q));
  spared = λ ttl v x d e s. s;
}

pub demand_refused : (n : ℕ) (a : NodeAddr → ℕ) (s : State) (q : Call) → Accounted a s → DemandStep a s q (gives (Refused n) s)
unfolding account_after charge_of examined_of
demand_refused n a s q h = demand_same a s q (Refused n) (record { account = λ a. refl; charge = refl; examined = refl }) h

keeps_same : (R : ℕ) (a : NodeAddr → ℕ) (s : State) (q : Call) (m : Answer) → Quiet q m → Sound R s → Accounted a s → CallKeeps R a s q (gives m s)
unfolding gives
keeps_same R a s q m e h c = record { demand = demand_same a s q m e c; sound = h; stamps = omega (arith, e.examined); seen = omega (arith, e.examined) }

-- ---- a done call that names k

not_past_lem : (u : ℕ) (q : Call) → not_past u q ≡ true → leb (clock q) u ≡ true
unfolding not_past
not_past_lem u q h = go (time_given q) h
  where
    go : (o : Option ℕ) → maybe o true (λ t. leb t u) ≡ true → leb (maybe o 0 (λ t. t)) u ≡ true
    go None h = leb-zero u
    go (Some t) h = h

fixed_verified : (ttl now : ℕ) (v : VerifiedWrite) (x : Core) → Fixed ttl v x → leb now (verified_until_of v) ≡ true → verified now x.entry ≡ true
unfolding verified
fixed_verified ttl now v x d h = rw (d.source, d.verified_until) h

demand_named : (a : NodeAddr → ℕ) (s : State) (q : Call) (t : Step) (k : NodeAddr) → key_named q ≡ Some k → was_refused t.answer ≡ false
    → LeavesOthers k (clock q) s t.state → Own k (account_after q t.answer (a k)) t.state → within_funding (event q t) ≡ true → Accounted a s → DemandStep a s q t
unfolding accounts_after must_spare names_other
demand_named a s q t k named not_refused leaves own paid h = record {
  default_ttl = ap ttl_of leaves.limits;
  accounted = every_both (λ y f g. rw named (by_cond (λ n. n ≡ charge y) (same_addr y.key k)
      (λ e. let z = same_true y.key k e in rw z (sym (g z)))
      (λ e. f (same_false y.key k e))))
      (cores t.state.rows) (leaves.others (λ y. a y.key ≡ charge y) (every_map (λ y e z. e) (cores s.rows) h)) own;
  funded = paid;
  spared = λ ttl v x d e l.
      let m : Bool = not (sweep_matches q (as_written v.path) (expiry_of ttl v)) in
      let e2 : not (same_addr v.key k) && (not_past (verified_until_of v) q && m) ≡ true = rw (not_refused, named) at e in
      let e3 = and_right (not (same_addr v.key k)) (not_past (verified_until_of v) q && m) e2 in
      leaves.spares v.key x (same_false v.key k (not-true (same_addr v.key k) (and_left (not (same_addr v.key k)) (not_past (verified_until_of v) q && m) e2)))
      (fixed_verified ttl (clock q) v x d (not_past_lem (verified_until_of v) q (and_left (not_past (verified_until_of v) q) m e3))) d.main l;
}

pub own_of : (a : NodeAddr → ℕ) (s : State) (k : NodeAddr) → Accounted a s → Own k (a k) s
own_of a s k h = every_map (λ y e q. sym e ∙ ap a q) (cores s.rows) h

-- ---- hints

pub path_ok : (p : Path) → bad_path p ≡ false → PathOk p
unfolding bad_path
path_ok p h = go (eqb p.len 0) refl (ltb path_places p.len) refl h
  where
    go : (a : Bool) → eqb p.len 0 ≡ a → (b : Bool) → ltb path_places p.len ≡ b → a || b ≡ false → PathOk p
    go true e b d g = contradiction {b = true} refl g
    go false e true d g = contradiction {b = true} refl g
    go false e false d g = record { long = omega (arith, eqb-false p.len 0 e); short = omega (arith, ltb-false path_places p.len d) }

keeps_hint : (R : ℕ) (a : NodeAddr → ℕ) (s : State) (q : Call) (k : NodeAddr) (p : Path) (ttl : ℕ) (st : Bool) → key_named q ≡ Some k → bad_path p ≡ false → Sound R s → Accounted a s → CallKeeps R a s q (hinted (place_hint k p (clock q) ttl (funding_of q) st s))
unfolding hinted gives within_funding examined_of was_refused charge_of account_after
keeps_hint R a s q k p ttl st named e h c =
    let u = place_hint_kept k p (clock q) ttl (funding_of q) st (a k) s (path_ok p e) h (own_of a s k c) in
    record { demand = demand_named a s q _ k named refl u.leaves u.own u.paid c; sound = u.sound; stamps = u.stamps; seen = u.seen }

-- ---- verified inserts

pub record Out (R : ℕ) (k : NodeAddr) (now : ℕ) (s d : State) : Type 1 where
  pub sound : Sound R d
  pub leaves : LeavesOthers k now s d
  pub gone : Gone k d
  pub rows : segment_rows d ≤ segment_rows s
  pub mains : main_count d ≤ main_count s
  pub limits : limits_of d ≡ limits_of s
  pub seq : d.seq ≡ s.seq

taken_out : (R : ℕ) (k : NodeAddr) (now i : ℕ) (s : State) → Sound R s → Found k s.rows i → Out R k now s (take_out i s)
taken_out R k now i s h g = record { sound = take_out_sound R i s h; leaves = take_out_leaves k i s g.key; gone = take_out_gone k i s (rising_unique (cores s.rows) h.rising) g.inside g.key; rows = take_out_rows i s; mains = take_out_mains i s; limits = take_out_limits i s; seq = take_out_seq i s }

pub without_key_out : (R : ℕ) (k : NodeAddr) (now : ℕ) (s : State) → Sound R s → Out R k now s (without_key k s)
unfolding without_key
without_key_out R k now s h = by_maybe (Out R k now s) (find k s.rows)
    (λ e. record { sound = h; leaves = leaves_refl s; gone = find_none k s.rows e; rows = omega arith; mains = omega arith; limits = refl; seq = refl })
    (λ i e. taken_out R k now i s h (find_at k s.rows i e))

room_free : {R : ℕ} (d : State) (now w : ℕ) → Sound R d → main_count d < main_limit R d → main_count (make_room now w d).state < main_limit R (make_room now w d).state
room_free d now w h l = let m = room_roomed now w d (ready h) in omega (arith, ap probation_of m.limits, m.mains)

main_out : (R : ℕ) (k : NodeAddr) (s : State) → Sound R s → key_in_main k s ≡ true → main_count (without_key k s) < main_limit R (without_key k s)
unfolding key_in_main without_key
main_out R k s h e = go (find k s.rows) refl e
  where
    go : (o : Option ℕ) → find k s.rows ≡ o → maybe o false (λ i. in_main (row_at i s.rows)) ≡ true → main_count (maybe o s (λ i. take_out i s)) < main_limit R (maybe o s (λ i. take_out i s))
    go None q m = contradiction {b = false} m refl
    go (Some i) q m = omega (arith, ap probation_of (take_out_limits i s), take_out_main i s (find_at k s.rows i q).inside m, h.mains)

-- number 4 is given exactly where no main row is left for the key
pub verified_free : (R : ℕ) (k : NodeAddr) (p : Path) (now : ℕ) (s : State) → Sound R s → no_place_for R s (record { key = k; path = p; time = now }) ≡ false → main_count (make_room now (path_weight p) (without_key k s)).state < main_limit R (make_room now (path_weight p) (without_key k s)).state
unfolding no_place_for
verified_free R k p now s h f = go (key_in_main k s) refl (leb (main_limit R s) (main_count s)) refl (room_can_be_made now (path_weight p) (without_key k s)) refl f
  where
    out : Out R k now s (without_key k s)
    out = without_key_out R k now s h

    held : key_in_main k s ≡ true → main_count (without_key k s) < main_limit R (without_key k s)
    held e = main_out R k s h e

    go : (a : Bool) → key_in_main k s ≡ a → (b : Bool) → leb (main_limit R s) (main_count s) ≡ b → (c : Bool) → room_can_be_made now (path_weight p) (without_key k s) ≡ c → not a && (b && not c) ≡ false → main_count (make_room now (path_weight p) (without_key k s)).state < main_limit R (make_room now (path_weight p) (without_key k s)).state
    go true e b x c y g = room_free (without_key k s) now (path_weight p) out.sound (held e)
    go false e true x true y g = made_free (without_key k s) out.sound now (path_weight p) ((room_roomed now (path_weight p) (without_key k s) (ready out.sound)).exact ∙ y)
    go false e true x false y g = contradiction {b = true} refl g
    go false e false x c y g = room_free (without_key k s) now (path_weight p) out.sound (omega (arith, ap probation_of out.limits, out.mains, leb-false (main_limit R s) (main_count s) x))

verified_is : (k : NodeAddr) (p : Path) (now : ℕ) (mtu : Option ℕ) (s : State) → from_verified (verified_entry k p now mtu s) ≡ true
unfolding verified_entry mark_verified set_mtu
verified_is k p now mtu s = by_maybe (λ (e : Entry). from_verified e ≡ true) mtu (λ e. refl) (λ m e. refl)

pub verified_fixed : (k : NodeAddr) (p : Path) (now w : ℕ) (mtu : Option ℕ) (s : State) → Fixed s.default_ttl (record { key = k; path = p; time = now }) (record { key = k; entry = verified_entry k p now mtu s; weight = w; on_probation = false })
unfolding verified_entry mark_verified new_entry update set_mtu expiry_of verified_until_of
verified_fixed k p now w mtu s = go mtu (find k s.rows)
  where
    go : (mtu o : Option ℕ) → Fixed s.default_ttl (record { key = k; path = p; time = now }) (record { key = k; entry = maybe mtu (mark_verified now (maybe o (new_entry p now s.default_ttl) (λ i. update p now s.default_ttl (row_at i s.rows).entry))) (λ m. set_mtu m (mark_verified now (maybe o (new_entry p now s.default_ttl) (λ i. update p now s.default_ttl (row_at i s.rows).entry)))); weight = w; on_probation = false })
    go None None = record { main = refl; source = refl; path = refl; expires_at = refl; verified_until = refl }
    go None (Some i) = record { main = refl; source = refl; path = refl; expires_at = refl; verified_until = refl }
    go (Some m) None = record { main = refl; source = refl; path = refl; expires_at = refl; verified_until = refl }
    go (Some m) (Some i) = record { main = refl; source = refl; path = refl; expires_at = refl; verified_until = refl }

verified_ok : (R : ℕ) (k : NodeAddr) (p : Path) (now : ℕ) (mtu : Option ℕ) (s : State) → PathOk p → Sound R s → EntryOk (verified_entry k p now mtu s) (path_weight p)
unfolding verified_entry mark_verified new_entry update set_mtu as_written path_weight
verified_ok R k p now mtu s po h = go mtu (find k s.rows) refl
  where
    ok : (e : Entry) → e.source ≡ 0 → e.mtu_mark ≤ 1 → e.path ≡ as_written p → EntryOk e (path_weight p)
    ok e a b c = record { source = omega arith; mtu_mark = b; long = rw c po.long; short = rw c po.short; heavy = rw c (omega arith); light = weight_ok p po; hinted = λ q. contradiction (eq-eqb e.source 0 a) q }

    go : (mtu o : Option ℕ) → find k s.rows ≡ o → EntryOk (maybe mtu (mark_verified now (maybe o (new_entry p now s.default_ttl) (λ i. update p now s.default_ttl (row_at i s.rows).entry))) (λ m. set_mtu m (mark_verified now (maybe o (new_entry p now s.default_ttl) (λ i. update p now s.default_ttl (row_at i s.rows).entry))))) (path_weight p)
    go None None e = ok _ refl (omega arith) refl
    go None (Some i) e = ok _ refl (every_at (RowOk s.seq) i s.rows (find_at k s.rows i e).inside h.each).mtu_mark refl
    go (Some m) None e = ok _ refl (omega arith) refl
    go (Some m) (Some i) e = ok _ refl (omega arith) refl

keeps_verify : (R : ℕ) (a : NodeAddr → ℕ) (s : State) (q : Call) (k : NodeAddr) (p : Path) (mtu : Option ℕ) → key_named q ≡ Some k → path_given q ≡ Some p → bad_path p ≡ false → no_place_for R s (record { key = k; path = p; time = clock q }) ≡ false → Sound R s → Accounted a s → CallKeeps R a s q (verifies k p (clock q) mtu s)
unfolding verifies gives within_funding examined_of was_refused charge_of account_after insert_verified
keeps_verify R a s q k p mtu named given e f h c =
    let now = clock q in
    let w = path_weight p in
    let b = without_key k s in
    let o = without_key_out R k now s h in
    let m = make_room now w b in
    let from = room_from {R = R} {k = k} {now = now} s b w o.sound o.leaves o.rows (omega (arith, o.seq)) in
    let gone = room_gone k now w b o.sound o.gone in
    let v = verified_entry k p now mtu s in
    record {
      demand = demand_named a s q _ k named refl (leaves_trans from.leaves (file_leaves k v w by_use m.state)) (file_own k v w by_use m.state _ (weighs (path_given q) given) gone) (covers_zero (funding_of q)) c;
      sound = file_main R k v w m.state from.sound gone (verified_free R k p now s h f) (verified_ok R k p now mtu s (path_ok p e) h);
      stamps = omega (arith, from.stamps, file_new_seq k v w by_use m.state);
      seen = omega (arith, from.seen);
    }
  where
    weighs : (o : Option Path) → o ≡ Some p → path_weight p ≡ maybe o (a k) path_weight
    weighs o e = rw e

-- ---- lookups

-- a done call that draws no stamp, or one
keeps_done : (R : ℕ) (a : NodeAddr → ℕ) (s d : State) (q : Call) (k : NodeAddr) (m : Answer) → key_named q ≡ Some k → was_refused m ≡ false → Quiet q m → LeavesOthers k (clock q) s d → Own k (a k) d → Sound R d → d.seq ≤ s.seq + 1 → Accounted a s → CallKeeps R a s q (gives m d)
unfolding gives within_funding
keeps_done R a s d q k m named done e leaves own h l c = record {
  demand = demand_named a s q (record { answer = m; state = d }) k named done leaves (rw (e.account (a k)) own) (subst (λ n. covers (funding_of q) n ≡ true) (sym e.charge) (covers_zero (funding_of q))) c;
  sound = h;
  stamps = omega arith;
  seen = omega (arith, e.examined);
}

-- an entry rewritten in place
rewrite_sound : (R : ℕ) (f : Entry → Entry) (i : ℕ) (s : State) → Sound R s → i < length s.rows → (RowOk s.seq (row_at i s.rows) → RowOk s.seq (with_entry (f (row_at i s.rows).entry) (row_at i s.rows))) → Sound R (rewrite f i s)
unfolding rewrite with_rows with_entry in_main at_place
rewrite_sound R f i s h l g = change_sound R s (rewrite f i s) (λ r. with_entry (f r.entry) r) i h l (λ r. refl) (record { ok = g (every_at (RowOk s.seq) i s.rows l h.each); mainly = refl; on_probation = refl; load = λ q. refl }) refl refl refl refl (omega arith)

rewrite_leaves : {now : ℕ} (k : NodeAddr) (f : Entry → Entry) (i : ℕ) (s : State) → (row_at i s.rows).key ≡ k → LeavesOthers k now s (rewrite f i s)
unfolding rewrite with_rows with_entry
rewrite_leaves k f i s e = change_leaves k (λ r. with_entry (f r.entry) r) i s (rewrite f i s) e refl refl refl

rewrite_own : (k : NodeAddr) (a : ℕ) (f : Entry → Entry) (i : ℕ) (s : State) → Own k a s → Own k a (rewrite f i s)
unfolding rewrite with_rows with_entry at_place
rewrite_own k a f i s o = change_own k a (λ r. with_entry (f r.entry) r) i s (rewrite f i s) refl refl refl o

rewrite_seq : (f : Entry → Entry) (i : ℕ) (s : State) → (rewrite f i s).seq ≡ s.seq
unfolding rewrite with_rows
rewrite_seq f i s = refl

-- what a call that names k leaves
record Left (R : ℕ) (k : NodeAddr) (now a : ℕ) (s d : State) : Type 1 where
  sound : Sound R d
  leaves : LeavesOthers k now s d
  own : Own k a d
  stamps : d.seq ≤ s.seq + 1

same_left : {R : ℕ} {k : NodeAddr} {now a : ℕ} (s : State) → Sound R s → Own k a s → Left R k now a s s
same_left s h o = record { sound = h; leaves = leaves_refl s; own = o; stamps = omega arith }

out_left : {R : ℕ} {k : NodeAddr} {now a : ℕ} (s d : State) → Out R k now s d → Left R k now a s d
out_left {R} {k} {now} {a} s d o = record { sound = o.sound; leaves = o.leaves; own = gone_own k a d o.gone; stamps = omega (arith, o.seq) }

rewrite_left : {R : ℕ} {k : NodeAddr} {now a : ℕ} (f : Entry → Entry) (i : ℕ) (s : State) → Sound R s → Own k a s → Found k s.rows i → (RowOk s.seq (row_at i s.rows) → RowOk s.seq (with_entry (f (row_at i s.rows).entry) (row_at i s.rows))) → Left R k now a s (rewrite f i s)
rewrite_left {R} {k} {now} {a} f i s h o g ok = record { sound = rewrite_sound R f i s h g.inside ok; leaves = rewrite_leaves k f i s g.key; own = rewrite_own k a f i s o; stamps = omega (arith, rewrite_seq f i s) }

refresh_ok : (q now ttl : ℕ) (r : Row) → RowOk q r → RowOk q (with_entry (refresh now ttl r.entry) r)
unfolding with_entry refresh at_place
refresh_ok q now ttl r o = record { place = o.place; source = o.source; mtu_mark = o.mtu_mark; long = o.long; short = o.short; heavy = o.heavy; light = o.light; stamped = o.stamped; hinted = o.hinted; on_probation = o.on_probation; parked = o.parked }

drop_mtu_ok : (q : ℕ) (r : Row) → RowOk q r → RowOk q (with_entry (drop_mtu r.entry) r)
unfolding with_entry drop_mtu at_place
drop_mtu_ok q r o = record { place = o.place; source = o.source; mtu_mark = omega arith; long = o.long; short = o.short; heavy = o.heavy; light = o.light; stamped = o.stamped; hinted = o.hinted; on_probation = o.on_probation; parked = o.parked }

mark_hint_ok : (q : ℕ) (r : Row) → at_place parked r ≡ false → RowOk q r → RowOk q (with_entry (mark_hint r.entry) r)
unfolding with_entry mark_hint at_place
mark_hint_ok q r n o = record { place = o.place; source = omega arith; mtu_mark = o.mtu_mark; long = o.long; short = o.short; heavy = o.heavy; light = o.light; stamped = o.stamped; hinted = λ z. refl; on_probation = λ z. refl; parked = λ z. contradiction z n }

hint_entry : (q : ℕ) (r : Row) → RowOk q r → EntryOk (mark_hint r.entry) r.weight
unfolding mark_hint
hint_entry q r o = record { source = omega arith; mtu_mark = o.mtu_mark; long = o.long; short = o.short; heavy = o.heavy; light = o.light; hinted = λ z. refl }

mark_hint_hint : (e : Entry) → from_verified (mark_hint e) ≡ false
unfolding mark_hint
mark_hint_hint e = refl

touched_left : {R : ℕ} (k : NodeAddr) (now a : ℕ) (s : State) → Sound R s → Own k a s → Left R k now a s (touched k now s)
unfolding touched
touched_left {R} k now a s h o = by_maybe (Left R k now a s) (find k s.rows) (λ e. same_left s h o) (λ i e. let g = find_at k s.rows i e in
    by_cond (Left R k now a s) (expired now (row_at i s.rows).entry) (λ x. out_left s (take_out i s) (taken_out R k now i s h g)) (λ x. rewrite_left (refresh now s.default_ttl) i s h o g (refresh_ok s.seq now s.default_ttl (row_at i s.rows))))

demoted_left : {R : ℕ} (k : NodeAddr) (now a : ℕ) (s : State) → Sound R s → Own k a s → Left R k now a s (demoted k s)
unfolding demoted
demoted_left {R} k now a s h o = by_maybe (Left R k now a s) (find k s.rows) (λ e. same_left s h o) (λ i e.
    let g = find_at k s.rows i e in
    let r = row_at i s.rows in
    let ok = every_at (RowOk s.seq) i s.rows g.inside h.each in
    by_cond (Left R k now a s) (at_place parked r)
    (λ x. record { sound = refile_sound R (mark_hint r.entry) r.weight i s h g.inside (hint_entry s.seq r ok) (λ y. mark_hint_hint r.entry) (λ y. refl); leaves = refile_leaves k (mark_hint r.entry) r.weight i s g.key; own = refile_own k a (mark_hint r.entry) r.weight i s (λ y. refl) o; stamps = omega (arith, refile_seq (mark_hint r.entry) r.weight i s) })
    (λ x. rewrite_left mark_hint i s h o g (mark_hint_ok s.seq r x)))

clear_path_mtu_left : {R : ℕ} (k : NodeAddr) (now a : ℕ) (s : State) → Sound R s → Own k a s → Left R k now a s (clear_path_mtu k s)
unfolding clear_path_mtu
clear_path_mtu_left {R} k now a s h o = by_maybe (Left R k now a s) (find k s.rows) (λ e. same_left s h o) (λ i e. rewrite_left drop_mtu i s h o (find_at k s.rows i e) (drop_mtu_ok s.seq (row_at i s.rows)))

keeps_left : (R : ℕ) (a : NodeAddr → ℕ) (s d : State) (q : Call) (k : NodeAddr) (m : Answer) → key_named q ≡ Some k → was_refused m ≡ false → Quiet q m → Left R k (clock q) (a k) s d → Accounted a s → CallKeeps R a s q (gives m d)
keeps_left R a s d q k m named done e l c = keeps_done R a s d q k m named done e l.leaves l.own l.sound l.stamps c

-- ---- sweeps

only_seq : (rs : List Row) (s : State) → (with_only_rows rs s).seq ≡ s.seq
unfolding with_only_rows
only_seq rs s = refl

keeps_sweep : (R : ℕ) (a : NodeAddr → ℕ) (s : State) (q : Call) (m : Entry → Bool) → key_named q ≡ None
    → ((ttl : ℕ) (v : VerifiedWrite) (x : Core) → Fixed ttl v x → sweep_matches q (as_written v.path) (expiry_of ttl v) ≡ false → m x.entry ≡ false)
    → Sound R s → Accounted a s → CallKeeps R a s q (sweeps m s)
unfolding sweeps sweep gives with_only_rows accounts_after within_funding was_refused charge_of examined_of must_spare names_other
keeps_sweep R a s q m named f h c =
    let p : Row → Bool = λ r. not (m r.entry) in
    record {
      demand = record {
        default_ttl = refl;
        accounted = every_map (λ y e. rw named e) (cores (keep_rows p s.rows)) (to_cores (λ y. a y.key ≡ charge y) (keep_rows p s.rows) (every_keep (λ r. a r.key ≡ charge (core r)) p s.rows (of_cores (λ y. a y.key ≡ charge y) s.rows c)));
        funded = covers_zero (funding_of q);
        spared = λ ttl v x d e l.
            let w = sweep_matches q (as_written v.path) (expiry_of ttl v) in
            let e2 : not_past (verified_until_of v) q && not w ≡ true = rw named at e in
            let z : m x.entry ≡ false = f ttl v x d (not-true w (and_right (not_past (verified_until_of v) q) (not w) e2)) in
            look_keep v.key x p s.rows (every_all (λ r g. subst (λ (u : Core). not (m u.entry) ≡ true) (sym g) (rw z)) s.rows) l;
      };
      sound = keep_sound R s p h;
      stamps = omega arith;
      seen = omega arith;
    }

keeps_clear : (R : ℕ) (a : NodeAddr → ℕ) (s : State) → Sound R s → Accounted a s → CallKeeps R a s Clear (gives Done (with_only_rows [] s))
unfolding gives with_only_rows accounts_after within_funding was_refused charge_of examined_of must_spare names_other not_past key_named time_given sweep_matches total
keeps_clear R a s h c = record {
  demand = record { default_ttl = refl; accounted = tt; funded = covers_zero (funding_of Clear); spared = λ ttl v x d e l. contradiction {b = false} e refl };
  sound = only_sound R s [] h (omega arith) (omega arith) tt tt;
  stamps = omega arith;
  seen = omega arith;
}

-- EVERY CALL THAT IS NOT REFUSED
pub keeps_perform : (R : ℕ) (a : NodeAddr → ℕ) (s : State) (q : Call) → Allowed R s q → Sound R s → Accounted a s → CallKeeps R a s q (perform s q)
unfolding perform key_named path_given time_given funding_of verified_write sweep_matches was_refused charge_of examined_of account_after expired
keeps_perform R a s (Insert k p t) l h c = keeps_hint R a s (Insert k p t) k p s.default_ttl false refl l.path h c
keeps_perform R a s (InsertWithTtl k p t ttl) l h c = keeps_hint R a s (InsertWithTtl k p t ttl) k p ttl false refl l.path h c
keeps_perform R a s (InsertFunded k p t f) l h c = keeps_hint R a s (InsertFunded k p t f) k p s.default_ttl false refl l.path h c
keeps_perform R a s (InsertStated k p t f) l h c = keeps_hint R a s (InsertStated k p t f) k p s.default_ttl (starts_at k p) refl l.path h c
keeps_perform R a s (InsertVerified k p t) l h c = keeps_verify R a s (InsertVerified k p t) k p None refl refl l.path l.place h c
keeps_perform R a s (InsertVerifiedWithPathMtu k p t m) l h c = keeps_verify R a s (InsertVerifiedWithPathMtu k p t m) k p (Some m) refl refl l.path l.place h c
keeps_perform R a s (Get k t) l h c = keeps_same R a s (Get k t) (PathFound (get k t s)) (record { account = λ a. refl; charge = refl; examined = refl }) h c
keeps_perform R a s (GetAndTouch k t) l h c = keeps_left R a s (touched k t s) (GetAndTouch k t) k (PathFound (get k t s)) refl refl (record { account = λ a. refl; charge = refl; examined = refl }) (touched_left k t (a k) s h (own_of a s k c)) c
keeps_perform R a s (Remove k) l h c = keeps_left R a s (without_key k s) (Remove k) k (EntryRemoved (removed_entry k s)) refl refl (record { account = λ a. refl; charge = refl; examined = refl }) (out_left s (without_key k s) (without_key_out R k 0 s h)) c
keeps_perform R a s (Demote k) l h c = keeps_left R a s (demoted k s) (Demote k) k (KeyHeld (holds k s)) refl refl (record { account = λ a. refl; charge = refl; examined = refl }) (demoted_left k 0 (a k) s h (own_of a s k c)) c
keeps_perform R a s (ClearPathMtu k) l h c = keeps_left R a s (clear_path_mtu k s) (ClearPathMtu k) k Done refl refl (record { account = λ a. refl; charge = refl; examined = refl }) (clear_path_mtu_left k 0 (a k) s h (own_of a s k c)) c
keeps_perform R a s (PurgeExpired t) l h c = keeps_sweep R a s (PurgeExpired t) (expired t) refl (λ ttl v x d e. rw d.expires_at e) h c
keeps_perform R a s Clear l h c = keeps_clear R a s h c
keeps_perform R a s (InvalidateViaNode b) l h c = keeps_sweep R a s (InvalidateViaNode b) (λ e. contains b e.path) refl (λ ttl v x d e. rw d.path e) h c
keeps_perform R a s (InvalidateOtherRoots b) l h c = keeps_sweep R a s (InvalidateOtherRoots b) (λ e. not (same_addr (root_of e.path) b)) refl (λ ttl v x d e. rw d.path e) h c
keeps_perform R a s (Stats t) l h c = keeps_same R a s (Stats t) (StatsGiven (stats t s)) (record { account = λ a. refl; charge = refl; examined = refl }) h c
keeps_perform R a s NextExpiry l h c = keeps_same R a s NextExpiry (ExpiryGiven (next_expiry s.rows)) (record { account = λ a. refl; charge = refl; examined = refl }) h c
