-- The third demand, whole, over every list of calls.
use Prim.Native.Nat.{ℕ, ◌+◌, ◌≤◌}
use mathlib.Core.Path.{◌≡◌, refl, sym, ◌∙◌, ap, subst}
use mathlib.Core.List.{List, [], ◌∷◌, ◌++◌}
use Rattle.std.specs.Prelude.{Option, None, Some}
use mathlib.Core.Bool.{Bool, true, false, cond}
use lib.Dec.{ltb, eqb}
use borrow.Author.Tests.{ltb-true, ltb-false, lt-ltb, eqb-true, eqb-false}
use native.Mathlib.Omega.{arith}
use Rattle.types.specs.declared.coord.Path.{Path}
use Rattle.types.specs.declared.node_addr.NodeAddr.{NodeAddr}
use Rattle.types.specs.Paths.{path_weight}
use Rattle.rules.specs.Cases.{Every}
use Rattle.rules.specs.Records.{Row, State, by_use, probation}
use Rattle.rules.specs.Rows.{at_place, in_main, main_weight, row_at, total}
use Rattle.rules.specs.Sound.{sound}
use Rattle.rules.specs.Room.{file_new, make_room}
use Rattle.rules.specs.Placement.{insert_verified, verified_entry, without_key}
use Rattle.rules.specs.Calls.{Call, Clear, ClearPathMtu, Demote, Get, GetAndTouch, Insert, InsertFunded, InsertStated, InsertVerified, InsertVerifiedWithPathMtu, InsertWithTtl, InvalidateOtherRoots, InvalidateViaNode, NextExpiry, PurgeExpired, Remove, Stats, VerifiedWrite, verified_write, was_refused}
use Rattle.rules.specs.Refusals.{Step, fresh, gives, perform, step, verifies}
use Rattle.rules.specs.Lists.{Event, run}
use Rattle.rules.specs.Demand.{KeepsPlace, ThirdDemand, account, accounts_after, accounts_from, must_spare, within_funding}
use Rattle.rules.proofs.Addresses.{contradiction}
use Rattle.rules.proofs.RowLists.{Core, core, cores, every_at, every_both, every_map, look, look_entered, look_find, of_cores, total_same}
use Rattle.rules.proofs.SoundTest.{RowOk, Sound, sound_is}
use Rattle.rules.proofs.Others.{charge, room_gone}
use Rattle.rules.proofs.Refused.{by_step}
use Rattle.rules.proofs.CallsKeep.{Accounted, DemandStep, Fixed, demand_refused, event, keeps_perform, verified_fixed, without_key_out}
use Rattle.rules.proofs.SoundKept.{fitting, fitting_fits, perform_keeps, step_sound}

step_demand : (R : ℕ) (a : NodeAddr → ℕ) (s : State) (q : Call) → Accounted a s → DemandStep a s q (step R s q)
step_demand R a s q c = by_step R s q (DemandStep a s q) (λ n. demand_refused n a s q c) (λ l. (keeps_perform R a s q l (sound_is R s l.sound) c).demand)

-- the head's stored weight is that of the rows, whose places are legal
record Settled (s : State) : Type 0 where
  stored_weight : s.stored_weight ≡ main_weight s
  places : Every (λ r. r.place ≤ 2) s.rows

settled_step : (R : ℕ) (s : State) (q : Call) → Settled s → Settled (step R s q).state
unfolding gives
settled_step R s q h = by_step R s q (λ (t : Step). Settled t.state) (λ n. h)
    (λ l. let g = (perform_keeps R s q l).sound in record { stored_weight = g.stored_weight; places = places (perform s q).state g })
  where
    places : (d : State) → Sound R d → Every (λ r. r.place ≤ 2) d.rows
    places d g = every_map {P = RowOk d.seq} (λ r o. o.place) d.rows g.each

settled_run : (R : ℕ) (s : State) (qs : List Call) → Settled s → Settled (run R s qs).state
unfolding run
settled_run R s [] h = h
settled_run R s (q ∷ qs) h = settled_run R (step R s q).state qs (settled_step R s q h)

load_charge : (r : Row) → r.place ≤ 2 → cond (in_main r) r.weight 0 ≡ charge (core r)
unfolding in_main at_place
load_charge r l = go (ltb r.place 2) refl (eqb r.place 2) refl
  where
    go : (a : Bool) → ltb r.place 2 ≡ a → (b : Bool) → eqb r.place 2 ≡ b → cond a r.weight 0 ≡ cond b 0 r.weight
    go true e true f = absurd (let u = ltb-true r.place 2 e in let v = eqb-true r.place 2 f in let n : ⊥ = omega arith in n)
    go true e false f = refl
    go false e true f = refl
    go false e false f = absurd (let u = ltb-false r.place 2 e in let v = eqb-false r.place 2 f in let n : ⊥ = omega arith in n)

stored_total : (a : NodeAddr → ℕ) (s : State) → Settled s → Accounted a s → s.stored_weight ≡ total (λ r. a r.key) s.rows
stored_total a s h c = h.stored_weight ∙ total_same (λ r. cond (in_main r) r.weight 0) (λ r. a r.key) s.rows (every_both (λ r l e. load_charge r l ∙ sym e) s.rows h.places (of_cores (λ y. a y.key ≡ charge y) s.rows c))

run_accounted : (R : ℕ) (a : NodeAddr → ℕ) (s : State) (qs : List Call) → Accounted a s → Accounted (accounts_from (run R s qs).events a) (run R s qs).state
unfolding run accounts_from
run_accounted R a s [] h = h
run_accounted R a s (q ∷ qs) h = run_accounted R (accounts_after (event q (step R s q)) a) (step R s q).state qs (step_demand R a s q h).accounted

run_funded : (R : ℕ) (a : NodeAddr → ℕ) (s : State) (qs : List Call) → Accounted a s → Every (λ e. within_funding e ≡ true) (run R s qs).events
unfolding run
run_funded R a s [] h = tt
run_funded R a s (q ∷ qs) h = ((step_demand R a s q h).funded, run_funded R (accounts_after (event q (step R s q)) a) (step R s q).state qs (step_demand R a s q h).accounted)

run_spared : (R ttl : ℕ) (v : VerifiedWrite) (x : Core) → Fixed ttl v x → (a : NodeAddr → ℕ) (s : State) (qs : List Call) → Accounted a s → Every (λ e. must_spare ttl v e ≡ true) (run R s qs).events
    → look v.key (cores s.rows) ≡ Some x → look v.key (cores (run R s qs).state.rows) ≡ Some x
unfolding run
run_spared R ttl v x d a s [] h e l = l
run_spared R ttl v x d a s (q ∷ qs) h e l = run_spared R ttl v x d (accounts_after (event q (step R s q)) a) (step R s q).state qs (step_demand R a s q h).accounted e.1 ((step_demand R a s q h).spared ttl v x d e.0 l)

-- a done verified insert makes its claim good
record Made (ttl : ℕ) (v : VerifiedWrite) (s : State) : Type 0 where
  row : Core
  fixed : Fixed ttl v row
  looked : look v.key (cores s.rows) ≡ Some row

inserted_made : (R : ℕ) (k : NodeAddr) (p : Path) (now : ℕ) (mtu : Option ℕ) (s : State) → Sound R s → Made s.default_ttl (record { key = k; path = p; time = now }) (insert_verified k p now mtu s).state
unfolding insert_verified file_new at_place
inserted_made R k p now mtu s h =
    let e = verified_entry k p now mtu s in
    let o = without_key_out R k now s h in
    let d = (make_room now (path_weight p) (without_key k s)).state in
    let r : Row = record { key = k; entry = e; place = by_use; stamp_first = e.last_used; stamp_seq = d.seq + 1; weight = path_weight p } in
    record { row = core r; fixed = verified_fixed k p now (path_weight p) mtu s; looked = look_entered r d.rows (room_gone k now (path_weight p) (without_key k s) o.sound o.gone) }

perform_made : (R : ℕ) (s : State) (q : Call) (v : VerifiedWrite) → Sound R s → verified_write q ≡ Some v → Made s.default_ttl v (perform s q).state
unfolding verified_write perform verifies gives
perform_made R s (Insert k p t) v h e = contradiction {b = true} refl (cc)
perform_made R s (InsertWithTtl k p t l) v h e = contradiction {b = true} refl (cc)
perform_made R s (InsertFunded k p t f) v h e = contradiction {b = true} refl (cc)
perform_made R s (InsertStated k p t f) v h e = contradiction {b = true} refl (cc)
perform_made R s (InsertVerified k p t) v h e = let q : record { key = k; path = p; time = t } ≡ v = cc in subst (λ u. Made s.default_ttl u (insert_verified k p t None s).state) q (inserted_made R k p t None s h)
perform_made R s (InsertVerifiedWithPathMtu k p t m) v h e = let q : record { key = k; path = p; time = t } ≡ v = cc in subst (λ u. Made s.default_ttl u (insert_verified k p t (Some m) s).state) q (inserted_made R k p t (Some m) s h)
perform_made R s (Get k t) v h e = contradiction {b = true} refl (cc)
perform_made R s (GetAndTouch k t) v h e = contradiction {b = true} refl (cc)
perform_made R s (Remove k) v h e = contradiction {b = true} refl (cc)
perform_made R s (Demote k) v h e = contradiction {b = true} refl (cc)
perform_made R s (ClearPathMtu k) v h e = contradiction {b = true} refl (cc)
perform_made R s (PurgeExpired t) v h e = contradiction {b = true} refl (cc)
perform_made R s Clear v h e = contradiction {b = true} refl (cc)
perform_made R s (InvalidateViaNode b) v h e = contradiction {b = true} refl (cc)
perform_made R s (InvalidateOtherRoots b) v h e = contradiction {b = true} refl (cc)
perform_made R s (Stats t) v h e = contradiction {b = true} refl (cc)
perform_made R s NextExpiry v h e = contradiction {b = true} refl (cc)

step_made : (R : ℕ) (s : State) (q : Call) (v : VerifiedWrite) → verified_write q ≡ Some v → was_refused (step R s q).answer ≡ false → Made s.default_ttl v (step R s q).state
unfolding gives was_refused
step_made R s q v e = by_step R s q (λ (t : Step). was_refused t.answer ≡ false → Made s.default_ttl v t.state) (λ n r. contradiction {b = true} refl r)
    (λ l r. perform_made R s q v (sound_is R s l.sound) e)

main_of : (r : Row) → r.place ≤ 2 → at_place probation r ≡ false → in_main r ≡ true
unfolding in_main at_place
main_of r l h = lt-ltb r.place 2 (let n = eqb-false r.place 2 h in omega arith)

stands : (ttl : ℕ) (v : VerifiedWrite) (x : Core) (s : State) → Settled s → Fixed ttl v x → look v.key (cores s.rows) ≡ Some x → KeepsPlace ttl v s.rows
stands ttl v x s h d l =
    let f = look_find v.key x s.rows l in
    let q = f.same in
    record {
      at = f.at;
      there = f.there;
      main = main_of (row_at f.at s.rows) (every_at (λ r. r.place ≤ 2) f.at s.rows f.inside h.places) (ap (λ (y : Core). y.on_probation) q ∙ d.main);
      source = ap (λ (y : Core). y.entry.source) q ∙ d.source;
      path = ap (λ (y : Core). y.entry.path) q ∙ d.path;
      expires_at = ap (λ (y : Core). y.entry.expires_at) q ∙ d.expires_at;
      verified_until = ap (λ (y : Core). y.entry.verified_until) q ∙ d.verified_until;
    }

-- protection, by the events before the insert
protect : (R ttl : ℕ) (a : NodeAddr → ℕ) (s : State) (qs : List Call) → s.default_ttl ≡ ttl → Settled s → Accounted a s → (earlier later : List Event) (e : Event) (v : VerifiedWrite)
    → (run R s qs).events ≡ earlier ++ (e ∷ later) → verified_write e.call ≡ Some v → was_refused e.answer ≡ false
    → Every (λ l. must_spare ttl v l ≡ true) later → KeepsPlace ttl v (run R s qs).state.rows
unfolding run
protect R ttl a s [] t st h [] later e v p claim not_refused spared = contradiction {b = true} refl (cc)
protect R ttl a s [] t st h (b ∷ bs) later e v p claim not_refused spared = contradiction {b = true} refl (cc)
protect R ttl a s (q ∷ qs) t st h [] later e v p claim not_refused spared =
    let x = step R s q in
    let pe : e ≡ event q x = cc in
    let pl : later ≡ (run R x.state qs).events = cc in
    let m = step_made R s q v (subst (λ (u : Event). verified_write u.call ≡ Some v) pe claim) (subst (λ (u : Event). was_refused u.answer ≡ false) pe not_refused) in
    let d : Fixed ttl v m.row = subst (λ u. Fixed u v m.row) t m.fixed in
    stands ttl v m.row (run R x.state qs).state (settled_run R x.state qs (settled_step R s q st)) d
    (run_spared R ttl v m.row d (accounts_after (event q x) a) x.state qs (step_demand R a s q h).accounted (subst (Every (λ l. must_spare ttl v l ≡ true)) pl spared) m.looked)
protect R ttl a s (q ∷ qs) t st h (b ∷ bs) later e v p claim not_refused spared =
    let x = step R s q in
    protect R ttl (accounts_after (event q x) a) x.state qs ((step_demand R a s q h).default_ttl ∙ t) (settled_step R s q st) (step_demand R a s q h).accounted bs later e v (cc) claim not_refused spared

sound_settled : (R : ℕ) (s : State) → Sound R s → Settled s
sound_settled R s h = record { stored_weight = h.stored_weight; places = every_map {P = RowOk s.seq} (λ r o. o.place) s.rows h.each }

-- protection from any sound state on, foreign ones too
pub kept_after : (R : ℕ) (s : State) (q : Call) (v : VerifiedWrite) (qs : List Call) → sound R s ≡ true → verified_write q ≡ Some v → was_refused (step R s q).answer ≡ false
    → Every (λ e. must_spare s.default_ttl v e ≡ true) (run R (step R s q).state qs).events → KeepsPlace s.default_ttl v (run R (step R s q).state qs).state.rows
kept_after R s q v qs h e done spared =
    let g = sound_is R s h in
    let m = step_made R s q v e done in
    let d = (step R s q).state in
    let k = sound_is R d (step_sound R s q h) in
    let st = settled_run R d qs (sound_settled R d k) in
    stands s.default_ttl v m.row (run R d qs).state st m.fixed (run_spared R s.default_ttl v m.row m.fixed (fitting d) d qs (fitting_fits R d k) spared m.looked)

-- THE THIRD DEMAND: for every list of calls, at any times, refused ones included, from a fresh cache of any limits
pub third_demand : (R m ttl : ℕ) (tail : List ℕ) (qs : List Call) → let r = run R (fresh R m ttl tail) qs in ThirdDemand ttl r.events r.state.stored_weight r.state.rows
unfolding account fresh total
third_demand R m ttl tail qs =
    let s = fresh R m ttl tail in
    let st : Settled s = record { stored_weight = refl; places = tt } in
    let se = settled_run R s qs st in
    record {
      accounts = stored_total (account (run R s qs).events) (run R s qs).state se (run_accounted R (λ j. 0) s qs tt);
      weights = se.stored_weight;
      funding = run_funded R (λ j. 0) s qs tt;
      protection = protect R ttl (λ j. 0) s qs refl st tt;
    }
