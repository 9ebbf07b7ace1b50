-- Every call keeps a state that fits its memory.
use mathlib.Core.Path.{◌≡◌, refl, subst}
use Prim.Native.Nat.{ℕ, ◌+◌, ◌*◌, ◌-◌, ◌≤◌, ◌<◌, max}
use native.Mathlib.Omega.{arith}
use mathlib.Core.List.{List, []}
use Rattle.std.specs.Prelude.{Option, None, Some}
use mathlib.Core.Bool.{Bool, true, false, ◌&&◌, ◌||◌, not}
use lib.Dec.{leb}
use lib.ListN.{length, length-append}
use borrow.Author.Tests.{ltb-false}
use Rattle.types.specs.declared.coord.Path.{Path}
use Rattle.types.specs.declared.node_addr.NodeAddr.{NodeAddr}
use Rattle.types.specs.Addresses.{same_addr}
use Rattle.types.specs.Paths.{contains, path_weight, root_of, starts_at}
use Rattle.types.specs.declared.placed.Funding.TheVariants.{Uncharged, Upto}
use Rattle.types.specs.declared.placed.Funding.{Funding}
use Rattle.types.specs.Values.{covers}
use Rattle.rules.specs.Cases.{maybe}
use Rattle.rules.specs.Records.{Entry, State, by_use, empty_entry, hint_source, no_mtu, parked, probation, some_mtu, verified_source}
use Rattle.rules.specs.Rows.{at_place, find, in_main, row_at, with_only_rows, with_rows, zero_rows}
use Rattle.rules.specs.Entries.{add_times, drop_mtu, expired, mark_hint, mark_verified, new_entry, refresh, set_mtu, update, verified_ttl}
use Rattle.rules.specs.Room.{Room, file_new, make_probation_room, make_room, take_out}
use Rattle.rules.specs.Placement.{PlaceResult, grow, insert_verified, new_in_probation, new_without_room, place_held, place_hint, place_main, place_new, place_probation, place_result, promote, rejected, stays_verified, verified_entry, without_key}
use Rattle.rules.specs.Lookups.{clear_path_mtu, demoted, rewrite, sweep, touched, with_entry}
use Rattle.rules.specs.Calls.{Call, Clear, ClearPathMtu, Demote, Get, GetAndTouch, Insert, InsertFunded, InsertStated, InsertVerified, InsertVerifiedWithPathMtu, InsertWithTtl, InvalidateOtherRoots, InvalidateViaNode, NextExpiry, PurgeExpired, Remove, Stats, draws_stamps, path_given}
use Rattle.rules.specs.Refusals.{Step, bad_path, fresh, gives, hinted, last_seq, perform, seq_spent, step, sweeps, verifies}
use Rattle.rules.specs.Lent.{AddrFits, Bytes, PathFits, Small, Typed, WriteFits}
use Rattle.rules.proofs.Addresses.{contradiction}
use Rattle.rules.proofs.RowLists.{by_cond, by_maybe, every_at, find_at}
use Rattle.rules.proofs.SoundTest.{Sound, sound_is}
use Rattle.rules.proofs.MemoryLaws.{bytes_append}
use Rattle.rules.proofs.EntryLaws.{EntryFits, empty_fits, mtu_fits, path_fits, source_fits, times_fit}
use Rattle.rules.proofs.ViewLaws.{Fits}
use Rattle.rules.proofs.Others.{PathOk, take_out_seq}
use Rattle.rules.proofs.Refused.{Allowed, by_step}
use Rattle.rules.proofs.CallsKeep.{path_ok}
use Rattle.rules.proofs.SoundKept.{perform_keeps}
use Rattle.rules.proofs.Sizes.{Lasting, Sized, change_sized, file_sized, fits_sized, keep_sized, only_sized, probation_sized, refile_sized, room_sized, sized_fits, small8, small8_less, sum_small, take_out_sized, zero_bytes, zero_length}
use Rattle.rules.specs.Layout.{head_size, mtu_size, number_limit, number_size, row_size}

-- ---- entries as calls make and change them

zero8 : Small number_size 0
zero8 = small8 0 (omega arith)

update_fits : (p : Path) (now ttl : ℕ) (e : Entry) → PathOk p → PathFits p → Small number_size now → EntryFits e → EntryFits (update p now ttl e)
unfolding update
update_fits p now ttl e o f n h = source_fits hint_source 0 _ (omega arith) zero8 (times_fit now (add_times now ttl) _ n (sum_small now ttl) (path_fits p e f o.short h))

new_fits : (p : Path) (now ttl : ℕ) → PathOk p → PathFits p → Small number_size now → EntryFits (new_entry p now ttl)
unfolding new_entry
new_fits p now ttl o f n = update_fits p now ttl (empty_entry now) o f n (empty_fits now n)

refresh_fits : (now ttl : ℕ) (e : Entry) → Small number_size now → EntryFits e → EntryFits (refresh now ttl e)
unfolding refresh
refresh_fits now ttl e n h = times_fit now (add_times now ttl) e n (sum_small now ttl) h

verified_fits : (now : ℕ) (e : Entry) → EntryFits e → EntryFits (mark_verified now e)
unfolding mark_verified
verified_fits now e h = source_fits verified_source (add_times now verified_ttl) e (omega arith) (sum_small now verified_ttl) h

hint_fits : (e : Entry) → EntryFits e → EntryFits (mark_hint e)
unfolding mark_hint
hint_fits e h = source_fits hint_source 0 e (omega arith) zero8 h

set_mtu_fits : (m : ℕ) (e : Entry) → Small mtu_size m → EntryFits e → EntryFits (set_mtu m e)
unfolding set_mtu
set_mtu_fits m e s h = mtu_fits some_mtu m e (omega arith) s h

drop_mtu_fits : (e : Entry) → EntryFits e → EntryFits (drop_mtu e)
unfolding drop_mtu
drop_mtu_fits e h = mtu_fits no_mtu 0 e (omega arith) (omega arith) h

held_fits : (B i : ℕ) (s : State) → Sized B s → i < length s.rows → EntryFits (row_at i s.rows).entry
held_fits B i s h l = (every_at Lasting i s.rows l h.lasting).entry

-- ---- placement

module _ (R B : ℕ) (l : R * row_size ≤ B) (k : NodeAddr) (kf : AddrFits k) where
  -- a sound outcome is sized
  abbrev KeepsSize : PlaceResult → Type 0
  KeepsSize u = Sound R u.state → Sized B u.state

  filed : (s : State) (e : Entry) (w p : ℕ) → EntryFits e → Sized B s → Sound R (file_new k e w p s) → Sized B (file_new k e w p s)
  filed s e w p f h g = file_sized R B k e w p s l kf f h g

  probation_keeps : (s : State) (e : Entry) (w : ℕ) (b : Bool) (n : ℕ) → EntryFits e → Sized B s → KeepsSize (new_in_probation k e w b n s)
  unfolding new_in_probation place_result
  probation_keeps s e w b n f h g = filed (make_probation_room s).state e w probation f (probation_sized B s h) g

  without_keeps : (g : Funding) (e : Entry) (w : ℕ) (m : Room) → EntryFits e → Sized B m.state → KeepsSize (new_without_room g k e w m)
  unfolding new_without_room rejected place_result
  without_keeps Uncharged e w m f h g = h
  without_keeps (Upto n) e w m f h g = probation_keeps m.state e w false m.examined f h g

  module _ (p : Path) (now ttl : ℕ) (fu : Funding) (po : PathOk p) (pf : PathFits p) (ns : Small number_size now) where
    place_new_keeps : (s : State) → Sized B s → KeepsSize (place_new k p now ttl fu s)
    unfolding place_new place_result
    place_new_keeps s h =
        let w = path_weight p in
        let e = new_entry p now ttl in
        let m = make_room now w s in
        let f = new_fits p now ttl po pf ns in
        let hm = room_sized B now w s h in
        by_cond KeepsSize (covers fu w)
        (λ x. by_cond KeepsSize m.made (λ y g. filed m.state e w by_use f hm g) (λ y. without_keeps fu e w m f hm))
        (λ x. probation_keeps s e w true 0 f h)

    place_probation_keeps : (s : State) (i : ℕ) → i < length s.rows → Sized B s → KeepsSize (place_probation k p now ttl fu i s)
    unfolding place_probation promote place_result
    place_probation_keeps s i il h =
        let r = row_at i s.rows in
        let w = max (path_weight p) r.weight in
        let e = update p now ttl r.entry in
        let m = make_room now w (take_out i s) in
        let f = update_fits p now ttl r.entry po pf ns (held_fits B i s h il) in
        let hm = room_sized B now w (take_out i s) (take_out_sized B i s h) in
        by_cond KeepsSize (covers fu w)
        (λ x. by_cond KeepsSize m.made (λ y g. filed m.state e w by_use f hm g) (λ y g. filed m.state e w probation f hm g))
        (λ x g. refile_sized B e w i s f h)

    place_main_keeps : (s : State) (st : Bool) (i : ℕ) → i < length s.rows → Sized B s → KeepsSize (place_main k p now ttl fu st i s)
    unfolding place_main grow place_result rejected
    place_main_keeps s st i il h =
        let r = row_at i s.rows in
        let w = path_weight p in
        let e = update p now ttl r.entry in
        let m = make_room now w (take_out i s) in
        let f = update_fits p now ttl r.entry po pf ns (held_fits B i s h il) in
        let hm = room_sized B now w (take_out i s) (take_out_sized B i s h) in
        by_cond KeepsSize (leb w r.weight) (λ x g. refile_sized B e r.weight i s f h)
        (λ x. by_cond KeepsSize (covers fu (w - r.weight))
        (λ y. by_cond KeepsSize (m.made || st) (λ z g. filed m.state e w by_use f hm g) (λ z g. filed m.state r.entry r.weight by_use (held_fits B i s h il) hm g))
        (λ y g. h))

    place_hint_keeps : (s : State) (st : Bool) → Sized B s → KeepsSize (place_hint k p now ttl fu st s)
    unfolding place_hint place_held rejected place_result
    place_hint_keeps s st h = by_maybe KeepsSize (find k s.rows) (λ e. place_new_keeps s h) (λ i e.
        let g = find_at k s.rows i e in
        by_cond KeepsSize (expired now (row_at i s.rows).entry) (λ x. place_new_keeps (take_out i s) (take_out_sized B i s h))
        (λ x. by_cond KeepsSize (stays_verified p now st (row_at i s.rows)) (λ y z. h)
        (λ y. by_cond KeepsSize (in_main (row_at i s.rows)) (λ m. place_main_keeps s st i g.inside h) (λ m. place_probation_keeps s i g.inside h))))

  without_key_sized : (s : State) → Sized B s → Sized B (without_key k s)
  unfolding without_key
  without_key_sized s h = by_maybe (Sized B) (find k s.rows) (λ e. h) (λ i e. take_out_sized B i s h)

  entry_fits : (p : Path) (now : ℕ) (mtu : Option ℕ) (s : State) → PathOk p → PathFits p → Small number_size now → ((m : ℕ) → mtu ≡ Some m → Small mtu_size m) → Sized B s → EntryFits (verified_entry k p now mtu s)
  unfolding verified_entry
  entry_fits p now mtu s po pf ns ms h =
      let base : EntryFits (maybe (find k s.rows) (new_entry p now s.default_ttl) (λ i. update p now s.default_ttl (row_at i s.rows).entry)) = by_maybe EntryFits (find k s.rows) (λ e. new_fits p now s.default_ttl po pf ns) (λ i e. update_fits p now s.default_ttl (row_at i s.rows).entry po pf ns (held_fits B i s h (find_at k s.rows i e).inside)) in
      let v = verified_fits now _ base in
      by_maybe EntryFits mtu (λ e. v) (λ m e. set_mtu_fits m _ (ms m e) v)

  insert_verified_sized : (p : Path) (now : ℕ) (mtu : Option ℕ) (s : State) → PathOk p → PathFits p → Small number_size now → ((m : ℕ) → mtu ≡ Some m → Small mtu_size m) → Sized B s → Sound R (insert_verified k p now mtu s).state → Sized B (insert_verified k p now mtu s).state
  unfolding insert_verified
  insert_verified_sized p now mtu s po pf ns ms h g = filed (make_room now (path_weight p) (without_key k s)).state (verified_entry k p now mtu s) (path_weight p) by_use (entry_fits p now mtu s po pf ns ms h) (room_sized B now (path_weight p) (without_key k s) (without_key_sized s h)) g

  rewrite_sized : (f : Entry → Entry) (i : ℕ) (s : State) → ((e : Entry) → EntryFits e → EntryFits (f e)) → Sized B s → Sized B (rewrite f i s)
  unfolding rewrite with_rows with_entry
  rewrite_sized f i s g h = change_sized B s (rewrite f i s) (λ r. with_entry (f r.entry) r) i (λ o. record { key = o.key; entry = g _ o.entry; stamp_first = o.stamp_first }) refl refl h

  touched_sized : (now : ℕ) (s : State) → Small number_size now → Sized B s → Sized B (touched k now s)
  unfolding touched
  touched_sized now s n h = by_maybe (Sized B) (find k s.rows) (λ e. h) (λ i e. by_cond (Sized B) (expired now (row_at i s.rows).entry) (λ x. take_out_sized B i s h) (λ x. rewrite_sized (refresh now s.default_ttl) i s (λ e. refresh_fits now s.default_ttl e n) h))

  demoted_sized : (s : State) → Sized B s → Sized B (demoted k s)
  unfolding demoted
  demoted_sized s h = by_maybe (Sized B) (find k s.rows) (λ e. h) (λ i e. by_cond (Sized B) (at_place parked (row_at i s.rows)) (λ x. refile_sized B (mark_hint (row_at i s.rows).entry) (row_at i s.rows).weight i s (hint_fits _ (held_fits B i s h (find_at k s.rows i e).inside)) h) (λ x. rewrite_sized mark_hint i s hint_fits h))

  clear_mtu_sized : (s : State) → Sized B s → Sized B (clear_path_mtu k s)
  unfolding clear_path_mtu
  clear_mtu_sized s h = by_maybe (Sized B) (find k s.rows) (λ e. h) (λ i e. rewrite_sized drop_mtu i s drop_mtu_fits h)

-- ---- every call that is not refused

module _ (R B : ℕ) (l : R * row_size ≤ B) (s : State) (h : Sized B s) where
  abbrev StepKeepsSize : Step → Type 0
  StepKeepsSize t = Sound R t.state → Sized B t.state

  hint_sized : (k : NodeAddr) (p : Path) (t ttl : ℕ) (f : Funding) (st : Bool) → WriteFits k p t → bad_path p ≡ false → StepKeepsSize (hinted (place_hint k p t ttl f st s))
  unfolding hinted gives
  hint_sized k p t ttl f st w e = place_hint_keeps R B l k w.key p t ttl f (path_ok p e) w.path w.time s st h

  verify_sized : (k : NodeAddr) (p : Path) (t : ℕ) (mtu : Option ℕ) → WriteFits k p t → bad_path p ≡ false → ((m : ℕ) → mtu ≡ Some m → Small mtu_size m) → StepKeepsSize (verifies k p t mtu s)
  unfolding verifies gives
  verify_sized k p t mtu w e ms = insert_verified_sized R B l k w.key p t mtu s (path_ok p e) w.path w.time ms h

  sweep_sized : (m : Entry → Bool) → StepKeepsSize (sweeps m s)
  unfolding sweeps gives sweep
  sweep_sized m g = keep_sized B (λ r. not (m r.entry)) s h

  perform_sized : (q : Call) → Typed q → maybe (path_given q) false bad_path ≡ false → StepKeepsSize (perform s q)
  unfolding perform gives path_given
  perform_sized (Insert k p t) w e = hint_sized k p t s.default_ttl Uncharged false w e
  perform_sized (InsertWithTtl k p t u) w e = hint_sized k p t u Uncharged false w e
  perform_sized (InsertFunded k p t f) w e = hint_sized k p t s.default_ttl f false w e
  perform_sized (InsertStated k p t f) w e = hint_sized k p t s.default_ttl f (starts_at k p) w e
  perform_sized (InsertVerified k p t) w e = verify_sized k p t None w e (λ m e. contradiction {b = true} refl (cc))
  perform_sized (InsertVerifiedWithPathMtu k p t m) w e = verify_sized k p t (Some m) w.0 e (λ n e. let z : m ≡ n = cc in subst (Small mtu_size) z w.1)
  perform_sized (Get k t) w e = λ g. h
  perform_sized (GetAndTouch k t) w e = λ g. touched_sized R B l k w.0 t s w.1 h
  perform_sized (Remove k) w e = λ g. without_key_sized R B l k w s h
  perform_sized (Demote k) w e = λ g. demoted_sized R B l k w s h
  perform_sized (ClearPathMtu k) w e = λ g. clear_mtu_sized R B l k w s h
  perform_sized (PurgeExpired t) w e = sweep_sized (expired t)
  perform_sized Clear w e = λ g. only_sized B s [] h (omega arith) tt
  perform_sized (InvalidateViaNode a) w e = sweep_sized (λ e. contains a e.path)
  perform_sized (InvalidateOtherRoots a) w e = sweep_sized (λ e. not (same_addr (root_of e.path) a))
  perform_sized (Stats t) w e = λ g. h
  perform_sized NextExpiry w e = λ g. h

-- ---- sequence numbers

without_key_seq : (k : NodeAddr) (s : State) → (without_key k s).seq ≡ s.seq
unfolding without_key
without_key_seq k s = by_maybe (λ (d : State). d.seq ≡ s.seq) (find k s.rows) (λ e. refl) (λ i e. take_out_seq i s)

touched_seq : (k : NodeAddr) (now : ℕ) (s : State) → (touched k now s).seq ≡ s.seq
unfolding touched rewrite with_rows
touched_seq k now s = by_maybe (λ (d : State). d.seq ≡ s.seq) (find k s.rows) (λ e. refl) (λ i e. by_cond (λ (d : State). d.seq ≡ s.seq) (expired now (row_at i s.rows).entry) (λ x. take_out_seq i s) (λ x. refl))

clear_mtu_seq : (k : NodeAddr) (s : State) → (clear_path_mtu k s).seq ≡ s.seq
unfolding clear_path_mtu rewrite with_rows
clear_mtu_seq k s = by_maybe (λ (d : State). d.seq ≡ s.seq) (find k s.rows) (λ e. refl) (λ i e. refl)

-- a call that draws no stamps leaves seq
no_stamps : (s : State) (q : Call) → draws_stamps q ≡ false → (perform s q).state.seq ≡ s.seq
unfolding perform draws_stamps sweeps sweep gives with_only_rows
no_stamps s (Insert k p t) h = contradiction {b = true} refl h
no_stamps s (InsertWithTtl k p t l) h = contradiction {b = true} refl h
no_stamps s (InsertFunded k p t f) h = contradiction {b = true} refl h
no_stamps s (InsertStated k p t f) h = contradiction {b = true} refl h
no_stamps s (InsertVerified k p t) h = contradiction {b = true} refl h
no_stamps s (InsertVerifiedWithPathMtu k p t m) h = contradiction {b = true} refl h
no_stamps s (Get k t) h = refl
no_stamps s (GetAndTouch k t) h = touched_seq k t s
no_stamps s (Remove k) h = without_key_seq k s
no_stamps s (Demote k) h = contradiction {b = true} refl h
no_stamps s (ClearPathMtu k) h = clear_mtu_seq k s
no_stamps s (PurgeExpired t) h = refl
no_stamps s Clear h = refl
no_stamps s (InvalidateViaNode a) h = refl
no_stamps s (InvalidateOtherRoots a) h = refl
no_stamps s (Stats t) h = refl
no_stamps s NextExpiry h = refl

not_spent : (s : State) → seq_spent s ≡ false → s.seq ≤ last_seq
unfolding seq_spent
not_spent s h = omega (arith, ltb-false last_seq s.seq h)

-- NO STAMP PASSES 2^64 − 1
pub seq_bounded : (R : ℕ) (s : State) (q : Call) → s.seq < number_limit → (step R s q).state.seq < number_limit
unfolding gives
seq_bounded R s q l = by_step R s q (λ (t : Step). t.state.seq < number_limit) (λ n. l) (λ a. go a (draws_stamps q) refl (seq_spent s) refl a.stamps)
  where
    go : Allowed R s q → (d : Bool) → draws_stamps q ≡ d → (w : Bool) → seq_spent s ≡ w → d && w ≡ false → (perform s q).state.seq < number_limit
    go a true e true f g = contradiction {b = true} refl g
    go a true e false f g = let h = sound_is R s a.sound in let k = perform_keeps R s q a in omega (arith, k.stamps, k.seen, h.small, h.space, h.mains, h.probations, not_spent s f)
    go a false e w f g = omega (arith, no_stamps s q e)

-- ---- every call keeps what fits

perform_fits : (R L : ℕ) (s : State) (q : Call) → head_size ≤ L → R * row_size ≤ L - head_size → Typed q → Fits L s → Allowed R s q → (perform s q).state.seq < number_limit → Fits L (perform s q).state
perform_fits R L s q a l g h o b = let k = perform_keeps R s q o in sized_fits R L (perform s q).state a k.sound (perform_sized R (L - head_size) l s (fits_sized L s h) q g o.path k.sound) (rw k.demand.default_ttl h.default_ttl) b

pub step_fits : (R L : ℕ) (s : State) (q : Call) → head_size ≤ L → R * row_size ≤ L - head_size → Typed q → Fits L s → Fits L (step R s q).state
unfolding gives
step_fits R L s q a l g h = by_step R s q (λ (t : Step). (t.state.seq < number_limit) → Fits L t.state) (λ n b. h) (λ o b. perform_fits R L s q a l g h o b) (seq_bounded R s q (small8_less s.seq h.seq))

-- a fresh state fits
pub fresh_fits : (R m ttl : ℕ) (tail : List ℕ) → Small number_size m → Small number_size ttl → Bytes tail → Fits (head_size + R * row_size + length tail) (fresh R m ttl tail)
unfolding fresh
fresh_fits R m ttl tail a b c = record { max_entries = a; default_ttl = b; seq = zero8; stored_weight = zero8; row_count = zero8; counted = refl; rows = tt; rest = bytes_append (zero_rows R) tail (zero_bytes R) c; size = rw (length-append (zero_rows R) tail, zero_length R) (omega arith) }
