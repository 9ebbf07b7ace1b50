-- Every call keeps what fits fitting: the rows' fields, and the number of bytes in all.
use mathlib.Core.Path.{◌≡◌, refl, ap}
use Prim.Native.Nat.{ℕ, zero, suc, ◌+◌, ◌*◌, ◌-◌, ◌/◌, ◌≤◌, ◌<◌, min, ◌^◌}
use native.Mathlib.Omega.{arith}
use mathlib.Core.List.{List, [], ◌∷◌, map}
use mathlib.Core.Bool.{Bool, true, false, cond, not}
use lib.Dec.{ltb}
use lib.ListN.{length, replicate, length-append, length-drop, length-map, length-replicate}
use Rattle.types.specs.declared.node_addr.NodeAddr.{NodeAddr}
use Rattle.types.specs.Addresses.{addr_before}
use Rattle.types.specs.Values.{largest_number}
use Rattle.rules.specs.Cases.{Every}
use Rattle.rules.specs.Records.{Entry, Row, State, aside, by_use, parked, probation, probation_limit, weight_limit}
use Rattle.rules.specs.Rows.{at_place, change_row, in_main, insert_in_order, keep_rows, lowest_stamp, probation_count, row_at, total, weigh_rows, with_only_rows, with_rows, without_row, zero_rows}
use Rattle.rules.specs.Entries.{add_times, verified}
use Rattle.rules.specs.Room.{Chosen, Sought, Walk, at_new_place, choose_victims, evict_below, file_new, has_room, make_probation_room, make_room, next_victim, park, parked_at, probation_visits, put_back, raised, refile, refiled, restamp, return_lapsed, seek, set_aside, settled, sought, stale, stamp, take_out, take_up, untouched, visits_left}
use Rattle.rules.specs.Lent.{AddrFits, Bytes, Small}
use Rattle.rules.proofs.RowLists.{by_cond, by_maybe, every_both, every_change, every_copy, every_insert, every_keep, every_map, every_mapped, every_without, length_change}
use Rattle.rules.proofs.SoundTest.{RowOk, Sound}
use Rattle.rules.proofs.MemoryLaws.{bytes_append, bytes_drop}
use Rattle.rules.proofs.EntryLaws.{EntryFits}
use Rattle.rules.proofs.ViewLaws.{Fits, RowFits}
use Rattle.rules.proofs.SoundKept.{both_segments}
use Rattle.rules.specs.Layout.{byte_size, head_size, number_limit, number_size, row_size}

-- ---- bounds

-- v has n bytes exactly if it is below 256 to the n
pub small : (n v : ℕ) → v < 256 ^ n → Small n v
small zero v h = omega arith
small (suc n) v h = small n (v / 256) (omega arith)

small_less : (n v : ℕ) → Small n v → v < 256 ^ n
small_less zero v h = omega arith
small_less (suc n) v h = let l = small_less n (v / 256) h in omega arith

pub small1 : (v : ℕ) → v < 256 → Small byte_size v
small1 v h = small 1 v h

pub small8 : (v : ℕ) → v < number_limit → Small number_size v
small8 v h = small 8 v h

pub small8_less : (v : ℕ) → Small number_size v → v < number_limit
small8_less v h = small_less 8 v h

pub sum_small : (a b : ℕ) → Small number_size (add_times a b)
unfolding add_times
sum_small a b = small8 (min (a + b) largest_number) (omega arith)

-- ---- what lasts of a row, whatever its place and stamp

pub record Lasting (r : Row) : Type 0 where
  pub key : AddrFits r.key
  pub entry : EntryFits r.entry
  pub stamp_first : Small number_size r.stamp_first

refiled_lasts : (q : ℕ) (e : Entry) (w : ℕ) (r : Row) → EntryFits e → Lasting r → Lasting (refiled q e w r)
unfolding refiled
refiled_lasts q e w r f h = record { key = h.key; entry = f; stamp_first = f.last_used }

parked_lasts : (q : ℕ) (r : Row) → Lasting r → Lasting (parked_at q r)
unfolding parked_at
parked_lasts q r h = record { key = h.key; entry = h.entry; stamp_first = h.entry.verified_until }

placed_lasts : (p : ℕ) (r : Row) → Lasting r → Lasting (at_new_place p r)
unfolding at_new_place
placed_lasts p r h = record { key = h.key; entry = h.entry; stamp_first = h.stamp_first }

back_lasts : (r : Row) → Lasting r → Lasting (put_back r)
unfolding put_back
back_lasts r h = by_cond Lasting (at_place aside r) (λ e. placed_lasts by_use r h) (λ e. h)

-- ---- rows and bytes

pub record Sized (B : ℕ) (s : State) : Type 0 where
  pub lasting : Every Lasting s.rows
  pub rest : Bytes s.rest
  pub bulk : length s.rows * row_size + length s.rest ≡ B

length_without : (i : ℕ) (rs : List Row) → length (without_row i rs) ≤ length rs
unfolding without_row
length_without i [] = omega arith
length_without zero (r ∷ rs) = omega arith
length_without (suc i) (r ∷ rs) = omega (arith, length_without i rs)

length_keep : (p : Row → Bool) (rs : List Row) → length (keep_rows p rs) ≤ length rs
unfolding keep_rows
length_keep p [] = omega arith
length_keep p (r ∷ rs) = by_cond (λ (u : List Row). length u ≤ suc (length rs)) (p r) (λ e. omega (arith, length_keep p rs)) (λ e. omega (arith, length_keep p rs))

pub length_insert : (r : Row) (rs : List Row) → length (insert_in_order r rs) ≡ suc (length rs)
unfolding insert_in_order
length_insert r [] = refl
length_insert r (x ∷ xs) = by_cond (λ (u : List Row). length u ≡ suc (suc (length xs))) (addr_before r.key x.key) (λ e. refl) (λ e. ap suc (length_insert r xs))

pub zero_length : (n : ℕ) → length (zero_rows n) ≡ n * row_size
unfolding zero_rows
zero_length n = length-replicate {A = ℕ} (n * row_size) 0

pub copies_bytes : (n : ℕ) → Bytes (replicate n 0)
copies_bytes n = every_copy (λ b. b < 256) n (omega arith)

pub zero_bytes : (n : ℕ) → Bytes (zero_rows n)
unfolding zero_rows
zero_bytes n = copies_bytes (n * row_size)

pub only_sized : (B : ℕ) (s : State) (rs : List Row) → Sized B s → length rs ≤ length s.rows → Every Lasting rs → Sized B (with_only_rows rs s)
unfolding with_only_rows
only_sized B s rs h l e = record { lasting = e; rest = bytes_append (zero_rows (length s.rows - length rs)) s.rest (zero_bytes (length s.rows - length rs)) h.rest; bulk = rw (length-append (zero_rows (length s.rows - length rs)) s.rest, zero_length (length s.rows - length rs)) (omega (arith, h.bulk)) }

pub take_out_sized : (B i : ℕ) (s : State) → Sized B s → Sized B (take_out i s)
unfolding take_out
take_out_sized B i s h = only_sized B s (without_row i s.rows) h (length_without i s.rows) (every_without Lasting i s.rows h.lasting)

pub keep_sized : (B : ℕ) (p : Row → Bool) (s : State) → Sized B s → Sized B (with_only_rows (keep_rows p s.rows) s)
keep_sized B p s h = only_sized B s (keep_rows p s.rows) h (length_keep p s.rows) (every_keep Lasting p s.rows h.lasting)

pub change_sized : (B : ℕ) (s s' : State) (f : Row → Row) (i : ℕ) → (Lasting (row_at i s.rows) → Lasting (f (row_at i s.rows))) → s'.rows ≡ change_row f i s.rows → s'.rest ≡ s.rest → Sized B s → Sized B s'
change_sized B s s' f i g e r h = record { rest = rw r h.rest; lasting = rw e (every_change Lasting f i s.rows g h.lasting); bulk = rw (e, r, length_change f i s.rows) h.bulk }

pub restamp_sized : (B i : ℕ) (s : State) → Sized B s → Sized B (restamp i s)
unfolding restamp stamp with_rows raised
restamp_sized B i s h = change_sized B s (restamp i s) (λ r. refiled (s.seq + 1) r.entry r.weight r) i (λ o. refiled_lasts (s.seq + 1) _ _ _ o.entry o) refl refl h

pub park_sized : (B i : ℕ) (s : State) → Sized B s → Sized B (park i s)
unfolding park stamp with_rows raised
park_sized B i s h = change_sized B s (park i s) (parked_at (s.seq + 1)) i (λ o. parked_lasts (s.seq + 1) _ o) refl refl h

pub refile_sized : (B : ℕ) (e : Entry) (w i : ℕ) (s : State) → EntryFits e → Sized B s → Sized B (refile e w i s)
unfolding refile stamp with_rows raised
refile_sized B e w i s f h = change_sized B s (refile e w i s) (refiled (s.seq + 1) e w) i (λ o. refiled_lasts (s.seq + 1) e w _ f o) refl refl h

-- ---- room

module _ (B now : ℕ) where
  lapsed_sized : (n : ℕ) (w : Walk) → Sized B w.state → Sized B (return_lapsed n now w).state
  unfolding return_lapsed take_up
  lapsed_sized zero w h = h
  lapsed_sized (suc n) w h = by_maybe (λ (x : Walk). Sized B x.state) (lowest_stamp parked w.state.rows) (λ e. h) (λ i e.
      by_cond (λ (x : Walk). Sized B x.state) (ltb (row_at i w.state.rows).stamp_first now) (λ a. lapsed_sized n (take_up restamp i w) (restamp_sized B i w.state h)) (λ a. h))

  seek_sized : (n : ℕ) (w : Walk) → Sized B w.state → Sized B (seek n now w).walk.state
  unfolding seek sought take_up untouched
  seek_sized zero w h = h
  seek_sized (suc n) w h = by_maybe (λ (x : Sought). Sized B x.walk.state) (lowest_stamp by_use w.state.rows) (λ e. h) (λ i e.
      by_cond (λ (x : Sought). Sized B x.walk.state) (stale (row_at i w.state.rows)) (λ a. seek_sized n (take_up restamp i w) (restamp_sized B i w.state h))
      (λ a. by_cond (λ (x : Sought). Sized B x.walk.state) (verified now (row_at i w.state.rows).entry) (λ b. seek_sized n (take_up park i w) (park_sized B i w.state h)) (λ b. h)))

  next_sized : (w : Walk) → Sized B w.state → Sized B (next_victim now w).walk.state
  unfolding next_victim
  next_sized w h = seek_sized (visits_left now (return_lapsed (visits_left now w) now w)) (return_lapsed (visits_left now w) now w) (lapsed_sized (visits_left now w) w h)

  aside_sized : (i : ℕ) (w : Walk) → Sized B w.state → Sized B (set_aside i w).state
  unfolding set_aside with_rows
  aside_sized i w h = change_sized B w.state (set_aside i w).state (at_new_place aside) i (λ o. placed_lasts aside _ o) refl refl h

  choose_sized : (n w : ℕ) (v : Walk) → Sized B v.state → Sized B (choose_victims n now w v).walk.state
  unfolding choose_victims
  choose_sized zero w v h = h
  choose_sized (suc n) w v h = by_cond (λ (c : Chosen). Sized B c.walk.state) (has_room w v.state) (λ e. h)
      (λ e. by_maybe (λ (c : Chosen). Sized B c.walk.state) (next_victim now v).victim (λ d. next_sized v h) (λ i d. choose_sized n w (set_aside i (next_victim now v).walk) (aside_sized i (next_victim now v).walk (next_sized v h))))

settled_sized : (B : ℕ) (c : Chosen) → Sized B c.walk.state → Sized B (settled c).state
unfolding settled
settled_sized B c h = by_cond (λ (rs : List Row). Sized B (with_only_rows rs c.walk.state)) c.made
    (λ e. keep_sized B (λ r. not (at_place aside r)) c.walk.state h)
    (λ e. only_sized B c.walk.state (map put_back c.walk.state.rows) h (omega (arith, length-map c.walk.state.rows put_back)) (every_mapped Lasting put_back c.walk.state.rows (every_map back_lasts c.walk.state.rows h.lasting)))

pub room_sized : (B now w : ℕ) (s : State) → Sized B s → Sized B (make_room now w s).state
unfolding make_room
room_sized B now w s h = settled_sized B _ (choose_sized B now _ _ _ h)

evict_sized : (B b n : ℕ) (w : Walk) → Sized B w.state → Sized B (evict_below b n w).state
unfolding evict_below take_up
evict_sized B b zero w h = h
evict_sized B b (suc n) w h = by_cond (λ (x : Walk). Sized B x.state) (ltb (probation_count w.state) b) (λ e. h) (λ e. by_maybe (λ (x : Walk). Sized B x.state) (lowest_stamp probation w.state.rows) (λ d. h) (λ i d.
    by_cond (λ (f : ℕ → State → State). Sized B (evict_below b n (take_up f i w)).state) (stale (row_at i w.state.rows)) (λ a. evict_sized B b n (take_up restamp i w) (restamp_sized B i w.state h)) (λ a. evict_sized B b n (take_up take_out i w) (take_out_sized B i w.state h))))

pub probation_sized : (B : ℕ) (s : State) → Sized B s → Sized B (make_probation_room s).state
unfolding make_probation_room
probation_sized B s h = evict_sized B (probation_limit s) (total probation_visits s.rows) (record { state = s; examined = 0 }) h

-- ---- a row enters where one is free

-- a sound state's rows are those of its segments, at most R
pub few_rows : (R : ℕ) (s : State) → Sound R s → length s.rows ≤ R
few_rows R s h = omega (arith, both_segments s.seq s.rows h.each, h.mains, h.probations, h.space)

pub file_sized : (R B : ℕ) (k : NodeAddr) (e : Entry) (w p : ℕ) (s : State) → R * row_size ≤ B → AddrFits k → EntryFits e → Sized B s → Sound R (file_new k e w p s) → Sized B (file_new k e w p s)
unfolding file_new
file_sized R B k e w p s l f g h sd =
    let r : Row = record { key = k; entry = e; place = p; stamp_first = e.last_used; stamp_seq = s.seq + 1; weight = w } in
    record {
      lasting = every_insert Lasting r s.rows (record { key = f; entry = g; stamp_first = g.last_used }) h.lasting;
      rest = bytes_drop row_size s.rest h.rest;
      bulk = rw (length_insert r s.rows, length-drop row_size s.rest) (omega (arith, h.bulk, few_rows R (file_new k e w p s) sd, length_insert r s.rows));
    }

-- ---- sound and sized: it fits

pub light : (q : ℕ) (rs : List Row) → Every (RowOk q) rs → weigh_rows in_main rs ≤ weight_limit * length rs
unfolding total
light q [] h = omega arith
light q (r ∷ rs) h = omega (arith, one (in_main r), light q rs h.1)
  where
    one : (b : Bool) → cond b r.weight 0 ≤ weight_limit
    one true = h.0.light
    one false = omega arith

pub fits_sized : (L : ℕ) (s : State) → Fits L s → Sized (L - head_size) s
fits_sized L s h = record { lasting = every_map {P = RowFits} (λ r f. record { key = f.key; entry = f.entry; stamp_first = f.stamp_first }) s.rows h.rows; rest = h.rest; bulk = omega (arith, h.size) }

pub sized_fits : (R L : ℕ) (s : State) → head_size ≤ L → Sound R s → Sized (L - head_size) s → Small number_size s.default_ttl → s.seq < number_limit → Fits L s
sized_fits R L s l h z t q = record {
  max_entries = small8 s.max_entries (omega (arith, h.space, h.small));
  default_ttl = t;
  seq = small8 s.seq q;
  stored_weight = small8 s.stored_weight (omega (arith, h.stored_weight, light s.seq s.rows h.each, few_rows R s h, h.small));
  row_count = small8 s.row_count (omega (arith, h.counted, few_rows R s h, h.small));
  counted = h.counted;
  rows = every_both {P = Lasting} {Q = RowOk s.seq} (λ r g o. record { key = g.key; entry = g.entry; place = small1 r.place (omega (arith, o.place)); stamp_first = g.stamp_first; stamp_seq = small8 r.stamp_seq (omega (arith, o.stamped)); weight = small1 r.weight (omega (arith, o.light)) }) s.rows z.lasting h.each;
  rest = z.rest;
  size = omega (arith, z.bulk);
}
