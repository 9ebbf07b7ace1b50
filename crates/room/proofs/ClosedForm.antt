-- The closed form of room, and bounds of a sound state.
use mathlib.Core.Path.{◌≡◌, refl, sym, ◌∙◌, subst}
use Prim.Native.Nat.{ℕ, ◌+◌, ◌*◌, ◌≤◌, ◌<◌, min}
use native.Mathlib.Omega.{arith}
use mathlib.Core.List.{List, [], ◌∷◌}
use Rattle.std.specs.Prelude.{Option, None, Some}
use mathlib.Core.Bool.{Bool, true, false, cond, ◌&&◌}
use lib.Dec.{ltb, leb}
use lib.ListN.{length}
use Rattle.types.specs.declared.node_addr.NodeAddr.{NodeAddr}
use Rattle.rules.specs.Cases.{maybe}
use Rattle.rules.specs.Records.{Row, State, weight_bound, by_use, parked, probation, max_rows, weight_limit}
use Rattle.rules.specs.Rows.{row_at, at_place, in_main, total, count_rows, weigh_rows, without_row, with_only_rows, find}
use Rattle.rules.specs.Sound.{sound}
use Rattle.rules.specs.Placement.{without_key}
use Rattle.rules.specs.Refusals.{key_in_main}
use Rattle.rules.specs.Room.{take_out, verified_in_main, room_can_be_made, main_visits, probation_visits, stale}
use Rattle.rules.specs.Memory.{capacity, view_rows}
use Rattle.rules.proofs.RowLists.{find_at, total_without}
use Rattle.rules.proofs.SoundTest.{sound_is}
use Rattle.rules.proofs.Sizes.{few_rows, light}
use Rattle.memory.proofs.Fields.{same_head}

-- ---- a sound head's numbers

pub record Small (s : State) : Type 0 where
  pub max : s.max_entries ≤ max_rows
  pub rows : length s.rows ≤ max_rows
  pub stored : s.stored_weight ≤ max_rows * weight_limit

pub sound_small : (R : ℕ) (s : State) → sound R s ≡ true → Small s
sound_small R s h =
    let d = sound_is R s h in
    let n = few_rows R s d in
    record { max = omega (arith, d.small, d.space); rows = omega (arith, d.small); stored = omega (arith, d.stored_weight, light s.seq s.rows d.each, d.small) }

-- ---- what was read before room is sought

-- max_entries, and w cut to B, of n rows of a sound state
pub record Bounds (w m x n : ℕ) (l : List ℕ) : Type 0 where
  pub sound : sound (capacity l) (view_rows n l) ≡ true
  pub max : m ≡ (view_rows n l).max_entries
  pub cut : x ≡ min w (weight_bound m)

pub most : (m n : ℕ) (l : List ℕ) → sound (capacity l) (view_rows n l) ≡ true → m ≡ (view_rows 0 l).max_entries → m ≤ max_rows
most m n l h e = omega (arith, (same_head 0 n l).max_entries, (sound_small (capacity l) (view_rows n l) h).max)

pub bounds_read : {w m x n : ℕ} {l : List ℕ} → sound (capacity l) (view_rows n l) ≡ true → m ≡ (view_rows 0 l).max_entries → x ≡ min w (weight_bound m) → Bounds w m x n l
bounds_read {n = n} {l = l} h e c = record { sound = h; max = e ∙ (same_head 0 n l).max_entries; cut = c }

-- what has_room asks
pub room_asks : {w m x n k : ℕ} {l : List ℕ} → Bounds w m x n l → k ≤ max_rows * 256 → (m ≤ max_rows) × (k ≤ max_rows * 256) × (x ≤ weight_bound m)
room_asks {n = n} {l = l} b h = (omega (arith, b.max, (sound_small (capacity l) (view_rows n l) b.sound).max), h, omega (arith, b.cut))

-- ---- the closed form of room

-- of n rows all but those left were seen, and the ones verified in main counted and weighed
pub record Weighed (now n c w : ℕ) (left rs : List Row) : Type 0 where
  pub long : length rs ≡ n
  pub few : c + length left ≤ n
  pub light : w + 255 * length left ≤ 255 * n
  pub count : c + count_rows (verified_in_main now) left ≡ count_rows (verified_in_main now) rs
  pub weight : w + weigh_rows (verified_in_main now) left ≡ weigh_rows (verified_in_main now) rs

pub weighed_start : {now n : ℕ} {rs : List Row} → length rs ≡ n → Weighed now n 0 0 rs rs
weighed_start h = record { long = h; few = omega arith; light = omega arith; count = omega arith; weight = omega arith }

-- row r, which is seen, brings a to the count and x to the weight
brings : {now n c w : ℕ} {left rs : List Row} (r : Row) → Weighed now n c w (r ∷ left) rs → (a x d v : ℕ) → a ≤ 1 → x ≤ 255 → d ≡ c + a → v ≡ w + x
    → cond (verified_in_main now r) 1 0 ≡ a → cond (verified_in_main now r) r.weight 0 ≡ x → Weighed now n d v left rs
unfolding total
brings r t a x d v h k ed ev ea ex =
    record {
      long = t.long;
      few = omega (arith, t.few);
      light = omega (arith, t.light);
      count = omega (arith, t.count);
      weight = omega (arith, t.weight);
    }

module _ {now n c w : ℕ} {seen left rs : List Row} {r : Row} {b : Bool} (s : seen ≡ r ∷ left) (t : Weighed now n c w seen rs) (h : b ≡ verified_in_main now r) where
  pub weighed_in : {x : ℕ} → b ≡ true → x ≡ r.weight → x < 256 → Weighed now n (c + 1) (w + x) left rs
  weighed_in {x = x} f e q = let k = sym h ∙ f in brings r (rw s at t) 1 x (c + 1) (w + x) (omega arith) (omega arith) refl refl (rw k) (rw (k, e))

  pub weighed_past : b ≡ false → Weighed now n c w left rs
  weighed_past f = let k = sym h ∙ f in brings r (rw s at t) 0 0 c w (omega arith) (omega arith) (omega arith) (omega arith) (rw k) (rw k)

module _ {now n c w u m x : ℕ} {left : List Row} {l : List ℕ} (b : Bounds u m x n l) (t : Weighed now n c w left (view_rows n l).rows) where
  pub weighed_small : w + 255 * length left ≤ max_rows * 255
  weighed_small = omega (arith, t.light, t.long, (sound_small (capacity l) (view_rows n l) b.sound).rows)

  -- what has_room asks
  pub weighed_asks : (m ≤ max_rows) × (w ≤ max_rows * 256) × (x ≤ weight_bound m)
  weighed_asks = room_asks b (omega (arith, weighed_small))

  pub weighed_end : {r : Bool} → left ≡ [] → r ≡ ltb c m && leb (w + x) (weight_bound m) → r ≡ room_can_be_made now u (view_rows n l)
  unfolding room_can_be_made total
  weighed_end e h =
      let k = subst (λ (rs : List Row). Weighed now n c w rs (view_rows n l).rows) e t in
      let a : c ≡ count_rows (verified_in_main now) (view_rows n l).rows = omega (arith, k.count) in
      let d : w ≡ weigh_rows (verified_in_main now) (view_rows n l).rows = omega (arith, k.weight) in
      h ∙ rw (b.cut, b.max, a, d)

not_firm : (now : ℕ) (r : Row) → in_main r ≡ false → verified_in_main now r ≡ false
unfolding verified_in_main
not_firm now r m = rw m

-- a row that is not in main may be taken out before
pub closed_without : (now u i : ℕ) (s : State) → i < length s.rows → in_main (row_at i s.rows) ≡ false → room_can_be_made now u (take_out i s) ≡ room_can_be_made now u s
unfolding room_can_be_made take_out with_only_rows
closed_without now u i s h m =
    let rs = s.rows in
    let v = not_firm now (row_at i rs) m in
    let a : ◌≡◌ {A = ℕ} (cond (verified_in_main now (row_at i rs)) 1 0) 0 = rw v in
    let b : ◌≡◌ {A = ℕ} (cond (verified_in_main now (row_at i rs)) (row_at i rs).weight 0) 0 = rw v in
    let x = total_without (λ r. cond (verified_in_main now r) 1 0) i rs h in
    let y = total_without (λ r. cond (verified_in_main now r) r.weight 0) i rs h in
    let c : count_rows (verified_in_main now) (without_row i rs) ≡ count_rows (verified_in_main now) rs = omega arith in
    let d : weigh_rows (verified_in_main now) (without_row i rs) ≡ weigh_rows (verified_in_main now) rs = omega arith in
    rw (c, d)

-- the key's own row, where it is not in main
pub closed_without_key : (now u : ℕ) (k : NodeAddr) (s : State) → key_in_main k s ≡ false → room_can_be_made now u (without_key k s) ≡ room_can_be_made now u s
unfolding key_in_main without_key
closed_without_key now u k s m = go (find k s.rows) refl m
  where
    go : (o : Option ℕ) → find k s.rows ≡ o → maybe o false (λ i. in_main (row_at i s.rows)) ≡ false →
        room_can_be_made now u (maybe o s (λ i. take_out i s)) ≡ room_can_be_made now u s
    go None e h = refl
    go (Some i) e h = closed_without now u i s (find_at k s.rows i e).inside h

-- ---- a walk takes up each row at most twice: with it callers know that seq does not run over

pub main_visits_lem : (now : ℕ) (rs : List Row) → total (main_visits now) rs ≤ 2 * length rs
unfolding total main_visits
main_visits_lem now [] = omega arith
main_visits_lem now (r ∷ rs) = omega (arith, twice (at_place by_use r) (stale r) (at_place parked r && ltb r.stamp_first now), main_visits_lem now rs)
  where
    twice : (a b c : Bool) → cond a (cond b 2 1) (cond c 2 0) ≤ 2
    twice true true c = omega arith
    twice true false c = omega arith
    twice false b true = omega arith
    twice false b false = omega arith

pub probation_visits_lem : (rs : List Row) → total probation_visits rs ≤ 2 * length rs
unfolding total probation_visits
probation_visits_lem [] = omega arith
probation_visits_lem (r ∷ rs) = omega (arith, twice (at_place probation r) (stale r), probation_visits_lem rs)
  where
    twice : (a b : Bool) → cond a (cond b 2 1) 0 ≤ 2
    twice true true = omega arith
    twice true false = omega arith
    twice false b = omega arith
