-- The walk for a victim, turn by turn.
use mathlib.Core.Path.{◌≡◌, refl, sym, ap, ◌∙◌, subst}
use Prim.Native.Nat.{ℕ, zero, suc, ◌+◌, ◌*◌, ◌≤◌, ◌<◌}
use native.Mathlib.Omega.{arith}
use mathlib.Core.List.{List}
use Rattle.std.specs.Prelude.{Option, None, Some}
use mathlib.Core.Bool.{Bool, true, false}
use lib.Dec.{ltb}
use lib.ListN.{length}
use borrow.Author.Tests.{lt-ltb, le-ltb}
use Rattle.rules.specs.Records.{Row, State, by_use, parked}
use Rattle.rules.specs.Rows.{row_at, at_place, lowest_stamp, total, with_rows}
use Rattle.rules.specs.Entries.{verified}
use Rattle.rules.specs.Room.{Walk, main_visits, visits_left, take_up, restamp, park, stamp, raised, untouched, stale, return_lapsed, sought, next_victim}
use Rattle.rules.specs.Memory.{view_rows}
use Rattle.rules.specs.Layout.{head_size, number_limit, row_size}
use Rattle.rules.proofs.RowLists.{by_cond, by_maybe, lowest_at, total_some}
use Rattle.rules.proofs.Walks.{turns_last, turns_stale}
use Rattle.rules.proofs.Loops.{waking, lapsed_lapsed, lapsed_none, lapsed_calm, seeking, seek_none, seek_stale, seek_verified, seek_yields}
use Rattle.memory.proofs.RowLaws.{view_length}
use Rattle.stamps.specs.Walked.{walk_from, sought_of}

-- ---- what was found

-- row i has the lowest stamp of a place
pub row_inside : (place n i : ℕ) (m : List ℕ) {r : Option ℕ} → r ≡ lowest_stamp place (view_rows n m).rows → r ≡ Some i → i < n
row_inside place n i m h q = omega (arith, (lowest_at place (view_rows n m).rows i (sym h ∙ q)).inside, view_length n m)

-- ---- a walk, from memory l after e₀ keys to memory m after e

pub record Going {A : Type 0} (goal : ℕ → Walk → A) (now n e₀ e : ℕ) (l m : List ℕ) : Type 0 where
  pub long : length m ≡ length l
  pub size : head_size + n * row_size ≤ length m
  -- what is left to do is what was to do; the keys that are left can be counted, and stamps drawn for them
  pub same : goal now (walk_from (view_rows n l) e₀) ≡ goal now (walk_from (view_rows n m) e)
  pub keys : e + total (main_visits now) (view_rows n m).rows < number_limit
  pub stamps : (view_rows n m).seq + total (main_visits now) (view_rows n m).rows < number_limit

-- row i, the lowest of a place, is taken up next
pub record Found {A : Type 0} (goal : ℕ → Walk → A) (place now n e₀ e i : ℕ) (l m : List ℕ) : Type 0 where
  pub lowest : lowest_stamp place (view_rows n m).rows ≡ Some i
  pub inside : i < n
  pub going : Going goal now n e₀ e l m

pub found_row : {A : Type 0} {goal : ℕ → Walk → A} {place now n e₀ e i : ℕ} {l m : List ℕ} {r : Option ℕ} →
    Going goal now n e₀ e l m → r ≡ lowest_stamp place (view_rows n m).rows → r ≡ Some i → Found goal place now n e₀ e i l m
found_row {place = place} {n = n} {i = i} {m = m} {r = r} g h q = record { lowest = sym h ∙ q; inside = row_inside place n i m h q; going = g }

-- it was taken up, and memory x shows the rows then
pub record Turned {A : Type 0} (goal : ℕ → Walk → A) (now n e₀ e : ℕ) (l m x : List ℕ) : Type 0 where
  pub less : total (main_visits now) (view_rows n x).rows < total (main_visits now) (view_rows n m).rows
  pub going : Going goal now n e₀ (e + 1) l x

module _ {A : Type 0} {goal : ℕ → Walk → A} {now n e₀ e : ℕ} {l m x : List ℕ} (g : Going goal now n e₀ e l m) (k : length x ≡ length m) where
  turned : (s : State) → view_rows n x ≡ s → s.seq ≡ (view_rows n m).seq + 1 →
      (total (main_visits now) (view_rows n m).rows ≡ suc (total (main_visits now) s.rows)) × (goal now (walk_from (view_rows n m) e) ≡ goal now (walk_from s (e + 1))) →
      Turned goal now n e₀ e l m x
  turned s q d t =
      record {
        less = rw q (omega (arith, t.0));
        going = record {
          long = k ∙ g.long;
          size = omega (arith, g.size);
          same = rw q (g.same ∙ t.1);
          keys = rw q (omega (arith, t.0, g.keys));
          stamps = rw q (omega (arith, t.0, g.stamps));
        };
      }

-- ---- parked rows return

-- row i is the lowest parked one, and lapsed: a visit is left, and fewer once it is restamped
module _ (now n i : ℕ) (m : List ℕ) {r : Option ℕ} (h : r ≡ lowest_stamp parked (view_rows n m).rows) (q : r ≡ Some i) (u : (row_at i (view_rows n m).rows).stamp_first < now) where
  visited : total (main_visits now) (view_rows n m).rows ≡ suc (visits_left now (take_up restamp i (walk_from (view_rows n m) 0)))
  visited = (lapsed_lapsed now (walk_from (view_rows n m) 0) i (sym h ∙ q) (lt-ltb (row_at i (view_rows n m).rows).stamp_first now u)).0

  pub lapsed_left : 1 ≤ total (main_visits now) (view_rows n m).rows
  lapsed_left = omega (arith, visited)

  pub lapsed_less : (x : List ℕ) → view_rows n x ≡ restamp i (view_rows n m) → total (main_visits now) (view_rows n x).rows < total (main_visits now) (view_rows n m).rows
  unfolding take_up restamp stamp raised with_rows
  lapsed_less x v = rw v (omega (arith, visited))

pub ruleset returning = (row_inside, lapsed_left, lapsed_less)

module _ {now n e₀ e i : ℕ} {l m : List ℕ} (u : Found waking parked now n e₀ e i l m) where
  module _ (h : (row_at i (view_rows n m).rows).stamp_first < now) where
    lapsed : (total (main_visits now) (view_rows n m).rows ≡ suc (visits_left now (take_up restamp i (walk_from (view_rows n m) e))))
        × (waking now (walk_from (view_rows n m) e) ≡ waking now (take_up restamp i (walk_from (view_rows n m) e)))
    lapsed = lapsed_lapsed now (walk_from (view_rows n m) e) i u.lowest (lt-ltb (row_at i (view_rows n m).rows).stamp_first now h)

    pub lapsed_turn : {x : List ℕ} → length x ≡ length m → view_rows n x ≡ restamp i (view_rows n m) → Turned waking now n e₀ e l m x
    unfolding take_up restamp stamp raised with_rows
    lapsed_turn k q = turned u.going k (restamp i (view_rows n m)) q refl lapsed

  pub lapsed_rests : now ≤ (row_at i (view_rows n m).rows).stamp_first → walk_from (view_rows n m) e ≡ waking now (walk_from (view_rows n l) e₀)
  lapsed_rests h =
      let w = walk_from (view_rows n m) e in
      sym (u.going.same ∙ lapsed_calm now (visits_left now w) w i u.lowest (le-ltb (row_at i (view_rows n m).rows).stamp_first now h))

pub lapsed_ends : {now n e₀ e : ℕ} {l m : List ℕ} → Going waking now n e₀ e l m → lowest_stamp parked (view_rows n m).rows ≡ None →
    walk_from (view_rows n m) e ≡ waking now (walk_from (view_rows n l) e₀)
lapsed_ends {now} {n} {e₀} {e} {l} {m} g h = let w = walk_from (view_rows n m) e in sym (g.same ∙ lapsed_none now (visits_left now w) w h)

-- the keys that were taken up are no longer to be taken up, and as many stamps were drawn
record Paced (now : ℕ) (w x : Walk) : Type 0 where
  keys : x.examined + visits_left now x ≡ w.examined + visits_left now w
  stamps : x.state.seq + visits_left now x ≡ w.state.seq + visits_left now w

restamps : (i : ℕ) (w : Walk) → ((take_up restamp i w).examined ≡ w.examined + 1) × ((take_up restamp i w).state.seq ≡ w.state.seq + 1)
unfolding take_up restamp stamp raised with_rows
restamps i w = (refl, refl)

lapsed_paced : (now n : ℕ) (w : Walk) → Paced now w (return_lapsed n now w)
unfolding return_lapsed
lapsed_paced now zero w = record { keys = refl; stamps = refl }
lapsed_paced now (suc n) w = by_maybe (Paced now w) (lowest_stamp parked w.state.rows)
    (λ d. record { keys = refl; stamps = refl })
    (λ i d. by_cond (Paced now w) (ltb (row_at i w.state.rows).stamp_first now)
    (λ a.
    let k = lapsed_paced now n (take_up restamp i w) in
    let t = (lapsed_lapsed now w i d a).0 in
    record { keys = omega (arith, k.keys, (restamps i w).0); stamps = omega (arith, k.stamps, (restamps i w).1) })
    (λ a. record { keys = refl; stamps = refl }))

-- ---- the walk over ByUse, from the rows as they stand once the parked ones returned; the call began with those of z

pub seek_start : {now n e : ℕ} (z : List ℕ) {l : List ℕ} → walk_from (view_rows n l) e ≡ waking now (walk_from (view_rows n z) 0) → head_size + n * row_size ≤ length l →
    (view_rows n z).seq + total (main_visits now) (view_rows n z).rows < number_limit → Going seeking now n e e l l
seek_start {now} {n} {e} z {l} q h b =
    let w = walk_from (view_rows n z) 0 in
    let k : Paced now w (walk_from (view_rows n l) e) = subst (Paced now w) (sym q) (lapsed_paced now (visits_left now w) w) in
    record { long = refl; size = h; same = refl; keys = omega (arith, k.keys); stamps = omega (arith, k.stamps) }

-- row i is the lowest ByUse one: a visit is left, and fewer once it is restamped or parked
module _ (now n i : ℕ) (m : List ℕ) {r : Option ℕ} (h : r ≡ lowest_stamp by_use (view_rows n m).rows) (q : r ≡ Some i) where
  pub some_left : 1 ≤ total (main_visits now) (view_rows n m).rows
  some_left =
      let g = lowest_at by_use (view_rows n m).rows i (sym h ∙ q) in
      let r = row_at i (view_rows n m).rows in
      omega (arith, total_some (main_visits now) i (view_rows n m).rows g.inside, once r (stale r) refl g.there)
    where
      once : (r : Row) (b : Bool) → stale r ≡ b → at_place by_use r ≡ true → 1 ≤ main_visits now r
      once r true e a = omega (arith, turns_stale now r a e)
      once r false e a = omega (arith, turns_last now r a e)

  module _ {b : Bool} (a : b ≡ stale (row_at i (view_rows n m).rows)) where
    pub stale_less : (x : List ℕ) → b ≡ true → view_rows n x ≡ restamp i (view_rows n m) → total (main_visits now) (view_rows n x).rows < total (main_visits now) (view_rows n m).rows
    unfolding take_up restamp stamp raised with_rows
    stale_less x t v = rw v (omega (arith, (seek_stale now (walk_from (view_rows n m) 0) i (sym h ∙ q) (sym a ∙ t)).0))

    pub park_less : (x : List ℕ) {v : Bool} → b ≡ false → v ≡ verified now (row_at i (view_rows n m).rows).entry → v ≡ true → view_rows n x ≡ park i (view_rows n m)
        → total (main_visits now) (view_rows n x).rows < total (main_visits now) (view_rows n m).rows
    unfolding take_up park stamp raised with_rows
    park_less x f d t w = rw w (omega (arith, (seek_verified now (walk_from (view_rows n m) 0) i (sym h ∙ q) (sym a ∙ f) (sym d ∙ t)).0))

pub ruleset sought_on = (row_inside, some_left, stale_less, park_less)

module _ {now n e₀ e i : ℕ} {l m : List ℕ} (u : Found seeking by_use now n e₀ e i l m) where
  pub stale_turn : {b : Bool} {x : List ℕ} → b ≡ stale (row_at i (view_rows n m).rows) → b ≡ true → length x ≡ length m → view_rows n x ≡ restamp i (view_rows n m) →
      Turned seeking now n e₀ e l m x
  unfolding take_up restamp stamp raised with_rows
  stale_turn h t k q = turned u.going k (restamp i (view_rows n m)) q refl (seek_stale now (walk_from (view_rows n m) e) i u.lowest (sym h ∙ t))

  module _ {b v : Bool} (h : b ≡ stale (row_at i (view_rows n m).rows)) (f : b ≡ false) (d : v ≡ verified now (row_at i (view_rows n m).rows).entry) where
    pub park_turn : {x : List ℕ} → v ≡ true → length x ≡ length m → view_rows n x ≡ park i (view_rows n m) → Turned seeking now n e₀ e l m x
    unfolding take_up park stamp raised with_rows
    park_turn t k q = turned u.going k (park i (view_rows n m)) q refl (seek_verified now (walk_from (view_rows n m) e) i u.lowest (sym h ∙ f) (sym d ∙ t))

    pub yielded : (z : State) → v ≡ false → walk_from (view_rows n l) e₀ ≡ waking now (walk_from z 0) →
        sought_of (record { found = Some i; examined = e + 1 }) (view_rows n m) ≡ next_victim now (walk_from z 0)
    unfolding sought_of sought next_victim take_up untouched
    yielded z t q = sym (ap (seeking now) (sym q) ∙ u.going.same ∙ seek_yields now (walk_from (view_rows n m) e) i u.lowest (sym h ∙ f) (sym d ∙ t))

pub none_yielded : {now n e₀ e : ℕ} {l m : List ℕ} (z : State) → Going seeking now n e₀ e l m → lowest_stamp by_use (view_rows n m).rows ≡ None →
    walk_from (view_rows n l) e₀ ≡ waking now (walk_from z 0) → sought_of (record { found = None; examined = e }) (view_rows n m) ≡ next_victim now (walk_from z 0)
unfolding sought_of sought next_victim
none_yielded {now} {n} {e₀} {e} {l} {m} z g h q = let w = walk_from (view_rows n m) e in sym (ap (seeking now) (sym q) ∙ g.same ∙ seek_none now (visits_left now w) w h)
