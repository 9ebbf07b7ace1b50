-- A walk that goes on after e keys were taken up is the walk from 0, counted from e.
use mathlib.Core.Path.{◌≡◌, refl, sym, ap, ◌∙◌}
use Prim.Native.Nat.{ℕ, zero, suc, ◌+◌}
use native.Mathlib.Omega.{arith}
use Rattle.std.specs.Prelude.{Option, None, Some}
use mathlib.Core.Bool.{Bool, true, false, cond}
use lib.Dec.{ltb}
use Rattle.rules.specs.Cases.{maybe}
use Rattle.rules.specs.Records.{State, by_use, parked}
use Rattle.rules.specs.Rows.{row_at, lowest_stamp}
use Rattle.rules.specs.Entries.{verified}
use Rattle.rules.specs.Room.{Walk, Sought, visits_left, take_up, restamp, park, untouched, stale, return_lapsed, seek, sought, next_victim}
use Rattle.stamps.specs.declared.walk.Victim.{Victim}
use Rattle.stamps.specs.Walked.{walk_from, sought_of}

abbrev later : ℕ → Walk → Walk
later e w = walk_from w.state (e + w.examined)

abbrev later_sought : ℕ → Sought → Sought
later_sought e x = record { victim = x.victim; walk = later e x.walk }

take_later : (f : ℕ → State → State) (i e : ℕ) (w : Walk) → take_up f i (later e w) ≡ later e (take_up f i w)
unfolding take_up
take_later f i e w = let z : e + w.examined + 1 ≡ e + (w.examined + 1) = omega arith in ap (λ (x : ℕ). walk_from (f i w.state) x) z

lapsed_later : (now n e : ℕ) (w : Walk) → return_lapsed n now (later e w) ≡ later e (return_lapsed n now w)
unfolding return_lapsed
lapsed_later now zero e w = refl
lapsed_later now (suc n) e w = go (lowest_stamp parked w.state.rows) (lapsed_later now n e)
  where
    go : (o : Option ℕ) → ((x : Walk) → return_lapsed n now (later e x) ≡ later e (return_lapsed n now x))
        → maybe o (later e w) (λ i. cond (ltb (row_at i w.state.rows).stamp_first now) (return_lapsed n now (take_up restamp i (later e w))) (later e w))
        ≡ later e (maybe o w (λ i. cond (ltb (row_at i w.state.rows).stamp_first now) (return_lapsed n now (take_up restamp i w)) w))
    go None ih = refl
    go (Some i) ih = pick (ltb (row_at i w.state.rows).stamp_first now)
      where
        pick : (b : Bool) → cond b (return_lapsed n now (take_up restamp i (later e w))) (later e w) ≡ later e (cond b (return_lapsed n now (take_up restamp i w)) w)
        pick true = ap (return_lapsed n now) (take_later restamp i e w) ∙ ih (take_up restamp i w)
        pick false = refl

-- row i is taken up: restamped, parked or yielded
abbrev met : ℕ → ℕ → Walk → ℕ → Bool → Bool → Sought
met now n w i b v = cond b (seek n now (take_up restamp i w)) (cond v (seek n now (take_up park i w)) (sought (Some i) (take_up untouched i w)))

seek_later : (now n e : ℕ) (w : Walk) → seek n now (later e w) ≡ later_sought e (seek n now w)
unfolding seek sought
seek_later now zero e w = refl
seek_later now (suc n) e w = go (lowest_stamp by_use w.state.rows) (seek_later now n e)
  where
    go : (o : Option ℕ) → ((x : Walk) → seek n now (later e x) ≡ later_sought e (seek n now x)) →
        maybe o (sought None (later e w)) (λ i. met now n (later e w) i (stale (row_at i w.state.rows)) (verified now (row_at i w.state.rows).entry))
        ≡ later_sought e (maybe o (sought None w) (λ i. met now n w i (stale (row_at i w.state.rows)) (verified now (row_at i w.state.rows).entry)))
    go None ih = refl
    go (Some i) ih = pick (stale (row_at i w.state.rows)) (verified now (row_at i w.state.rows).entry)
      where
        pick : (b v : Bool) → met now n (later e w) i b v ≡ later_sought e (met now n w i b v)
        pick true v = ap (seek n now) (take_later restamp i e w) ∙ ih (take_up restamp i w)
        pick false true = ap (seek n now) (take_later park i e w) ∙ ih (take_up park i w)
        pick false false = ap (sought (Some i)) (take_later untouched i e w)

next_later : (now e : ℕ) (w : Walk) → next_victim now (later e w) ≡ later_sought e (next_victim now w)
unfolding next_victim
next_later now e w =
    let v = return_lapsed (visits_left now w) now w in
    ap (λ (x : Walk). seek (visits_left now x) now x) (lapsed_later now (visits_left now w) e w) ∙ seek_later now (visits_left now v) e v

-- what next_victim answers from s to t, where e keys were taken up before
pub next_from : (now e : ℕ) (s t : State) (r : Victim) → sought_of r t ≡ next_victim now (walk_from s 0) →
    next_victim now (walk_from s e) ≡ sought r.found (walk_from t (e + r.examined))
unfolding sought_of sought
next_from now e s t r h =
    let z : e ≡ e + 0 = omega arith in
    ap (λ (x : ℕ). next_victim now (walk_from s x)) z ∙ next_later now e (walk_from s 0) ∙ ap (later_sought e) (sym h)
