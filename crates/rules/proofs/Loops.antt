-- The rules' walks as a loop meets them, without fuel; the lowest stamp and the victims' leaving by index, from the last row down.
use Prim.Native.Nat.{ℕ, zero, suc, ◌+◌, ◌<◌, ◌≤◌}
use mathlib.Core.Path.{◌≡◌, refl, sym, ◌∙◌, ap}
use mathlib.Core.List.{List, [], ◌∷◌, ◌++◌, append_assoc, append-nil}
use Rattle.std.specs.Prelude.{Option, None, Some}
use mathlib.Core.Bool.{Bool, true, false, cond, not}
use lib.Dec.{ltb}
use lib.ListN.{length, take, drop, drop_of_length-le}
use lib.Seq.{drop_at, drop-cons, get_or-drop, length-take-le, take_all, take_at, take-suc}
use native.Mathlib.Omega.{arith}
use Rattle.rules.specs.Cases.{maybe}
use Rattle.rules.specs.Records.{Row, State, aside, by_use, parked}
use Rattle.rules.specs.Rows.{at_place, blank_row, keep_rows, lower_of, lowest_stamp, main_count, next_index, row_at, stamp_before, without_row}
use Rattle.rules.specs.Entries.{verified}
use Rattle.rules.specs.Room.{Chosen, Sought, Walk, choose_victims, has_room, main_visits, next_victim, park, restamp, return_lapsed, seek, set_aside, sought, stale, take_up, untouched, visits_left}
use Rattle.rules.proofs.RowLists.{keep_append, length_without, lowest_at, total_some, without_eq}
use Rattle.rules.proofs.Walks.{Led, main_of, next_led, next_park, next_restamp, stays, turns_lapsed, turns_last, turns_stale}

-- ---- parked rows return

abbrev pub waking : ℕ → Walk → Walk
waking now w = return_lapsed (visits_left now w) now w

abbrev row : ℕ → Walk → Row
row i w = row_at i w.state.rows

pub lapsed_lapsed : (now : ℕ) (w : Walk) (i : ℕ) → lowest_stamp parked w.state.rows ≡ Some i → ltb (row i w).stamp_first now ≡ true → (visits_left now w ≡ suc (visits_left now (take_up restamp i w))) × (waking now w ≡ waking now (take_up restamp i w))
unfolding return_lapsed
lapsed_lapsed now w i l h =
    let g = lowest_at parked w.state.rows i l in
    let x = next_restamp now w i g.inside (main_of now w.state parked (row i w) (omega arith) g.there) (turns_lapsed now (row i w) g.there h) in
    (x.less, rw x.less (go (visits_left now (take_up restamp i w))))
  where
    go : (n : ℕ) → return_lapsed (suc n) now w ≡ return_lapsed n now (take_up restamp i w)
    go n = rw (l, return_lapsed, h)

pub lapsed_none : (now n : ℕ) (w : Walk) → lowest_stamp parked w.state.rows ≡ None → return_lapsed n now w ≡ w
unfolding return_lapsed
lapsed_none now zero w l = refl
lapsed_none now (suc n) w l = rw (l, return_lapsed)

pub lapsed_calm : (now n : ℕ) (w : Walk) (i : ℕ) → lowest_stamp parked w.state.rows ≡ Some i → ltb (row i w).stamp_first now ≡ false → return_lapsed n now w ≡ w
unfolding return_lapsed
lapsed_calm now zero w i l h = refl
lapsed_calm now (suc n) w i l h = rw (l, return_lapsed, h)

-- ---- the walk over ByUse

abbrev pub seeking : ℕ → Walk → Sought
seeking now w = seek (visits_left now w) now w

pub seek_none : (now n : ℕ) (w : Walk) → lowest_stamp by_use w.state.rows ≡ None → seek n now w ≡ sought None w
unfolding seek
seek_none now zero w l = refl
seek_none now (suc n) w l = rw (l, seek)

pub seek_stale : (now : ℕ) (w : Walk) (i : ℕ) → lowest_stamp by_use w.state.rows ≡ Some i → stale (row i w) ≡ true → (visits_left now w ≡ suc (visits_left now (take_up restamp i w))) × (seeking now w ≡ seeking now (take_up restamp i w))
unfolding seek
seek_stale now w i l h =
    let g = lowest_at by_use w.state.rows i l in
    let x = next_restamp now w i g.inside (main_of now w.state by_use (row i w) (omega arith) g.there) (turns_stale now (row i w) g.there h) in
    (x.less, rw x.less (go (visits_left now (take_up restamp i w))))
  where
    go : (n : ℕ) → seek (suc n) now w ≡ seek n now (take_up restamp i w)
    go n = rw (l, seek, h)

pub seek_verified : (now : ℕ) (w : Walk) (i : ℕ) → lowest_stamp by_use w.state.rows ≡ Some i → stale (row i w) ≡ false → verified now (row i w).entry ≡ true → (visits_left now w ≡ suc (visits_left now (take_up park i w))) × (seeking now w ≡ seeking now (take_up park i w))
unfolding seek
seek_verified now w i l h v =
    let g = lowest_at by_use w.state.rows i l in
    let x = next_park now w i g.inside g.there (turns_last now (row i w) g.there h) v in
    (x.less, rw x.less (go (visits_left now (take_up park i w))))
  where
    go : (n : ℕ) → seek (suc n) now w ≡ seek n now (take_up park i w)
    go n = rw (l, seek, h, v)

pub seek_yields : (now : ℕ) (w : Walk) (i : ℕ) → lowest_stamp by_use w.state.rows ≡ Some i → stale (row i w) ≡ false → verified now (row i w).entry ≡ false → seeking now w ≡ sought (Some i) (take_up untouched i w)
unfolding seek
seek_yields now w i l h v =
    let g = lowest_at by_use w.state.rows i l in
    go (visits_left now w) (omega (arith, total_some (main_visits now) i w.state.rows g.inside, turns_last now (row i w) g.there h))
  where
    go : (n : ℕ) → 1 ≤ n → seek n now w ≡ sought (Some i) (take_up untouched i w)
    go zero m = absurd (let z : ⊥ = omega arith in z)
    go (suc n) m = rw (l, seek, h, v)

-- ---- victims

abbrev pub choosing : ℕ → ℕ → Walk → Chosen
choosing now w v = choose_victims (suc (main_count v.state)) now w v

pub choose_done : (now w : ℕ) (v : Walk) → has_room w v.state ≡ true → choosing now w v ≡ record { made = true; walk = v }
unfolding choose_victims
choose_done now w v f = rw f

pub choose_none : (now w : ℕ) (v : Walk) → has_room w v.state ≡ false → (next_victim now v).victim ≡ None → choosing now w v ≡ record { made = false; walk = (next_victim now v).walk }
unfolding choose_victims
choose_none now w v f n = rw (f, n)

pub choose_more : (now w : ℕ) (s : State) (v : Walk) (i : ℕ) → Led now s v → has_room w v.state ≡ false → (next_victim now v).victim ≡ Some i → choosing now w v ≡ choosing now w (set_aside i (next_victim now v).walk)
unfolding choose_victims
choose_more now w s v i h f n = let m = ((next_led now s v h).yields i n).1 in rw (f, n) (ap (λ (k : ℕ). choose_victims k now w (set_aside i (next_victim now v).walk)) (sym m))

-- ---- the lowest stamp, by a loop that goes down

-- an index of rows from i on, as one of all rows
unfoldable pub from : ℕ → Option ℕ → Option ℕ
from i None = None
from i (Some j) = Some (i + j)

-- row i against the best of the rows behind it
unfoldable pub better : ℕ → ℕ → List Row → Option ℕ → Option ℕ
better p i rs o = cond (at_place p (row_at i rs)) (Some (maybe o i (λ j. cond (stamp_before (row_at j rs) (row_at i rs)) j i))) o

pub lowest_down : (p i : ℕ) (rs : List Row) → i < length rs → from i (lowest_stamp p (drop i rs)) ≡ better p i rs (from (suc i) (lowest_stamp p (drop (suc i) rs)))
unfolding better lowest_stamp lower_of from next_index
lowest_down p i rs h = rw (drop-cons rs i blank_row h) (go (at_place p (row_at i rs)) (lowest_stamp p (drop (suc i) rs)))
  where
    go : (b : Bool) (o : Option ℕ) → from i (cond b (Some (lower_of (row_at i rs) (drop (suc i) rs) o)) (next_index o)) ≡ cond b (Some (maybe (from (suc i) o) i (λ j. cond (stamp_before (row_at j rs) (row_at i rs)) j i))) (from (suc i) o)
    go true None = ap Some (let z : i + 0 ≡ i = omega arith in z)
    go true (Some j) = ap Some (rw (get_or-drop (suc i) rs j blank_row) (pick (stamp_before (row_at (suc i + j) rs) (row_at i rs)) j))
      where
        pick : (c : Bool) (j : ℕ) → i + cond c (suc j) 0 ≡ cond c (suc i + j) i
        pick true j = omega arith
        pick false j = omega arith
    go false None = refl
    go false (Some j) = ap Some (let z : i + suc j ≡ suc i + j = omega arith in z)

-- ---- the victims leave, by a loop that goes down

unfoldable pub clearing : ℕ → List Row → List Row
clearing zero rs = rs
clearing (suc i) rs = clearing i (cond (at_place aside (row_at i rs)) (without_row i rs) rs)

take_without : (i : ℕ) (rs : List Row) → i < length rs → take i (without_row i rs) ≡ take i rs
take_without i rs h = ap (take i) (without_eq i rs) ∙ take_at (take i rs) (drop (suc i) rs) i (length-take-le i rs (omega arith))

drop_without : (i : ℕ) (rs : List Row) → i < length rs → drop i (without_row i rs) ≡ drop (suc i) rs
drop_without i rs h = ap (drop i) (without_eq i rs) ∙ drop_at (take i rs) (drop (suc i) rs) i (length-take-le i rs (omega arith))

clear_part : (i : ℕ) (rs : List Row) → i ≤ length rs → clearing i rs ≡ keep_rows stays (take i rs) ++ drop i rs
unfolding clearing keep_rows
clear_part zero rs h = refl
clear_part (suc i) rs h = go (at_place aside (row_at i rs)) refl (clear_part i)
  where
    go : (b : Bool) → at_place aside (row_at i rs) ≡ b → ((rs : List Row) → i ≤ length rs → clearing i rs ≡ keep_rows stays (take i rs) ++ drop i rs) → clearing i (cond b (without_row i rs) rs) ≡ keep_rows stays (take (suc i) rs) ++ drop (suc i) rs
    go true e ih = ih (without_row i rs) (omega (arith, length_without i rs h)) ∙ rw (take_without i rs h, drop_without i rs h, take-suc rs i blank_row h, keep_append stays (take i rs) (row_at i rs ∷ []), e) (ap (λ (u : List Row). u ++ drop (suc i) rs) (sym (append-nil (keep_rows stays (take i rs)))))
    go false e ih = ih rs (omega arith) ∙ rw (drop-cons rs i blank_row h, take-suc rs i blank_row h, keep_append stays (take i rs) (row_at i rs ∷ []), e) (sym (append_assoc (keep_rows stays (take i rs)) (row_at i rs ∷ []) (drop (suc i) rs)))

pub clearing_keeps : (rs : List Row) → clearing (length rs) rs ≡ keep_rows (λ r. not (at_place aside r)) rs
clearing_keeps rs = clear_part (length rs) rs (omega arith) ∙ rw (take_all (length rs) rs (omega arith), drop_of_length-le rs (let z : length rs ≤ length rs = omega arith in z)) (append-nil (keep_rows stays rs))
