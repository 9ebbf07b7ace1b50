-- Victims left in place.
use mathlib.Core.Path.{◌≡◌, refl, ap, subst}
use Prim.Native.Nat.{ℕ, zero, suc, ◌+◌, ◌≤◌, ◌<◌, ◌*◌}
use native.Mathlib.Omega.{arith}
use mathlib.Core.List.{List, [], ◌∷◌}
use mathlib.Core.Bool.{Bool, true, false, cond, not}
use lib.Dec.{ltb, eqb}
use lib.ListN.{length}
use borrow.Author.Tests.{eqb-true}
use Rattle.rules.specs.Records.{Row, State, aside, by_use, max_rows, weight_limit}
use Rattle.rules.specs.Rows.{row_at, at_place, in_main, keep_rows, without_row, total, count_rows, weigh_rows}
use Rattle.rules.specs.Room.{at_new_place, put_back, take_out}
use Rattle.rules.proofs.RowLists.{Rising, cores, find_none, total_some, total_without}
use Rattle.rules.proofs.SoundTest.{ascends_test}
use Rattle.rules.proofs.GotPart.{find_gone}
use Rattle.rules.proofs.Walks.{place_is}
use Rattle.std.specs.Prelude.{Option, Some, None}
use Rattle.std.specs.Option.{ForSome}
use Rattle.std.proofs.lemmas.Option.{none-some, same_Some}
use Rattle.room.specs.declared.victims.Victim.{Victim}
use Rattle.room.specs.Rooms.{LeftAt, without_victim}

-- ---- one victim, or none

-- a row of ts that is not in main, where ts has the keys of rs
pub left_at : (v : Victim) (rs ts : List Row) → Rising (cores rs) → cores ts ≡ cores rs → v.at < length ts → in_main (row_at v.at ts) ≡ false →
    v.stored ≡ weigh_rows in_main ts → v.stored ≤ max_rows * weight_limit → LeftAt v rs ts
left_at v rs ts r e h m q l =
    let z : ◌≡◌ {A = ℕ} (cond (in_main (row_at v.at ts)) (row_at v.at ts).weight 0) 0 = rw m in
    record {
      inside = h;
      weighs = omega (arith, total_without (λ x. cond (in_main x) x.weight 0) v.at ts h);
      light = l;
      rising = ascends_test ts (rw e r);
      gone = λ k f. find_gone k ts (rw e (find_none k rs f));
    }

-- what holds of what there is, if it is there
pub at_one : {T : Type 0} (P : T → Type 0) (x : T) → P x → ForSome (Some x) P
at_one P x p y e = subst P (same_Some x y e) p

pub at_none : {T : Type 0} (P : T → Type 0) → ForSome None P
at_none P y e = absurd (none-some y e)

pub without_at : (o : Option Victim) (v : Victim) (s : State) → o ≡ Some v → without_victim o s ≡ take_out v.at s
unfolding without_victim
without_at o v s e = rw e

pub without_none : (o : Option Victim) (s : State) → o ≡ None → without_victim o s ≡ s
unfolding without_victim
without_none o s e = rw e

-- ---- rows aside, counted

abbrev asides : List Row → ℕ
asides rs = count_rows (at_place aside) rs

-- the rows that were not set aside
abbrev pub not_aside : List Row → List Row
not_aside rs = keep_rows (λ r. not (at_place aside r)) rs

none_aside : (rs : List Row) → asides rs ≡ 0 → not_aside rs ≡ rs
unfolding total keep_rows
none_aside [] h = refl
none_aside (r ∷ rs) h = go (at_place aside r) h (none_aside rs)
  where
    go : (b : Bool) → cond b 1 0 + asides rs ≡ 0 → (asides rs ≡ 0 → not_aside rs ≡ rs)
        → cond (not b) (r ∷ not_aside rs) (not_aside rs) ≡ r ∷ rs
    go true c ih = absurd (let z : ⊥ = omega arith in z)
    go false c ih = ap (λ (xs : List Row). r ∷ xs) (ih (omega arith))

pub one_aside : (i : ℕ) (rs : List Row) → i < length rs → at_place aside (row_at i rs) ≡ true → count_rows (at_place aside) rs ≡ 1 → not_aside rs ≡ without_row i rs
unfolding total keep_rows without_row
one_aside i [] h a c = absurd (let z : ⊥ = omega arith in z)
one_aside zero (r ∷ rs) h a c = let d : 1 + asides rs ≡ 1 = rw a at c in rw a (none_aside rs (omega arith))
one_aside (suc i) (r ∷ rs) h a c =
    let d : 1 ≤ asides rs = rw a at (total_some (λ x. cond (at_place aside x) 1 0) i rs (omega arith)) in
    go (at_place aside r) c d (one_aside i rs (omega arith) a)
  where
    go : (b : Bool) → cond b 1 0 + asides rs ≡ 1 → 1 ≤ asides rs → (asides rs ≡ 1 → not_aside rs ≡ without_row i rs)
        → cond (not b) (r ∷ not_aside rs) (not_aside rs) ≡ r ∷ without_row i rs
    go true d m ih = absurd (let z : ⊥ = omega arith in z)
    go false d m ih = ap (λ (xs : List Row). r ∷ xs) (ih (omega arith))

-- a row put back is in main, or it was there
back_main : (r : Row) → cond (in_main (put_back r)) 1 0 ≡ cond (in_main r) 1 0 + cond (at_place aside r) 1 0
unfolding put_back at_place in_main at_new_place
back_main r = go (eqb r.place 3) refl
  where
    go : (b : Bool) → eqb r.place 3 ≡ b → cond (ltb (cond b (at_new_place by_use r) r).place 2) 1 0 ≡ cond (ltb r.place 2) 1 0 + cond b 1 0
    go true e = rw (eqb-true r.place 3 e)
    go false e = omega arith

pub back_mains : (rs : List Row) → count_rows (λ r. in_main (put_back r)) rs ≡ count_rows in_main rs + count_rows (at_place aside) rs
unfolding total
back_mains [] = refl
back_mains (r ∷ rs) = omega (arith, back_main r, back_mains rs)

pub aside_not_main : (r : Row) → at_place aside r ≡ true → in_main r ≡ false
unfolding in_main
aside_not_main r h = rw (place_is aside r h)
