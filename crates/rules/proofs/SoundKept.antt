-- Every call keeps a sound state sound, and fresh makes one.
use Prim.Native.Nat.{ℕ, ◌+◌, ◌≤◌}
use mathlib.Core.Path.{◌≡◌, refl}
use mathlib.Core.List.{List, [], ◌∷◌}
use mathlib.Core.Bool.{Bool, true, false, cond, ◌||◌}
use lib.Dec.{ltb, eqb}
use lib.ListN.{length}
use borrow.Author.Tests.{ltb-true, ltb-false, ne_eqb, eqb-true, eqb-false}
use native.Mathlib.Omega.{arith}
use Rattle.types.specs.declared.node_addr.NodeAddr.{NodeAddr}
use Rattle.rules.specs.Cases.{Every, maybe}
use Rattle.rules.specs.Records.{Row, State, aside, probation_bound, max_rows}
use Rattle.rules.specs.Rows.{at_place, count_rows, in_main, in_probation, total}
use Rattle.rules.specs.Sound.{sound}
use Rattle.rules.specs.Calls.{Call}
use Rattle.rules.specs.Refusals.{Step, bad_size, fresh, gives, perform, step}
use Rattle.rules.specs.Lists.{run}
use Rattle.rules.proofs.Addresses.{contradiction}
use Rattle.rules.proofs.RowLists.{cores, every_map, look, rising_unique, unique_look}
use Rattle.rules.proofs.SoundTest.{RowOk, Sound, is_sound, sound_is}
use Rattle.rules.proofs.Others.{charge}
use Rattle.rules.proofs.Refused.{Allowed, by_step}
use Rattle.rules.proofs.CallsKeep.{Accounted, CallKeeps, keeps_perform}

-- ---- each step, on any state

-- accounts that fit the rows of a state
abbrev pub fitting : State → NodeAddr → ℕ
fitting s k = maybe (look k (cores s.rows)) 0 charge

pub fitting_fits : (R : ℕ) (s : State) → Sound R s → Accounted (fitting s) s
fitting_fits R s h = every_map (λ y e. rw e) (cores s.rows) (unique_look (cores s.rows) (rising_unique (cores s.rows) h.rising))

pub perform_keeps : (R : ℕ) (s : State) (q : Call) → Allowed R s q → CallKeeps R (fitting s) s q (perform s q)
perform_keeps R s q l = let h = sound_is R s l.sound in keeps_perform R (fitting s) s q l h (fitting_fits R s h)

kept_sound : (R : ℕ) (s : State) (q : Call) → Sound R s → Sound R (step R s q).state
unfolding gives
kept_sound R s q h = by_step R s q (λ (t : Step). Sound R t.state) (λ n. h) (λ l. (perform_keeps R s q l).sound)

-- EVERY CALL KEEPS A SOUND STATE SOUND
pub step_sound : (R : ℕ) (s : State) (q : Call) → sound R s ≡ true → sound R (step R s q).state ≡ true
step_sound R s q h = is_sound R (step R s q).state (kept_sound R s q (sound_is R s h))

-- and so does every list of calls
pub run_sound : (R : ℕ) (s : State) (qs : List Call) → sound R s ≡ true → sound R (run R s qs).state ≡ true
unfolding run
run_sound R s [] h = h
run_sound R s (q ∷ qs) h = run_sound R (step R s q).state qs (step_sound R s q h)

-- A FRESH THAT IS NOT REFUSED MAKES A SOUND STATE
pub fresh_sound : (R m ttl : ℕ) (tail : List ℕ) → bad_size R m ≡ false → sound R (fresh R m ttl tail) ≡ true
unfolding bad_size fresh total
fresh_sound R m ttl tail h = go (ltb max_rows R) refl (ltb R (m + probation_bound m)) refl h
  where
    go : (a : Bool) → ltb max_rows R ≡ a → (b : Bool) → ltb R (m + probation_bound m) ≡ b → a || b ≡ false → sound R (fresh R m ttl tail) ≡ true
    go true e b f g = contradiction {b = true} refl g
    go false e true f g = contradiction {b = true} refl g
    go false e false f g = is_sound R (fresh R m ttl tail) (record { small = omega (arith, ltb-false max_rows R e); space = omega (arith, ltb-false R (m + probation_bound m) f); mains = omega arith; probations = omega arith; counted = refl; stored_weight = refl; rising = tt; each = tt })

off_aside : (r : Row) → r.place ≤ 2 → at_place aside r ≡ false
unfolding at_place
off_aside r l = ne_eqb r.place 3 (λ e. let n : ⊥ = omega arith in n)

pub none_aside : (n : ℕ) (rs : List Row) → Every (RowOk n) rs → count_rows (at_place aside) rs ≡ 0
unfolding total
none_aside n [] h = refl
none_aside n (r ∷ rs) h = rw (off_aside r h.0.place) (omega (arith, none_aside n rs h.1))

-- no call on a sound state leaves a row under the fourth place code
pub no_row_aside : (R : ℕ) (s : State) (q : Call) → sound R s ≡ true → count_rows (at_place aside) (step R s q).state.rows ≡ 0
no_row_aside R s q h = none_aside (step R s q).state.seq (step R s q).state.rows (sound_is R (step R s q).state (step_sound R s q h)).each

one_segment : (r : Row) → r.place ≤ 2 → cond (in_main r) 1 0 + cond (in_probation r) 1 0 ≡ 1
unfolding in_main at_place
one_segment r l = go (ltb r.place 2) refl (eqb r.place 2) refl
  where
    go : (a : Bool) → ltb r.place 2 ≡ a → (b : Bool) → eqb r.place 2 ≡ b → cond a 1 0 + cond b 1 0 ≡ 1
    go true e true f = absurd (let u = ltb-true r.place 2 e in let v = eqb-true r.place 2 f in let n : ⊥ = omega arith in n)
    go true e false f = refl
    go false e true f = refl
    go false e false f = absurd (let u = ltb-false r.place 2 e in let v = eqb-false r.place 2 f in let n : ⊥ = omega arith in n)

pub both_segments : (n : ℕ) (rs : List Row) → Every (RowOk n) rs → count_rows in_main rs + count_rows in_probation rs ≡ length rs
unfolding total
both_segments n [] h = refl
both_segments n (r ∷ rs) h = omega (arith, one_segment r h.0.place, both_segments n rs h.1)

-- a sound state counts at most R rows
pub count_fits : (R : ℕ) (s : State) → sound R s ≡ true → s.row_count ≤ R
count_fits R s h = let g = sound_is R s h in omega (arith, g.counted, both_segments s.seq s.rows g.each, g.mains, g.probations, g.space)
