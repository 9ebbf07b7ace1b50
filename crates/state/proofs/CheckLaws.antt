-- What a caller may use of the check.
use mathlib.Core.Path.{◌≡◌, refl, sym, ap, ◌∙◌}
use Prim.Native.Nat.{ℕ, ◌+◌, ◌*◌, ◌≤◌}
use native.Mathlib.Omega.{arith}
use mathlib.Core.Bool.{Bool, true, false, ◌&&◌, ◌||◌, not}
use mathlib.Core.List.{List}
use lib.Dec.{ltb, leb, eqb}
use lib.ListN.{length}
use borrow.Author.Tests.{ltb-true, ltb-false, le-leb, lt-leb}
use Rattle.rules.specs.Records.{Row, State, max_rows, probation_bound}
use Rattle.rules.specs.Rows.{in_main, in_probation, count_rows, weigh_rows}
use Rattle.rules.specs.Sound.{ascends, all, row_sound, sound}
use Rattle.rules.specs.Refusals.{bad_size}
use Rattle.rules.specs.Memory.{capacity, held_rows, view_rows, view}
use Rattle.rules.proofs.SoundTest.{and_left, and_right}
use Rattle.rules.proofs.Public.{SoundMemory, sound_memory}
use Rattle.rules.specs.Layout.{head_size, row_size}
use Rattle.state.specs.Parts.{head_sound, rows_sound}
use Rattle.state.proofs.PassLaws.{head_facts, headed, rowed, sound_parts}

-- what `is_sound` gives of a memory whose head counts n rows, beside what the rules say of it
pub record Checked (l : List ℕ) (n : ℕ) : Type 0 where
  pub shown : SoundMemory l n
  pub head : head_size ≤ length l
  pub fits : capacity l * row_size + head_size ≤ length l
  pub there : n ≤ capacity l
  pub held : held_rows l ≡ n
  pub rising : ascends (view l).rows ≡ true
  pub ascending : ascends (view_rows n l).rows ≡ true

rows_ascend : (M Q q w : ℕ) (rs : List Row) → rows_sound M Q q w rs ≡ true → ascends rs ≡ true
unfolding rows_sound
rows_ascend M Q q w rs e = and_left (ascends rs) (all (row_sound q) rs) (and_right (eqb w (weigh_rows in_main rs)) _ (and_right (leb (count_rows in_probation rs) Q) _ (and_right (leb (count_rows in_main rs) M) _ e)))

pub sound_checked : (l : List ℕ) {n : ℕ} → n ≡ (view_rows 0 l).row_count → sound (capacity l) (view l) ≡ true → Checked l n
unfolding capacity held_rows view_rows
sound_checked l {n} c e =
    let b : headed l && rowed l ≡ true = sym (sound_parts l) ∙ e in
    let h = head_facts (and_left (headed l) (rowed l) b) in
    let m = sound_memory l n e c in
    let r : ascends (view l).rows ≡ true = rows_ascend _ _ _ _ _ (and_right (headed l) (rowed l) b) in
    record { shown = m; head = omega arith; fits = omega arith; there = omega arith; held = omega arith; rising = r; ascending = ap (λ (s : State). ascends s.rows) m.same ∙ r }

-- as a caller has it past `if !is_sound(state) { return .. }`
pub when_checked : (l : List ℕ) {n : ℕ} {x : Bool} → n ≡ (view_rows 0 l).row_count → x ≡ sound (capacity l) (view l) → x ≡ true → Checked l n
when_checked l {n} {x} c e f = sound_checked l c (sym e ∙ f)

-- fresh's refusal 5 is the head's check, of no rows
pub size_refused : (R m : ℕ) → bad_size R m ≡ not (head_sound R m 0)
unfolding bad_size head_sound
size_refused R m = go (ltb max_rows R) refl (ltb R (m + probation_bound m)) refl
  where
    go : (a : Bool) → ltb max_rows R ≡ a → (b : Bool) → ltb R (m + probation_bound m) ≡ b → a || b ≡ not (leb R max_rows && (leb (m + probation_bound m) R && leb 0 R))
    go true e b f = rw (lt-leb R max_rows (ltb-true max_rows R e))
    go false e true f = rw (le-leb R max_rows (ltb-false max_rows R e), lt-leb (m + probation_bound m) R (ltb-true R (m + probation_bound m) f))
    go false e false f = rw (le-leb R max_rows (ltb-false max_rows R e), le-leb (m + probation_bound m) R (ltb-false R (m + probation_bound m) f), le-leb 0 R (omega arith))
