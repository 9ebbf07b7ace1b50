-- The pass over the rows: what holds where the loop stands, and what a turn does; and that head and rows together are `sound`.
use mathlib.Core.Path.{◌≡◌, refl, sym, ap, ◌∙◌}
use Prim.Native.Nat.{ℕ, ◌+◌, ◌*◌, ◌-◌, ◌≤◌, ◌<◌, min}
use native.Mathlib.Omega.{arith}
use mathlib.Core.Bool.{Bool, true, false, cond, ◌&&◌, and-false, and-true}
use mathlib.Core.List.{List}
use lib.Dec.{ltb, leb, eqb}
use lib.ListN.{length, drop, drop_of_length-le}
use borrow.Author.Tests.{leb-true, leb-false, lt-leb, eq-eqb, ne_eqb}
use Rattle.types.proofs.PathLaws.{uncons}
use Rattle.rules.specs.Records.{Row, State, max_rows, probation_bound, probation_limit, main_limit}
use Rattle.rules.specs.Rows.{row_at, blank_row, at_place, in_main, in_probation, count_rows, weigh_rows}
use Rattle.rules.specs.Sound.{leads, ascends, all, row_sound, sound}
use Rattle.rules.specs.Memory.{capacity, held_rows, view_rows, view}
use Rattle.rules.proofs.SoundTest.{and_case}
use Rattle.rules.proofs.Foreign.{rows_of_length}
use Rattle.memory.proofs.RowSums.{total_end, total_next}
use Rattle.state.specs.declared.pass.Totals.{Totals}
use Rattle.state.specs.Parts.{head_sound, rows_sound, tallied}

-- ---- the rows from row i on

module _ (rs : List Row) (i : ℕ) (h : i < length rs) where
  all_turn : (p : Row → Bool) → all p (drop i rs) ≡ (p (row_at i rs) && all p (drop (i + 1) rs))
  unfolding all
  all_turn p = ap (all p) (uncons rs i blank_row h)

  ascends_turn : ascends (drop i rs) ≡ (leads (row_at i rs) (drop (i + 1) rs) && ascends (drop (i + 1) rs))
  unfolding ascends
  ascends_turn = ap ascends (uncons rs i blank_row h)

module _ (rs : List Row) (i : ℕ) (h : length rs ≤ i) where
  all_end : (p : Row → Bool) → all p (drop i rs) ≡ true
  unfolding all
  all_end p = rw (drop_of_length-le rs h)

  ascends_end : ascends (drop i rs) ≡ true
  unfolding ascends
  ascends_end = rw (drop_of_length-le rs h)

-- ---- the pass

-- i rows were passed, with the totals t; q is the head's seq
pub record Passing (q : ℕ) (rs : List Row) (t : Totals) (i : ℕ) : Type 0 where
  pub within : i ≤ length rs
  pub each : all (row_sound q) rs ≡ all (row_sound q) (drop i rs)
  pub keys : ascends rs ≡ ascends (drop i rs)
  pub mains : t.main + count_rows in_main (drop i rs) ≡ count_rows in_main rs
  pub probations : t.probation + count_rows in_probation (drop i rs) ≡ count_rows in_probation rs
  pub weights : t.weight + weigh_rows in_main (drop i rs) ≡ weigh_rows in_main rs
  pub few_mains : t.main ≤ i
  pub few_probations : t.probation ≤ i
  pub light : t.weight ≤ i * 255

pub passing_start : (q : ℕ) (rs : List Row) → Passing q rs (record { main = 0; probation = 0; weight = 0 }) 0
passing_start q rs =
    record { within = omega arith; each = refl; keys = refl; mains = omega arith; probations = omega arith; weights = omega arith; few_mains = omega arith; few_probations = omega arith; light = omega arith }

at_most : (b : Bool) (w : ℕ) → cond b w 0 ≤ w
at_most true w = omega arith
at_most false w = omega arith

module _ (q : ℕ) (rs : List Row) (t : Totals) (i : ℕ) (p : Passing q rs t i) (h : i < length rs) where
  pub row_stops : (M Q w : ℕ) {x : Bool} → x ≡ row_sound q (row_at i rs) → x ≡ false → false ≡ rows_sound M Q q w rs
  unfolding rows_sound
  row_stops M Q w {x} e f = rw (p.each, all_turn rs i h (row_sound q), ← e, f) (simp and-false)

  pub key_stops : (M Q w : ℕ) {x : Bool} → x ≡ leads (row_at i rs) (drop (i + 1) rs) → x ≡ false → false ≡ rows_sound M Q q w rs
  unfolding rows_sound
  key_stops M Q w {x} e f = rw (p.keys, ascends_turn rs i h, ← e, f) (simp and-false)

  turn : row_sound q (row_at i rs) ≡ true → leads (row_at i rs) (drop (i + 1) rs) ≡ true → (row_at i rs).weight < 256
      → Passing q rs (tallied t (row_at i rs).place (row_at i rs).weight) (i + 1)
  unfolding tallied in_main at_place
  turn a b w =
      let r : Row = row_at i rs in
      let x = at_most (ltb r.place 2) 1 in
      let y = at_most (eqb r.place 2) 1 in
      let z = at_most (ltb r.place 2) r.weight in
      let m = total_next (λ s. cond (in_main s) 1 0) i rs h in
      let n = total_next (λ s. cond (in_probation s) 1 0) i rs h in
      let v = total_next (λ s. cond (in_main s) s.weight 0) i rs h in
      let m0 = p.mains in
      let n0 = p.probations in
      let v0 = p.weights in
      record {
        within = omega arith;
        each = p.each ∙ all_turn rs i h (row_sound q) ∙ simp a;
        keys = p.keys ∙ ascends_turn rs i h ∙ simp b;
        mains = omega arith;
        probations = omega arith;
        weights = omega arith;
        few_mains = omega arith;
        few_probations = omega arith;
        light = omega arith;
      }

  pub passing_turn : {x : Bool} {k w : ℕ} → x ≡ row_sound q (row_at i rs) → x ≡ true → leads (row_at i rs) (drop (i + 1) rs) ≡ true
      → k ≡ (row_at i rs).place → w ≡ (row_at i rs).weight → w < 256 → Passing q rs (tallied t k w) (i + 1)
  passing_turn {x} {k} {w} a a1 b ek ew z = rw (ek, ew) (turn (sym a ∙ a1) b (omega arith))

pub passing_end : (q M Q w : ℕ) (rs : List Row) (t : Totals) (i : ℕ) → Passing q rs t i → length rs ≤ i
    → (leb t.main M && (leb t.probation Q && eqb w t.weight)) ≡ rows_sound M Q q w rs
unfolding rows_sound
passing_end q M Q w rs t i p h =
    let a : t.main ≡ count_rows in_main rs = omega (arith, p.mains, total_end (λ s. cond (in_main s) 1 0) i rs h) in
    let b : t.probation ≡ count_rows in_probation rs = omega (arith, p.probations, total_end (λ s. cond (in_probation s) 1 0) i rs h) in
    let c : t.weight ≡ weigh_rows in_main rs = omega (arith, p.weights, total_end (λ s. cond (in_main s) s.weight 0) i rs h) in
    rw (p.each, p.keys, all_end rs i h (row_sound q), ascends_end rs i h, a, b, c) (simp and-true)

-- ---- the head, and both together

pub record HeadFacts (R m count : ℕ) : Type 0 where
  pub small : R ≤ max_rows
  pub space : m + probation_bound m ≤ R
  pub there : count ≤ R

pub head_facts : {R m count : ℕ} → head_sound R m count ≡ true → HeadFacts R m count
unfolding head_sound
head_facts e = and_case _ _ e (λ a f. and_case _ _ f (λ b c. record { small = leb-true _ _ a; space = leb-true _ _ b; there = leb-true _ _ c }))

-- no state of no rows is sound
pub none_sound : (s : State) → sound 0 s ≡ false
unfolding sound
none_sound s = let h : 0 < s.max_entries + probation_limit s = omega arith in simp (lt-leb _ _ h)

-- the head's count is the number of rows held exactly where they are there
count_held : (c R : ℕ) → eqb c (min c R) ≡ leb c R
count_held c R = go (leb c R) refl
  where
    go : (b : Bool) → leb c R ≡ b → eqb c (min c R) ≡ b
    go true e = eq-eqb c (min c R) (omega (arith, leb-true c R e))
    go false e = ne_eqb c (min c R) (λ f. let n : ⊥ = omega (arith, leb-false c R e) in n)

regroup : (a b c x y z : Bool) → (a && (b && (x && (y && (c && z))))) ≡ ((a && (b && c)) && (x && (y && z)))
regroup false b c x y z = refl
regroup true false c x y z = refl
regroup true true true x y z = refl
regroup true true false false y z = refl
regroup true true false true false z = refl
regroup true true false true true z = refl

-- the two parts, of a memory
abbrev pub headed : List ℕ → Bool
headed l = head_sound (capacity l) (view_rows 0 l).max_entries (view_rows 0 l).row_count

abbrev pub rowed : List ℕ → Bool
rowed l = rows_sound (main_limit (capacity l) (view_rows 0 l)) (probation_limit (view_rows 0 l)) (view_rows 0 l).seq (view_rows 0 l).stored_weight (view l).rows

pub sound_parts : (l : List ℕ) → sound (capacity l) (view l) ≡ (headed l && rowed l)
unfolding sound head_sound rows_sound view view_rows held_rows
sound_parts l = rw (rows_of_length, count_held, regroup (leb (capacity l) max_rows))

held_all : (l : List ℕ) → (view_rows 0 l).row_count ≤ capacity l → view_rows (view_rows 0 l).row_count l ≡ view l
unfolding view_rows view held_rows
held_all l h = let e : (view_rows 0 l).row_count ≡ held_rows l = omega arith in ap (λ (n : ℕ). view_rows n l) e

-- by what the check reads of a memory
module _ (l : List ℕ) {R m n : ℕ} {x : Bool} (er : R ≡ capacity l) (em : m ≡ (view_rows 0 l).max_entries) (en : n ≡ (view_rows 0 l).row_count) (ex : x ≡ head_sound R m n) where
  pub head_stops : x ≡ false → false ≡ sound (capacity l) (view l)
  head_stops e = rw (sound_parts l, ← er, ← em, ← en, ← ex, e)

  pub rows_decide : {q w Q : ℕ} {y : Bool} → x ≡ true → q ≡ (view_rows 0 l).seq → w ≡ (view_rows 0 l).stored_weight → Q ≡ probation_bound m → y ≡ rows_sound (R - Q) Q q w (view_rows n l).rows → y ≡ sound (capacity l) (view l)
  rows_decide {q} {w} {Q} {y} e eq ew e_q ey =
      let t : head_sound R m n ≡ true = sym ex ∙ e in
      let v : view_rows n l ≡ view l = rw en (held_all l (omega (arith, (head_facts t).there))) in
      rw (ey, sound_parts l, ← v, ← er, ← em, ← en, ← ex, e, eq, ew, e_q)
