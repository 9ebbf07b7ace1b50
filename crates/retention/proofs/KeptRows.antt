-- Sweeps and clear.
use mathlib.Core.Path.{◌≡◌, refl, sym, ap, ◌∙◌, subst}
use Prim.Native.Nat.{ℕ, suc, ◌+◌, ◌*◌, ◌-◌, ◌≤◌, ◌<◌}
use native.Mathlib.Omega.{arith}
use mathlib.Core.List.{List, [], ◌∷◌, ◌++◌, append-nil}
use mathlib.Core.Bool.{Bool, true, false, cond, not}
use lib.ListN.{length, take, length-append}
use lib.Seq.{sets}
use lib.Dec.{ltb}
use borrow.Author.Tests.{lt-ltb, le-ltb, ltb-true, ltb-false}
use Rattle.rules.specs.Records.{Row, State}
use Rattle.rules.specs.Rows.{row_at, keep_rows, total, count_rows, in_main, weigh_rows, main_weight, with_rows, with_only_rows, zero_rows}
use Rattle.rules.specs.Memory.{cut, view_rows}
use Rattle.rules.proofs.RowLists.{every_at}
use Rattle.rules.specs.Layout.{head_size, row_size}
use Rattle.memory.specs.Edits.{Keeping, shrunk}
use Rattle.memory.proofs.RowLaws.{view_length, only_shrunk}
use Rattle.memory.proofs.KeepLaws.{keeping_start, keeping_row, keeping_skip, keeping_stay, keeping_copy, keeping_end, keep_next, keep_all}
use Rattle.retention.specs.Sweep.{PathFit, kept_rows, kept_down, OnlyKept, PathsFit, Swept, Tests}

-- ---- a row goes down

pub down : (i j : ℕ) (l m : List ℕ) → j < i → m ≡ sets l (head_size + j * row_size) (cut (head_size + i * row_size) row_size l) → m ≡ kept_down i j l
unfolding kept_down
down i j l m h e = rw (lt-ltb j i h) e

pub down_stays : (i j : ℕ) (l : List ℕ) → i ≤ j → l ≡ kept_down i j l
unfolding kept_down
down_stays i j l h = rw (le-ltb j i h)

-- ---- i of n rows were passed, j of them stay

pub record Kept (R : Row → Bool → Type 0) (n i j : ℕ) (l m : List ℕ) : Type 0 where
  pub long : length m ≡ length l
  pub within : i ≤ n
  pub below : j ≤ i
  rows : List Row
  counted : j ≡ length rows
  keeping : Keeping i j rows l m
  tested : (test : Row → Bool) → Tests R test → kept_rows test (take i (view_rows n l).rows) ≡ rows

pub kept_start : {R : Row → Bool → Type 0} {n : ℕ} {l : List ℕ} → Kept R n 0 0 l l
unfolding kept_rows keep_rows
kept_start {l = l} = record { long = refl; within = omega arith; below = omega arith; rows = []; counted = refl; keeping = keeping_start l; tested = λ test t. refl }

kept_next : (test : Row → Bool) (i : ℕ) (rs : List Row) (b : Bool) → i < length rs → b ≡ test (row_at i rs)
    → kept_rows test (take (i + 1) rs) ≡ kept_rows test (take i rs) ++ cond (not b) (row_at i rs ∷ []) []
unfolding kept_rows
kept_next test i rs b h e = keep_next (λ r. not (test r)) i rs h ∙ ap (λ (x : Bool). kept_rows test (take i rs) ++ cond (not x) (row_at i rs ∷ []) []) (sym e)

down_keeping : (n i j : ℕ) (rs : List Row) (l m : List ℕ) → j ≤ i → i < n → head_size + n * row_size ≤ length l → Keeping i j rs l m →
    Keeping (i + 1) (j + 1) (rs ++ (row_at i (view_rows n l).rows ∷ [])) l (kept_down i j m)
unfolding kept_down
down_keeping n i j rs l m h g s k = go (ltb j i) refl
  where
    ts : List Row
    ts = rs ++ (row_at i (view_rows n l).rows ∷ [])

    go : (b : Bool) → ltb j i ≡ b → Keeping (i + 1) (j + 1) ts l (cond b (sets m (head_size + j * row_size) (cut (head_size + i * row_size) row_size m)) m)
    go true e = keeping_copy n i j rs l m (ltb-true j i e) g s k
    go false e =
        let q : j ≡ i = omega (arith, ltb-false j i e) in
        subst (λ (x : ℕ). Keeping (i + 1) (x + 1) ts l m) (sym q) (keeping_stay n i rs l m g s (subst (λ (x : ℕ). Keeping i x rs l m) q k))

pub path_at : (n i : ℕ) (l : List ℕ) → i < n → PathsFit (view_rows n l).rows → PathFit (row_at i (view_rows n l).rows)
path_at n i l h p = every_at PathFit i (view_rows n l).rows (omega (arith, view_length n l)) p

module _ {R : Row → Bool → Type 0} {n i j : ℕ} {l m : List ℕ} (q : Kept R n i j l m) (h : i < n) where
  -- row i is still the one that it was
  pub same_row : row_at i (view_rows n m).rows ≡ row_at i (view_rows n l).rows
  same_row = keeping_row n i j q.rows l m h q.keeping

  module _ (p : PathsFit (view_rows n l).rows) where
    pub row_leaves : R (row_at i (view_rows n l).rows) true → Kept R n (i + 1) j l m
    row_leaves e =
        let rs = (view_rows n l).rows in
        record {
          long = q.long;
          within = omega arith;
          below = omega (arith, q.below);
          rows = q.rows;
          counted = q.counted;
          keeping = keeping_skip i j q.rows l m q.keeping;
          tested = λ test t. kept_next test i rs true (omega (arith, view_length n l)) (t _ true (path_at n i l h p) e) ∙ append-nil (kept_rows test (take i rs)) ∙ q.tested test t;
        }

    pub row_stays : {x : List ℕ} → head_size + n * row_size ≤ length l → length x ≡ length m → x ≡ kept_down i j m → R (row_at i (view_rows n l).rows) false → Kept R n (i + 1) (j + 1) l x
    row_stays {x} s z w e =
        let rs = (view_rows n l).rows in
        let r = row_at i rs in
        record {
          long = z ∙ q.long;
          within = omega arith;
          below = omega (arith, q.below);
          rows = q.rows ++ (r ∷ []);
          counted = omega (arith, q.counted, length-append q.rows (r ∷ []));
          keeping = subst (λ (y : List ℕ). Keeping (i + 1) (j + 1) (q.rows ++ (r ∷ [])) l y) (sym w) (down_keeping n i j q.rows l m q.below h s q.keeping);
          tested = λ test t. kept_next test i rs false (omega (arith, view_length n l)) (t _ false (path_at n i l h p) e) ∙ ap (λ (ks : List Row). ks ++ (r ∷ [])) (q.tested test t);
        }

kept_whole : (test : Row → Bool) (n : ℕ) (l : List ℕ) → kept_rows test (take n (view_rows n l).rows) ≡ kept_rows test (view_rows n l).rows
unfolding kept_rows
kept_whole test n l = keep_all (λ r. not (test r)) n (view_rows n l).rows (view_length n l)

pub kept_end : {R : Row → Bool → Type 0} {n i j : ℕ} {l m : List ℕ} → Kept R n i j l m → n ≤ i → OnlyKept R n j l m
kept_end {R} {n} {i} {j} {l} {m} q h =
    let e : i ≡ n = omega (arith, q.within) in
    let z : Kept R n n j l m = subst (λ (x : ℕ). Kept R n x j l m) e q in
    record { few = z.below; rows = z.rows; counted = z.counted; only = keeping_end n j z.rows l m z.keeping; tested = λ test t. sym (kept_whole test n l) ∙ z.tested test t }

-- ---- what a row weighs in main

pub weighs : (r : Row) (p w : ℕ) → p ≡ r.place → p < 2 → w ≡ r.weight → w ≡ cond (in_main r) r.weight 0
unfolding in_main
weighs r p w e h v = rw (lt-ltb r.place 2 (omega (arith, e))) v

pub weighs_nothing : (r : Row) (p : ℕ) → p ≡ r.place → 2 ≤ p → (0 ≡ cond (in_main r) r.weight 0) × (0 < 256)
unfolding in_main
weighs_nothing r p e h = (rw (le-ltb r.place 2 (omega (arith, e))), omega arith)

-- ---- the sweep

pub left_out : (p : Row → Bool) (rs : List Row) → length (keep_rows (λ r. not (p r)) rs) + count_rows p rs ≡ length rs
unfolding keep_rows total
left_out p [] = refl
left_out p (r ∷ rs) = go (p r) (left_out p rs)
  where
    ks : List Row
    ks = keep_rows (λ x. not (p x)) rs

    go : (b : Bool) → length ks + count_rows p rs ≡ length rs → length (cond (not b) (r ∷ ks) ks) + (cond b 1 0 + count_rows p rs) ≡ suc (length rs)
    go true h = omega arith
    go false h = omega arith

pub swept : {R : Row → Bool → Type 0} {n j w : ℕ} {l m : List ℕ} (x : List ℕ) → OnlyKept R n j l m → w ≡ weigh_rows in_main (view_rows j m).rows → view_rows j x ≡ shrunk n j w m
    → (test : Row → Bool) → Tests R test → Swept test n j l x
swept {n = n} {j = j} {w = w} {l = l} {m = m} x k u v test t =
    let g : w ≡ weigh_rows in_main k.rows = u ∙ ap (weigh_rows in_main) k.only.rows in
    let e = k.tested test t in
    rw e (k.counted, v ∙ ap (λ (y : ℕ). shrunk n j y m) g ∙ only_shrunk n j k.rows l m k.few (sym k.counted) k.only)

-- ---- where no row leaves

pub all_kept : {R : Row → Bool → Type 0} {n i : ℕ} {l : List ℕ} → Kept R n i i l l → n ≤ i → (test : Row → Bool) → Tests R test → kept_rows test (view_rows n l).rows ≡ (view_rows n l).rows
all_kept {R} {n} {i} {l} q h =
    let e : i ≡ n = omega (arith, q.within) in
    let k = kept_end (subst (λ (x : ℕ). Kept R n x x l l) e q) (omega arith) in
    λ test t. k.tested test t ∙ sym k.only.rows

pub only_rows : (rs : List Row) (s : State) → length rs ≡ length s.rows → s.stored_weight ≡ weigh_rows in_main rs → s.row_count ≡ length s.rows →
    with_rows rs s ≡ with_only_rows rs s
unfolding with_rows with_only_rows zero_rows
only_rows rs s l w c = let z : length s.rows - length rs ≡ 0 = omega arith in rw (z, ← w, l, ← c)

pub rows_same : (s : State) → with_rows s.rows s ≡ s
unfolding with_rows
rows_same s = refl

pub unswept : (test : Row → Bool) (n : ℕ) (l : List ℕ) → (view_rows n l).row_count ≡ n → (view_rows n l).stored_weight ≡ main_weight (view_rows n l) → kept_rows test (view_rows n l).rows ≡ (view_rows n l).rows → Swept test n n l l
unswept test n l c w e =
    let v = view_length n l in
    rw e (sym v, sym (sym (only_rows (view_rows n l).rows (view_rows n l) refl w (c ∙ sym v)) ∙ rows_same (view_rows n l)))
