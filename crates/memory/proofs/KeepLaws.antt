-- Rows are kept together by copying each one that stays down to its new place.
use mathlib.Core.Path.{◌≡◌, refl, sym, ap, ◌∙◌}
use Prim.Native.Nat.{ℕ, suc, ◌+◌, ◌*◌, ◌≤◌, ◌<◌}
use native.Mathlib.Omega.{arith}
use native.Mathlib.Numerals.{add-one}
use mathlib.Core.Bool.{Bool, true, false, cond}
use mathlib.Core.List.{List, [], ◌∷◌, ◌++◌}
use lib.ListN.{length, take, drop, length-drop}
use lib.Seq.{sets, length-sets, length-take-le, take_all, take-suc, drop-drop}
use Rattle.rules.specs.Records.{Row}
use Rattle.rules.specs.Rows.{row_at, blank_row, keep_rows}
use Rattle.rules.specs.Memory.{cut, row_of, rows_of, view_rows}
use Rattle.rules.specs.Layout.{head_size, row_size}
use Rattle.raw.proofs.StoreLaws.{take_sets_le, drop_sets_ge, cut_same}
use Rattle.memory.specs.Edits.{OnlyRows, Keeping}
use Rattle.memory.proofs.Fields.{row_at_lem}
use Rattle.memory.proofs.RowLaws.{view_length, view_front, view_before}

pub keeping_start : (l : List ℕ) → Keeping 0 0 [] l l
unfolding view_rows rows_of
keeping_start l = record { size = refl; head = refl; rows = refl; tail = refl }

tail_next : (i : ℕ) (l m : List ℕ) → drop (head_size + i * row_size) m ≡ drop (head_size + i * row_size) l → drop (head_size + (i + 1) * row_size) m ≡ drop (head_size + (i + 1) * row_size) l
tail_next i l m e =
    let d : head_size + (i + 1) * row_size ≡ head_size + i * row_size + row_size = omega arith in
    ap (λ (k : ℕ). drop k m) d ∙ sym (drop-drop row_size (head_size + i * row_size) m) ∙ ap (drop row_size) e ∙ drop-drop row_size (head_size + i * row_size) l ∙ sym (ap (λ (k : ℕ). drop k l) d)

-- row i is as it was
pub keeping_row : (n i j : ℕ) (rs : List Row) (l m : List ℕ) → i < n → Keeping i j rs l m → row_at i (view_rows n m).rows ≡ row_at i (view_rows n l).rows
keeping_row n i j rs l m h k = row_at_lem n i m h ∙ ap (λ (x : List ℕ). row_of (take row_size x)) k.tail ∙ sym (row_at_lem n i l h)

-- row i is passed over
pub keeping_skip : (i j : ℕ) (rs : List Row) (l m : List ℕ) → Keeping i j rs l m → Keeping (i + 1) j rs l m
keeping_skip i j rs l m k = record { size = k.size; head = k.head; rows = k.rows; tail = tail_next i l m k.tail }

-- one row more is seen
view_next : (j : ℕ) (l : List ℕ) → (view_rows (j + 1) l).rows ≡ (view_rows j l).rows ++ (row_of (cut (head_size + j * row_size) row_size l) ∷ [])
view_next j l =
    let rs : List Row = (view_rows (j + 1) l).rows in
    let n = view_length (j + 1) l in
    sym (take_all (suc j) rs (omega arith)) ∙ take-suc rs j blank_row (omega arith) ∙ rw (row_at_lem (j + 1) j l (omega arith), ← view_front j 1 l)

-- row i stays where it is
pub keeping_stay : (n i : ℕ) (rs : List Row) (l m : List ℕ) → i < n → head_size + n * row_size ≤ length l → Keeping i i rs l m → Keeping (i + 1) (i + 1) (rs ++ (row_at i (view_rows n l).rows ∷ [])) l m
keeping_stay n i rs l m h s k =
    let lm = k.size in
    record {
      size = k.size;
      head = k.head;
      rows = view_next i m ∙ ap (λ (x : List Row). x ++ (row_of (cut (head_size + i * row_size) row_size m) ∷ [])) k.rows
          ∙ ap (λ (r : Row). rs ++ (r ∷ [])) (ap (λ (x : List ℕ). row_of (take row_size x)) k.tail ∙ sym (row_at_lem n i l h));
      tail = tail_next i l m k.tail;
    }

-- row i goes down to place j
pub keeping_copy : (n i j : ℕ) (rs : List Row) (l m : List ℕ) → j < i → i < n → head_size + n * row_size ≤ length l → Keeping i j rs l m
    → Keeping (i + 1) (j + 1) (rs ++ (row_at i (view_rows n l).rows ∷ [])) l (sets m (head_size + j * row_size) (cut (head_size + i * row_size) row_size m))
keeping_copy n i j rs l m h g s k =
    let lm = k.size in
    let c : List ℕ = cut (head_size + i * row_size) row_size m in
    let lc : length c ≡ row_size = length-take-le row_size (drop (head_size + i * row_size) m) (rw length-drop (omega arith)) in
    let t : List ℕ = sets m (head_size + j * row_size) c in
    let lt : length t ≡ length m = length-sets m (head_size + j * row_size) c in
    let here : cut (head_size + j * row_size) row_size t ≡ c = rw lc at (cut_same m c (head_size + j * row_size) (omega arith)) in
    record {
      size = lt ∙ k.size;
      head = take_sets_le head_size c m (head_size + j * row_size) (omega arith) ∙ k.head;
      rows = view_next j t ∙ ap (λ (x : List Row). x ++ (row_of (cut (head_size + j * row_size) row_size t) ∷ [])) (view_before j m c ∙ k.rows)
          ∙ ap (λ (x : List ℕ). rs ++ (row_of x ∷ [])) here ∙ ap (λ (r : Row). rs ++ (r ∷ [])) (ap (λ (x : List ℕ). row_of (take row_size x)) k.tail ∙ sym (row_at_lem n i l g));
      tail = drop_sets_ge (head_size + (i + 1) * row_size) c m (head_size + j * row_size) (omega arith) ∙ tail_next i l m k.tail;
    }

-- all rows passed
pub keeping_end : (n j : ℕ) (rs : List Row) (l m : List ℕ) → Keeping n j rs l m → OnlyRows n j rs l m
unfolding view_rows
keeping_end n j rs l m k = record { size = k.size; head = k.head; rows = k.rows; rest = k.tail }

-- ---- the rows that pass

keep_append : (p : Row → Bool) (xs ys : List Row) → keep_rows p (xs ++ ys) ≡ keep_rows p xs ++ keep_rows p ys
unfolding keep_rows
keep_append p [] ys = refl
keep_append p (x ∷ xs) ys = go (p x) (keep_append p xs ys)
  where
    go : (b : Bool) → keep_rows p (xs ++ ys) ≡ keep_rows p xs ++ keep_rows p ys → cond b (x ∷ keep_rows p (xs ++ ys)) (keep_rows p (xs ++ ys)) ≡ cond b (x ∷ keep_rows p xs) (keep_rows p xs) ++ keep_rows p ys
    go true e = ap (λ (rs : List Row). x ∷ rs) e
    go false e = e

pub keep_next : (p : Row → Bool) (i : ℕ) (rs : List Row) → i < length rs → keep_rows p (take (i + 1) rs) ≡ keep_rows p (take i rs) ++ cond (p (row_at i rs)) (row_at i rs ∷ []) []
unfolding keep_rows
keep_next p i rs h = ap (keep_rows p) (ap (λ (k : ℕ). take k rs) (add-one i) ∙ take-suc rs i blank_row h) ∙ keep_append p (take i rs) (row_at i rs ∷ [])

pub keep_all : (p : Row → Bool) (n : ℕ) (rs : List Row) → length rs ≡ n → keep_rows p (take n rs) ≡ keep_rows p rs
keep_all p n rs h = ap (keep_rows p) (take_all n rs (omega arith))
