-- An exchange of rows, in the view.
use mathlib.Core.Path.{◌≡◌, refl, sym, ap, ◌∙◌}
use mathlib.Core.List.{List, [], ◌∷◌, ◌++◌, append-nil}
use Prim.Native.Nat.{ℕ, zero, suc, ◌+◌, ◌*◌, ◌-◌, ◌≤◌, ◌<◌}
use native.Mathlib.Omega.{arith}
use lib.ListN.{length, take, drop}
use lib.Seq.{sets, sets-eq, slice, length-take-le, take_at, drop-append-add, drop-drop, drop-length}
use Rattle.rules.specs.Records.{Row, State}
use Rattle.rules.specs.Rows.{change_row, without_row, with_rows}
use Rattle.rules.specs.Memory.{row_of, view_rows}
use Rattle.rules.specs.Layout.{head_size, row_size}
use Rattle.memory.proofs.Fields.{row_store}
use Rattle.memory.proofs.RowBlocks.{without_eq}
use Rattle.memory.proofs.RowLaws.{parts_view, view_length}
use Rattle.rows.specs.Insertions.{exchanged, Opened}

-- ---- a place opened

-- the rows between the two places move down
moved_down : (i j : ℕ) (rs : List Row) → i ≤ j → j < length rs
    → (take j (take i rs ++ (drop (suc i) (take (suc j) rs) ++ drop j rs)) ≡ take j (without_row i rs)) × (drop (suc j) (take i rs ++ (drop (suc i) (take (suc j) rs) ++ drop j rs)) ≡ drop j (without_row i rs))
unfolding without_row
moved_down i j [] h g = absurd (let z : ⊥ = omega arith in z)
moved_down zero j (r ∷ rs) h g =
    let n : length (take j rs) ≡ j = length-take-le j rs (omega arith) in
    let e : suc j ≡ length (take j rs) + 1 = omega arith in
    let d : j + 1 ≡ suc j = omega arith in
    (take_at (take j rs) (drop j (r ∷ rs)) j n, ap (λ (k : ℕ). drop k (take j rs ++ drop j (r ∷ rs))) e ∙ drop-append-add (take j rs) (drop j (r ∷ rs)) 1 ∙ drop-drop 1 j (r ∷ rs) ∙ ap (λ (k : ℕ). drop k (r ∷ rs)) d)
moved_down (suc i) zero (r ∷ rs) h g = absurd (let z : ⊥ = omega arith in z)
moved_down (suc i) (suc j) (r ∷ rs) h g = let p = moved_down i j rs (omega arith) (omega arith) in (ap (λ (xs : List Row). r ∷ xs) p.0, p.1)

-- they move up
moved_up : (i j : ℕ) (rs : List Row) → j ≤ i → i < length rs
    → (take j (take (suc j) rs ++ (drop j (take i rs) ++ drop (suc i) rs)) ≡ take j (without_row i rs)) × (drop (suc j) (take (suc j) rs ++ (drop j (take i rs) ++ drop (suc i) rs)) ≡ drop j (without_row i rs))
unfolding without_row
moved_up i j [] h g = absurd (let z : ⊥ = omega arith in z)
moved_up i zero (r ∷ rs) h g = (refl, sym (without_eq i (r ∷ rs)))
moved_up zero (suc j) (r ∷ rs) h g = absurd (let z : ⊥ = omega arith in z)
moved_up (suc i) (suc j) (r ∷ rs) h g = let p = moved_up i j rs (omega arith) (omega arith) in (ap (λ (xs : List Row). r ∷ xs) p.0, p.1)

opened : (i j : ℕ) (s t : State) (rs : List Row) → t ≡ with_rows rs s → (take j rs ≡ take j (without_row i s.rows)) × (drop (suc j) rs ≡ drop j (without_row i s.rows)) → Opened i j s t
unfolding with_rows
opened i j s t rs e p = rw e (record { before = p.0; behind = p.1; others = refl })

module _ (l : List ℕ) (n i j : ℕ) (k : head_size + n * row_size ≤ length l) where
  pub opened_down : i < j → j < n → Opened i j (view_rows n l) (view_rows n (take (head_size + i * row_size) l ++ (slice (head_size + i * row_size + row_size) (head_size + (j + 1) * row_size) l ++ drop (head_size + (j + 1) * row_size - row_size) l)))
  opened_down h g =
      let a : head_size + i * row_size + row_size ≡ head_size + suc i * row_size = omega arith in
      let b : head_size + (j + 1) * row_size - row_size ≡ head_size + j * row_size = omega arith in
      let d : head_size + (j + 1) * row_size ≡ head_size + suc j * row_size = omega arith in
      rw (b, a, d) (opened i j (view_rows n l) _ _ (parts_view n i (suc i) (suc j) j (omega arith) (omega arith) (omega arith) (omega arith) (omega arith) l k) (moved_down i j (view_rows n l).rows (omega arith) (omega (arith, view_length n l))))

  pub opened_up : j ≤ i → i < n → Opened i j (view_rows n l) (view_rows n (take (head_size + j * row_size + row_size) l ++ (slice (head_size + j * row_size) (head_size + i * row_size) l ++ drop (head_size + i * row_size + row_size) l)))
  opened_up h g =
      let a : head_size + j * row_size + row_size ≡ head_size + suc j * row_size = omega arith in
      let b : head_size + i * row_size + row_size ≡ head_size + suc i * row_size = omega arith in
      rw (a, b) (opened i j (view_rows n l) _ _ (parts_view n (suc j) j i (suc i) (omega arith) (omega arith) (omega arith) (omega arith) (omega arith) l k) (moved_up i j (view_rows n l).rows h (omega (arith, view_length n l))))

-- ---- the place written

change_all : (r : Row) (j : ℕ) (rs : List Row) → j < length rs → change_row (λ _. r) j rs ≡ take j rs ++ (r ∷ drop (suc j) rs)
unfolding change_row
change_all r j [] h = absurd (let z : ⊥ = omega arith in z)
change_all r zero (x ∷ xs) h = refl
change_all r (suc j) (x ∷ xs) h = ap (λ (ys : List Row). x ∷ ys) (change_all r j xs (omega arith))

stored_all : (x c : List ℕ) → length c ≡ row_size → length x ≡ row_size → sets x 0 c ≡ c
stored_all x c w h =
    let e : 0 + length c ≡ length x = omega arith in
    sets-eq c x 0 (omega arith) ∙ ap (λ (k : ℕ). c ++ drop k x) e ∙ rw drop-length (append-nil c)

place_filled : (i j : ℕ) (r : Row) (s t : State) → j < length t.rows → Opened i j s t → with_rows (change_row (λ _. r) j t.rows) t ≡ exchanged i j r s
unfolding exchanged with_rows
place_filled i j r s t h o = rw (change_all r j t.rows h, o.before, o.behind) (ap (λ (x : State). with_rows (take j (without_row i s.rows) ++ r ∷ drop j (without_row i s.rows)) x) o.others)

-- c is stored as row j
pub exchange_view : (s : State) (m c : List ℕ) (n i j : ℕ) → j < n → head_size + n * row_size ≤ length m → length c ≡ row_size → Opened i j s (view_rows n m)
    → view_rows n (sets m (head_size + j * row_size) c) ≡ exchanged i j (row_of c) s
exchange_view s m c n i j h k w o =
    let z : head_size + j * row_size + 0 ≡ head_size + j * row_size = omega arith in
    rw z at (row_store (λ _. row_of c) 0 c (omega arith) (λ x q. ap row_of (stored_all x c w q)) n j m h k) ∙ place_filled i j (row_of c) s (view_rows n m) (omega (arith, view_length n m)) o
