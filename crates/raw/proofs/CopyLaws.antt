-- A byte of a cut; a copy, element by element.
use mathlib.Core.Path.{◌≡◌, refl, sym, ap, ◌∙◌}
use mathlib.Core.List.{List, [], ◌∷◌, ◌++◌, append-nil}
use Prim.Native.Nat.{ℕ, zero, suc, ◌+◌, ◌≤◌, ◌<◌}
use native.Mathlib.Nat.{le_of_suc-le-suc, not-suc-le-zero}
use native.Mathlib.Numerals.{add-one}
use lib.ListN.{length, take, drop, get_or, set, drop_of_length-le}
use lib.Seq.{get_or-drop, get_or-take, take_all}
use Rattle.rules.specs.Memory.{cut}

pub cut_byte : (at w i : ℕ) (l : List ℕ) → i < w → get_or l (at + i) 0 ≡ get_or (cut at w l) i 0
cut_byte at w i l h = sym (get_or-drop at l i 0) ∙ sym (get_or-take w (drop at l) i 0 h)

-- ---- a copy, element by element

store {ℓ} : {A : Type ℓ} (src dst : List A) (i : ℕ) (d : A) → i < length src → i < length dst → set (take i src ++ drop i dst) i (get_or src i d) ≡ take (suc i) src ++ drop (suc i) dst
store [] dst i d h k = absurd (not-suc-le-zero h)
store (x ∷ xs) [] i d h k = absurd (not-suc-le-zero k)
store (x ∷ xs) (y ∷ ys) zero d h k = refl
store {A = A} (x ∷ xs) (y ∷ ys) (suc i) d h k = ap (λ (l : List A). x ∷ l) (store xs ys i d (le_of_suc-le-suc h) (le_of_suc-le-suc k))

-- a turn takes the copy of i elements to the copy of one more
pub stored {ℓ} : {A : Type ℓ} (src dst now : List A) (i : ℕ) (v d : A) → now ≡ take i src ++ drop i dst → v ≡ get_or src i d → i < length src → i < length dst
    → set now i v ≡ take (i + 1) src ++ drop (i + 1) dst
stored src dst now i v d e q h k = rw (e, q, add-one) (store src dst i d h k)

-- the copy of all elements
pub copied {ℓ} : {A : Type ℓ} (src dst now : List A) (i : ℕ) → now ≡ take i src ++ drop i dst → length src ≤ i → length dst ≤ i → now ≡ src
copied src dst now i e h k = rw (e, take_all i src h, drop_of_length-le dst k) (append-nil src)
