-- A run of stores in a list, and a cut of it.
use mathlib.Core.Path.{◌≡◌, refl, sym, ap, ◌∙◌}
use Prim.Native.Nat.{ℕ, suc, ◌+◌, ◌-◌, ◌≤◌}
use native.Mathlib.Nat.{add-zero}
use native.Mathlib.Omega.{arith}
use mathlib.Core.Logic.{◌⊎◌, inl, inr}
use mathlib.Core.List.{List, [], ◌∷◌, ◌++◌, append_assoc}
use lib.ListN.{length, take, drop, set}
use lib.Seq.{sets, sets-eq, take-set-le, drop-set-lt, take-set-lt, drop-set-add, take_at, drop_at, length-take-le, drop-drop}
use borrow.Rule.Slice.PartMut.{put_mid}
use Rattle.std.proofs.lemmas.List.Edits.{paste_all}
use Rattle.std.proofs.lemmas.Slice.{put_mid-paste}
use Rattle.rules.specs.Memory.{cut}
use Rattle.rules.proofs.MemoryLaws.{cut_front}

pub take_sets_le : (n : ℕ) (vs l : List ℕ) (i : ℕ) → n ≤ i → take n (sets l i vs) ≡ take n l
take_sets_le n [] l i h = refl
take_sets_le n (v ∷ vs) l i h = take_sets_le n vs (set l i v) (suc i) (omega arith) ∙ take-set-le n l i v h

pub drop_sets_ge : (n : ℕ) (vs l : List ℕ) (i : ℕ) → i + length vs ≤ n → drop n (sets l i vs) ≡ drop n l
drop_sets_ge n [] l i h = refl
drop_sets_ge n (v ∷ vs) l i h = drop_sets_ge n vs (set l i v) (suc i) (omega arith) ∙ drop-set-lt n l i v (omega arith)

pub take_sets_in : (n : ℕ) (vs l : List ℕ) (i : ℕ) → i + length vs ≤ n → take n (sets l i vs) ≡ sets (take n l) i vs
take_sets_in n [] l i h = refl
take_sets_in n (v ∷ vs) l i h = take_sets_in n vs (set l i v) (suc i) (omega arith) ∙ ap (λ (m : List ℕ). sets m (suc i) vs) (take-set-lt n l i v (omega arith))

pub drop_sets_add : (n : ℕ) (vs l : List ℕ) (i j : ℕ) → j ≡ n + i → drop n (sets l j vs) ≡ sets (drop n l) i vs
drop_sets_add n [] l i j e = refl
drop_sets_add n (v ∷ vs) l i j e =
    drop_sets_add n vs (set l j v) (suc i) (suc j) (omega arith)
    ∙ ap (λ (m : List ℕ). sets m (suc i) vs) (ap (λ (k : ℕ). drop n (set l k v)) e ∙ drop-set-add n l i v)

pub sets_more : (us vs l : List ℕ) (i : ℕ) → sets (sets l i us) (i + length us) vs ≡ sets l i (us ++ vs)
sets_more [] vs l i = ap (λ (k : ℕ). sets l k vs) (add-zero i)
sets_more (u ∷ us) vs l i = let e : i + suc (length us) ≡ suc i + length us = omega arith in rw e (sets_more us vs (set l i u) (suc i))

-- before the stores, or after them
pub cut_else : (l vs : List ℕ) (i k n : ℕ) → (k + n ≤ i) ⊎ (i + length vs ≤ k) → cut k n (sets l i vs) ≡ cut k n l
cut_else l vs i k n (inl h) = ap (take n) (drop_sets_add k vs l (i - k) i (omega arith)) ∙ take_sets_le n vs (drop k l) (i - k) (omega arith)
cut_else l vs i k n (inr h) = ap (take n) (drop_sets_ge k vs l i h)

-- what they stored
pub cut_same : (l vs : List ℕ) (i : ℕ) → i + length vs ≤ length l → cut i (length vs) (sets l i vs) ≡ vs
cut_same l vs i h =
    let n : length (take i l) ≡ i = length-take-le i l (omega arith) in
    rw (sets-eq vs l i h, append_assoc) (ap (take (length vs)) (drop_at (take i l) _ i n) ∙ take_at vs _ (length vs) refl)

-- a cut of a cut
pub cut_cut : (k m o w : ℕ) (l : List ℕ) → o + w ≤ m → cut o w (cut k m l) ≡ cut (k + o) w l
cut_cut k m o w l h = cut_front o w m (drop k l) h ∙ ap (take w) (drop-drop o k l)

-- a part of the memory, written as a slice of its own
pub part_stored : (l vs : List ℕ) (at n : ℕ) → length vs ≡ n → at + n ≤ length l → put_mid at n l vs ≡ sets l at vs
part_stored l vs at n e h = put_mid-paste at n l vs vs n refl refl (sym e) ∙ rw (paste_all l at vs n (sym e), sets-eq vs l at (omega arith), e, append_assoc)
