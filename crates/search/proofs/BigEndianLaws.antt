-- Numbers whose first byte is highest stand as their bytes do.
use mathlib.Core.Path.{◌≡◌, refl, sym, ap, ◌∙◌}
use mathlib.Core.Bool.{Bool, true, false, ◌&&◌, ◌||◌}
use mathlib.Core.List.{List, [], ◌∷◌, ◌++◌}
use Prim.Native.Nat.{ℕ, ◌+◌, ◌*◌, ◌≤◌, ◌<◌}
use native.Mathlib.Omega.{arith}
use lib.Dec.{ltb, eqb}
use lib.ListN.{length, take, drop, get_or, length-drop, take-append-drop}
use lib.Seq.{drop-drop, length-take-le, take-add, take_all}
use borrow.Author.Tests.{eq-eqb, eqb-true, eqb-false, le-ltb, ltb-true, ltb-false}
use Rattle.std.specs.Int.{w64, from_be_bytes}
use Rattle.types.specs.Addresses.{bytes_before}
use Rattle.rules.specs.Lent.{Bytes}
use Rattle.rules.specs.Memory.{cut}
use Rattle.rules.proofs.Addresses.{contradiction}
use Rattle.rules.specs.Layout.{address_size}
use Rattle.raw.proofs.NumberLaws.{eight_bytes}
use Rattle.search.specs.BigEndian.{goes_on, NumberOf}

-- ---- as many bytes behind a higher number

rise : (x y : List ℕ) (a b : ℕ) → length x ≡ length y → Bytes x → Bytes y → a < b → goes_on a x < goes_on b y
unfolding goes_on
rise [] [] a b e p q h = h
rise [] (y ∷ ys) a b e p q h = absurd (let z : ⊥ = omega arith in z)
rise (x ∷ xs) [] a b e p q h = absurd (let z : ⊥ = omega arith in z)
rise (x ∷ xs) (y ∷ ys) a b e p q h = let u = p.0 in rise xs ys (a * 256 + x) (b * 256 + y) (omega arith) p.1 q.1 (omega arith)

less_bytes : (x y : List ℕ) (a : ℕ) → length x ≡ length y → Bytes x → Bytes y → goes_on a x < goes_on a y → bytes_before x y ≡ true
unfolding goes_on bytes_before
less_bytes [] [] a e p q h = absurd (let z : ⊥ = omega arith in z)
less_bytes [] (y ∷ ys) a e p q h = refl
less_bytes (x ∷ xs) [] a e p q h = absurd (let z : ⊥ = omega arith in z)
less_bytes (x ∷ xs) (y ∷ ys) a e p q h = go (less_bytes xs ys (a * 256 + x) (omega arith) p.1 q.1) (ltb x y) refl (eqb x y) refl
  where
    go : (goes_on (a * 256 + x) xs < goes_on (a * 256 + x) ys → bytes_before xs ys ≡ true) → (s : Bool) → ltb x y ≡ s → (t : Bool) → eqb x y ≡ t → s || (t && bytes_before xs ys) ≡ true
    go ih true m t n = refl
    go ih false m true n = ih (rw (sym (eqb-true x y n)) at h)
    go ih false m false n =
        let l : y < x = omega (arith, ltb-false x y m, eqb-false x y n) in
        let z = rise ys xs (a * 256 + y) (a * 256 + x) (omega arith) q.1 p.1 (omega arith) in
        absurd (let f : ⊥ = omega arith in f)

same_bytes_lem : (x y : List ℕ) (a : ℕ) → length x ≡ length y → Bytes x → Bytes y → goes_on a x ≡ goes_on a y → x ≡ y
unfolding goes_on
same_bytes_lem [] [] a e p q h = refl
same_bytes_lem [] (y ∷ ys) a e p q h = absurd (let z : ⊥ = omega arith in z)
same_bytes_lem (x ∷ xs) [] a e p q h = absurd (let z : ⊥ = omega arith in z)
same_bytes_lem (x ∷ xs) (y ∷ ys) a e p q h = go (same_bytes_lem xs ys (a * 256 + x) (omega arith) p.1 q.1) (ltb x y) refl (ltb y x) refl
  where
    go : (goes_on (a * 256 + x) xs ≡ goes_on (a * 256 + x) ys → xs ≡ ys) → (s : Bool) → ltb x y ≡ s → (t : Bool) → ltb y x ≡ t → x ∷ xs ≡ y ∷ ys
    go ih true m t n =
        let l = ltb-true x y m in
        let z = rise xs ys (a * 256 + x) (a * 256 + y) (omega arith) p.1 q.1 (omega arith) in
        absurd (let f : ⊥ = omega arith in f)
    go ih false m true n =
        let l = ltb-true y x n in
        let z = rise ys xs (a * 256 + y) (a * 256 + x) (omega arith) q.1 p.1 (omega arith) in
        absurd (let f : ⊥ = omega arith in f)
    go ih false m false n =
        let w : x ≡ y = omega (arith, ltb-false x y m, ltb-false y x n) in
        let z = ih (rw (sym w) at h) in
        cc

-- ---- two parts

first_decides : (p q x y : List ℕ) → length p ≡ length q → bytes_before p q ≡ true → bytes_before (p ++ x) (q ++ y) ≡ true
unfolding bytes_before
first_decides [] [] x y e h = contradiction {b = false} h refl
first_decides [] (b ∷ q) x y e h = absurd (let z : ⊥ = omega arith in z)
first_decides (a ∷ p) [] x y e h = absurd (let z : ⊥ = omega arith in z)
first_decides (a ∷ p) (b ∷ q) x y e h = go (first_decides p q x y (omega arith)) (ltb a b) (eqb a b) h
  where
    go : (bytes_before p q ≡ true → bytes_before (p ++ x) (q ++ y) ≡ true) → (s t : Bool) → s || (t && bytes_before p q) ≡ true → s || (t && bytes_before (p ++ x) (q ++ y)) ≡ true
    go ih true t g = refl
    go ih false true g = ih g
    go ih false false g = g

second_decides : (p x y : List ℕ) → bytes_before x y ≡ true → bytes_before (p ++ x) (p ++ y) ≡ true
unfolding bytes_before
second_decides [] x y h = h
second_decides (a ∷ p) x y h =
    let r : a ≤ a = omega arith in
    rw (le-ltb a a r, eq-eqb a a refl) (second_decides p x y h)

-- l is the eight bytes p and then the eight bytes x
pub record TwiceEight (l p x : List ℕ) : Type 0 where
  pub whole : l ≡ p ++ x
  pub first : length p ≡ 8
  pub second : length x ≡ 8

-- a and b are the numbers of the first eight bytes
module _ {l m p q x y : List ℕ} {a b : ℕ} (i : TwiceEight l p x) (j : TwiceEight m q y) (u : NumberOf p a) (v : NumberOf q b) where
  pub first_less : a < b → bytes_before l m ≡ true
  first_less h =
      let e : length p ≡ length q = i.first ∙ sym j.first in
      let z : goes_on 0 p < goes_on 0 q = omega (arith, u.value, v.value) in
      rw (i.whole, j.whole) (first_decides p q x y e (less_bytes p q 0 e u.bytes v.bytes z))

  first_same : a ≡ b → p ≡ q
  first_same h = same_bytes_lem p q 0 (i.first ∙ sym j.first) u.bytes v.bytes (sym u.value ∙ h ∙ v.value)

  -- they are equal, and c and d are the numbers of the last eight
  module _ {c d : ℕ} (h : a ≡ b) (s : NumberOf x c) (t : NumberOf y d) where
    pub second_less : c < d → bytes_before l m ≡ true
    second_less g =
        let z : goes_on 0 x < goes_on 0 y = omega (arith, s.value, t.value) in
        rw (i.whole, j.whole, first_same h) (second_decides q x y (less_bytes x y 0 (i.second ∙ sym j.second) s.bytes t.bytes z))

    pub both_same : c ≡ d → l ≡ m
    both_same g =
        let z = same_bytes_lem x y 0 (i.second ∙ sym j.second) s.bytes t.bytes (sym s.value ∙ g ∙ t.value) in
        rw (i.whole, j.whole, first_same h, z)

-- ---- eight bytes, as the code reads them

horner : (r0 r1 r2 r3 r4 r5 r6 r7 : ℕ) → from_be_bytes w64 (r0 ∷ r1 ∷ r2 ∷ r3 ∷ r4 ∷ r5 ∷ r6 ∷ r7 ∷ []) ≡ (((((((0 * 256 + r0) * 256 + r1) * 256 + r2) * 256 + r3) * 256 + r4) * 256 + r5) * 256 + r6) * 256 + r7
horner r0 r1 r2 r3 r4 r5 r6 r7 = omega arith

pub eight_number : (l : List ℕ) (at : ℕ) → at + 8 ≤ length l → ((i : ℕ) → get_or l i 0 < 256) → NumberOf (cut at 8 l) (from_be_bytes w64 (cut at 8 l))
unfolding goes_on
eight_number l at h b =
    rw (eight_bytes l at h) (record { value = horner _ _ _ _ _ _ _ _; bytes = (b at, (b (at + 1), (b (at + 2), (b (at + 3), (b (at + 4), (b (at + 5), (b (at + 6), (b (at + 7), tt)))))))) })

-- ---- sixteen bytes are twice eight

pub held_halves : (at : ℕ) (l : List ℕ) → at + address_size ≤ length l → TwiceEight (cut at address_size l) (cut at 8 l) (cut (at + 8) 8 l)
held_halves at l h =
    record {
      whole = take-add 8 8 (drop at l) ∙ ap (λ (z : List ℕ). cut at 8 l ++ take 8 z) (drop-drop 8 at l);
      first = length-take-le 8 (drop at l) (rw length-drop (omega arith));
      second = length-take-le 8 (drop (at + 8) l) (rw length-drop (omega arith));
    }

pub given_halves : (l : List ℕ) → length l ≡ address_size → TwiceEight l (cut 0 8 l) (cut 8 8 l)
given_halves l h =
    let z : length (drop 8 l) ≤ 8 = rw length-drop (omega arith) in
    record {
      whole = sym (ap (λ (w : List ℕ). take 8 l ++ w) (take_all 8 (drop 8 l) z) ∙ take-append-drop 8 l);
      first = length-take-le 8 l (omega arith);
      second = length-take-le 8 (drop 8 l) (rw length-drop (omega arith));
    }
