-- Runs of stores, one behind the other, are one run.
use mathlib.Core.Path.{◌≡◌, sym, ap, ◌∙◌}
use mathlib.Core.List.{List, ◌++◌, append_assoc}
use Prim.Native.Nat.{ℕ, ◌+◌}
use native.Mathlib.Omega.{arith}
use lib.ListN.{length, length-append}
use lib.Seq.{sets}
use Rattle.raw.proofs.StoreLaws.{sets_more}

-- a run behind a run of k
pub behind : (l us vs : List ℕ) (at k : ℕ) → length us ≡ k → sets (sets l at us) (at + k) vs ≡ sets l at (us ++ vs)
behind l us vs at k e = ap (λ (j : ℕ). sets (sets l at us) (at + j) vs) (sym e) ∙ sets_more us vs l at

pub three : (l a b c : List ℕ) (at j k : ℕ) → length a ≡ j → j + length b ≡ k → sets (sets (sets l at a) (at + j) b) (at + k) c ≡ sets l at (a ++ (b ++ c))
three l a b c at j k p q =
    ap (λ (m : List ℕ). sets m (at + k) c) (behind l a b at j p) ∙ behind l (a ++ b) c at k (length-append a b ∙ omega arith) ∙ ap (sets l at) (append_assoc a b c)

pub four : (l a b c d : List ℕ) (at j k m : ℕ) → length a ≡ j → j + length b ≡ k → k + length c ≡ m
    → sets (sets (sets (sets l at a) (at + j) b) (at + k) c) (at + m) d ≡ sets l at (a ++ (b ++ (c ++ d)))
four l a b c d at j k m p q r =
    ap (λ (x : List ℕ). sets (sets x (at + k) c) (at + m) d) (behind l a b at j p) ∙ three l (a ++ b) c d at k m (length-append a b ∙ omega arith) r ∙ ap (sets l at) (append_assoc a b (c ++ d))

pub five : (l a b c d e : List ℕ) (at j k m n : ℕ) → length a ≡ j → j + length b ≡ k → k + length c ≡ m → m + length d ≡ n
    → sets (sets (sets (sets (sets l at a) (at + j) b) (at + k) c) (at + m) d) (at + n) e ≡ sets l at (a ++ (b ++ (c ++ (d ++ e))))
five l a b c d e at j k m n p q r s =
    ap (λ (x : List ℕ). sets (sets (sets x (at + k) c) (at + m) d) (at + n) e) (behind l a b at j p) ∙ four l (a ++ b) c d e at k m n (length-append a b ∙ omega arith) r s
    ∙ ap (sets l at) (append_assoc a b (c ++ (d ++ e)))

-- ---- runs from the i-th byte behind `at` on, their places counted from `at`

pub two_from : (l a b : List ℕ) (at i j : ℕ) → i + length a ≡ j → sets (sets l (at + i) a) (at + j) b ≡ sets l (at + i) (a ++ b)
two_from l a b at i j p = let e : at + j ≡ at + i + length a = omega arith in rw e (sets_more a b l (at + i))

pub three_from : (l a b c : List ℕ) (at i j k : ℕ) → i + length a ≡ j → j + length b ≡ k → sets (sets (sets l (at + i) a) (at + j) b) (at + k) c ≡ sets l (at + i) (a ++ (b ++ c))
three_from l a b c at i j k p q =
    ap (λ (m : List ℕ). sets m (at + k) c) (two_from l a b at i j p) ∙ two_from l (a ++ b) c at i k (rw length-append (omega arith)) ∙ ap (sets l (at + i)) (append_assoc a b c)

pub four_from : (l a b c d : List ℕ) (at i j k m : ℕ) → i + length a ≡ j → j + length b ≡ k → k + length c ≡ m
    → sets (sets (sets (sets l (at + i) a) (at + j) b) (at + k) c) (at + m) d ≡ sets l (at + i) (a ++ (b ++ (c ++ d)))
four_from l a b c d at i j k m p q r =
    ap (λ (x : List ℕ). sets (sets x (at + k) c) (at + m) d) (two_from l a b at i j p) ∙ three_from l (a ++ b) c d at i k m (rw length-append (omega arith)) r ∙ ap (sets l (at + i)) (append_assoc a b (c ++ d))
