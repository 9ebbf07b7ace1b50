-- Text as it is stored, in the order of the code.
use mathlib.Core.Path.{◌≡◌, refl, sym, ap, ◌∙◌}
use Prim.Native.Nat.{ℕ, zero, suc, ◌+◌, ◌*◌, ◌-◌, ◌/◌, ◌%◌, ◌≤◌, ◌<◌}
use native.Mathlib.Numerals.{add-one}
use native.Mathlib.Omega.{arith}
use mathlib.Core.List.{List, [], ◌∷◌, ◌++◌}
use lib.ListN.{length, drop, get_or, set, length-append, drop_of_length-le}
use lib.Seq.{sets, set_comm, drop-cons}
use Rattle.raw.proofs.StoreLaws.{sets_more}
use Rattle.types.specs.declared.reply.Reply.{Reply}
use Rattle.rules.specs.Commands.{hex_digit, decimal, space, spaced, line, line_text}
use Rattle.replies.proofs.Digits.{last_digits, length_last, at_most}

-- text that goes on where other text ends
goes_on : (l us vs s : List ℕ) (at n : ℕ) → n ≡ at + length us → s ≡ sets l at us → sets s n vs ≡ sets l at (us ++ vs)
goes_on l us vs s at n e f = rw (e, f) (sets_more us vs l at)

-- a store past a run of stores can go first
store_first : (us l : List ℕ) (i j x : ℕ) → i + length us ≤ j → sets (set l j x) i us ≡ set (sets l i us) j x
store_first [] l i j x h = refl
store_first (u ∷ us) l i j x h = rw (set_comm l j i x u (λ e. let z : ⊥ = omega arith in z)) (store_first us (set l i u) (suc i) j x (omega arith))

-- the last of i + 1 digits first
last_first : (l : List ℕ) (at i v : ℕ) → sets (set l (at + i) (48 + v % 10)) at (last_digits i (v / 10)) ≡ sets l at (last_digits (suc i) v)
unfolding last_digits
last_first l at i v =
    let n = length_last i (v / 10) in
    store_first (last_digits i (v / 10)) l at (at + i) (48 + v % 10) (omega arith)
    ∙ goes_on l (last_digits i (v / 10)) ((48 + v % 10) ∷ []) _ at (at + i) (omega arith) refl

-- a digit is written: the text that the digits left to write lead to stays
pub digit_turn : (l m : List ℕ) (at i v : ℕ) → 0 < i → sets l at (last_digits i v) ≡ m → sets (set l (at + (i - 1)) (48 + v % 10)) at (last_digits (i - 1) (v / 10)) ≡ m
digit_turn l m at zero v h e = absurd (let z : ⊥ = omega arith in z)
digit_turn l m at (suc i) v h e = let p : suc i - 1 ≡ i = omega arith in rw p (last_first l at i v ∙ e)

-- ---- numbers after spaces

spaced_next : (vs : List ℕ) (k : ℕ) → k < length vs → spaced (drop k vs) ≡ space ∷ (decimal (get_or vs k 0) ++ spaced (drop (k + 1) vs))
unfolding spaced
spaced_next vs k h = rw (drop-cons vs k 0 h, add-one)

spaced_most : (vs : List ℕ) → length (spaced vs) ≤ length vs * 21
unfolding spaced
spaced_most [] = omega arith
spaced_most (v ∷ vs) = rw length-append (omega (arith, at_most v, spaced_most vs))

-- k numbers of vs stand in s from `at` to `end`: those left to write lead to the whole text
pub record Written (l : List ℕ) (at : ℕ) (vs s : List ℕ) (end k : ℕ) : Type 0 where
  pub within : k ≤ length vs
  pub room : end ≤ at + k * 21
  pub size : end + length (spaced (drop k vs)) ≡ at + length (spaced vs)
  pub text : sets s end (spaced (drop k vs)) ≡ sets l at (spaced vs)

pub number_turn : (l : List ℕ) (at : ℕ) (vs s t : List ℕ) (end k n : ℕ) → k < length vs → n ≡ end + (1 + length (decimal (get_or vs k 0)))
    → t ≡ sets s end (space ∷ decimal (get_or vs k 0)) → Written l at vs s end k → Written l at vs t n (k + 1)
number_turn l at vs s t end k n h e f w =
    let d = decimal (get_or vs k 0) in
    let r = spaced (drop (k + 1) vs) in
    let q = spaced_next vs k h in
    record {
      within = omega arith;
      room = omega (arith, w.room, at_most (get_or vs k 0));
      size = omega (arith, w.size, ap length q, length-append d r);
      text = goes_on s (space ∷ d) r t end n (omega arith) f ∙ ap (sets s end) (sym q) ∙ w.text;
    }

pub all_written : (l : List ℕ) (at : ℕ) (vs s : List ℕ) (end k : ℕ) → length vs ≤ k → Written l at vs s end k → (end ≡ at + length (spaced vs)) × (s ≡ sets l at (spaced vs))
unfolding spaced
all_written l at vs s end k h w =
    let z = drop_of_length-le vs h in
    (omega (arith, rw z at w.size), rw z at w.text)

-- ---- a line

-- two digits, the refusal, the numbers, the end
line_size : (b : ℕ) (r : Reply) → length (line_text (line b r)) ≡ 4 + length (decimal r.refusal) + length (spaced r.values)
unfolding line_text line spaced
line_size b r = simp length-append (omega arith)

pub line_most : (b : ℕ) (r : Reply) → length r.values ≡ 5 → length (line_text (line b r)) ≤ 129
line_most b r h = omega (arith, line_size b r, at_most r.refusal, spaced_most r.values)

-- the room asked for is enough
pub line_fits : (at first end n v : ℕ) (vs : List ℕ) → first ≡ at + 2 + (1 + length (decimal v)) → end ≡ first + length (spaced vs) → length vs ≡ 5 → at + 129 ≤ n → end < n
line_fits at first end n v vs e f h k = omega (arith, at_most v, spaced_most vs)

-- the stores of a line, as a caller of the two parts knows them, are its text
pub line_written : (l : List ℕ) (at b : ℕ) (r : Reply) (x y first : ℕ) (s : List ℕ) (end : ℕ) (t : List ℕ) → x ≡ hex_digit (b / 16) → y ≡ hex_digit (b % 16)
    → first ≡ at + 2 + (1 + length (decimal r.refusal)) → s ≡ sets (set (set l at x) (at + 1) y) (at + 2) (space ∷ decimal r.refusal)
    → end ≡ first + length (spaced r.values) → t ≡ sets s first (spaced r.values)
    → (end + 1 ≡ at + length (line_text (line b r))) × (set t end 10 ≡ sets l at (line_text (line b r)))
unfolding line_text line spaced
line_written l at b r x y first s end t ex ey ef es ee et =
    let d = decimal r.refusal in
    let vs = spaced r.values in
    let head : List ℕ = x ∷ y ∷ space ∷ d in
    let e1 : at + 1 ≡ suc at = omega arith in
    let e2 : at + 2 ≡ suc (suc at) = omega arith in
    let i : s ≡ sets l at head = rw (e1, e2) at es in
    let j : t ≡ sets l at (head ++ vs) = et ∙ goes_on l head vs s at first (omega arith) i in
    (omega (arith, line_size b r), rw (← ex, ← ey) (goes_on l (head ++ vs) (10 ∷ []) t at end (omega (arith, length-append d vs)) j))
