-- The exact mean of ages, and the smallest expiry, as loops make them.
use mathlib.Core.Path.{◌≡◌, refl, sym, ap, ◌∙◌}
use Prim.Native.Nat.{ℕ, zero, suc, ◌+◌, ◌*◌, ◌-◌, ◌/◌, ◌%◌, ◌≤◌, ◌<◌, min}
use native.Mathlib.Omega.{arith}
use native.Mathlib.Nat.{mul_comm, mul_assoc, div-add-mod', mul-add-div_right, div-le_of_le-mul}
use mathlib.Core.List.{List, [], ◌∷◌, map}
use Rattle.std.proofs.Common.{Some, None}
use Rattle.std.specs.List.{fold, reduce}
use Rattle.rules.specs.Records.{Row}
use Rattle.rules.specs.Cases.{maybe}
use Rattle.rules.specs.Statistics.{mean, next_expiry}
use Rattle.std.specs.Prelude.{Option, None, Some}
use Rattle.types.specs.Values.{largest_number}

-- ---- the exact mean

abbrev pub age : ℕ → Row → ℕ
age time x = time - x.entry.created_at

pub mean_fits : (t n : ℕ) → t ≤ n * largest_number → 0 < n → t / n ≤ largest_number
mean_fits t n h k = div-le_of_le-mul n (omega (arith, h))

pub mean_of : (t n : ℕ) → 0 < n → t / n ≡ mean t n
unfolding mean
mean_of t zero k = absurd (let z : ⊥ = omega arith in z)
mean_of t (suc n) k = refl

-- 2^32
abbrev half : ℕ
half = 4294967296

-- a number as a multiple of the count and what is over
over : (n q r : ℕ) → q * half + r ≡ q / n * half * n + (q % n * half + r)
over n q r =
    let d = div-add-mod' q n in
    let s : q / n * half * n ≡ q / n * n * half = mul_assoc (q / n) half n ∙ ap (λ (x : ℕ). q / n * x) (mul_comm half n) ∙ sym (mul_assoc (q / n) n half) in
    omega (arith, d, s)

-- divided by its high part and its low half
pub by_halves : (t n : ℕ) → 0 < n → t / n ≡ t / half / n * half + (t / half % n * half + t % half) / n
by_halves t n h =
    let e : t ≡ t / half / n * half * n + (t / half % n * half + t % half) = omega (arith, over n (t / half) (t % half)) in
    ap (λ (x : ℕ). x / n) e ∙ mul-add-div_right h (t / half / n * half) (t / half % n * half + t % half)

-- ---- the smallest expiry

abbrev pub expiry : Row → ℕ
expiry x = x.entry.expires_at

expiry_fold : (e : ℕ) (rs : List Row) → fold min e (map expiry rs) ≡ maybe (next_expiry rs) e (min e)
unfolding next_expiry
expiry_fold e [] = refl
expiry_fold e (y ∷ ys) = expiry_fold (min e y.entry.expires_at) ys ∙ here (next_expiry ys)
  where
    here : (o : Option ℕ) → maybe o (min e y.entry.expires_at) (min (min e y.entry.expires_at)) ≡ min e (maybe o y.entry.expires_at (min y.entry.expires_at))
    here None = refl
    here (Some t) = omega arith

-- the least of what the rows give
pub expiry_least : (rs : List Row) → reduce min (map expiry rs) ≡ next_expiry rs
unfolding next_expiry
expiry_least [] = refl
expiry_least (x ∷ xs) = ap Some (expiry_fold (expiry x) xs)
