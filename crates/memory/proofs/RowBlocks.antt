-- Rows of a list of bytes that is put together of parts: what removal, keeping and insertion are made of.
use mathlib.Core.Path.{◌≡◌, refl, sym, ap, ◌∙◌}
use Prim.Native.Nat.{ℕ, zero, suc, ◌+◌, ◌*◌, ◌-◌, ◌≤◌}
use native.Mathlib.Nat.{suc-add, zero-add}
use native.Mathlib.Omega.{arith}
use mathlib.Core.List.{List, [], ◌∷◌, ◌++◌, append-nil}
use lib.ListN.{length, take, drop, length-drop, take-append-drop}
use lib.Seq.{slice, length-slice, length-take-le, take-append-le, drop-append-le, drop-drop}
use Rattle.rules.specs.Records.{Row}
use Rattle.rules.specs.Rows.{without_row}
use Rattle.rules.specs.Memory.{row_of, rows_of}
use Rattle.rules.specs.Layout.{row_size}

-- rows of two parts, the first of whole rows
pub rows_append : (a b : List ℕ) (i n : ℕ) → length a ≡ i * row_size → rows_of (i + n) (a ++ b) ≡ rows_of i a ++ rows_of n b
unfolding rows_of
rows_append [] b zero n e = ap (λ (k : ℕ). rows_of k b) (zero-add n)
rows_append (x ∷ a) b zero n e = absurd (omega arith)
rows_append a b (suc i) n e =
    let d : length (drop row_size a) ≡ i * row_size = rw length-drop (omega arith) in
    let k : row_size ≤ length a = omega arith in
    rw (suc-add, take-append-le row_size a b k, drop-append-le row_size a b k) (ap (λ (rs : List Row). row_of (take row_size a) ∷ rs) (rows_append (drop row_size a) b i n d))

-- rows past the first i
pub rows_drop : (i m : ℕ) (l : List ℕ) → rows_of m (drop (i * row_size) l) ≡ drop i (rows_of (i + m) l)
unfolding rows_of
rows_drop zero m l = ap (λ (k : ℕ). rows_of k l) (sym (zero-add m))
rows_drop (suc i) m l =
    let e : suc i * row_size ≡ row_size + i * row_size = omega arith in
    rw (e, suc-add i m) (ap (rows_of m) (sym (drop-drop (i * row_size) row_size l)) ∙ rows_drop i m (drop row_size l))

-- the first i of more rows
pub rows_take : (i m : ℕ) (l : List ℕ) → rows_of i l ≡ take i (rows_of (i + m) l)
unfolding rows_of
rows_take zero m l = refl
rows_take (suc i) m l = rw suc-add (ap (λ (rs : List Row). row_of (take row_size l) ∷ rs) (rows_take i m (drop row_size l)))

-- only the bytes of i rows matter to i rows
pub rows_front : (i : ℕ) (a b : List ℕ) → length a ≡ i * row_size → rows_of i (a ++ b) ≡ rows_of i a
unfolding rows_of
rows_front i a b e = let z : i ≡ i + 0 = omega arith in ap (λ (k : ℕ). rows_of k (a ++ b)) z ∙ rows_append a b i 0 e ∙ append-nil _

-- the bytes of n rows of a longer list
pub rows_cut : (i : ℕ) (l : List ℕ) → i * row_size ≤ length l → rows_of i (take (i * row_size) l) ≡ rows_of i l
rows_cut i l h = sym (rows_front i (take (i * row_size) l) (drop (i * row_size) l) (length-take-le (i * row_size) l h)) ∙ ap (rows_of i) (take-append-drop (i * row_size) l)

-- p rows, the rows from a up to e, and the rows from s on are n rows again
pub parts_rows : (n p a e s : ℕ) → p ≤ n → a ≤ e → e ≤ n → s ≤ n → p + (e - a + (n - s)) ≡ n → (b : List ℕ) → n * row_size ≤ length b
    → rows_of n (take (p * row_size) b ++ (slice (a * row_size) (e * row_size) b ++ drop (s * row_size) b)) ≡ take p (rows_of n b) ++ (drop a (take e (rows_of n b)) ++ drop s (rows_of n b))
parts_rows n p a e s f h g u w b k =
    let lp : length (take (p * row_size) b) ≡ p * row_size = length-take-le (p * row_size) b (omega arith) in
    let ls : length (slice (a * row_size) (e * row_size) b) ≡ (e - a) * row_size = length-slice (a * row_size) (e * row_size) b (omega arith) ∙ omega arith in
    let front : (i : ℕ) → i ≤ n → rows_of i (take (i * row_size) b) ≡ take i (rows_of n b) =
    λ i q. let z : i + (n - i) ≡ n = omega arith in rows_cut i b (omega arith) ∙ rw z at (rows_take i (n - i) b) in
    let za : a + (e - a) ≡ e = omega arith in
    let zs : s + (n - s) ≡ n = omega arith in
    let middle : rows_of (e - a) (slice (a * row_size) (e * row_size) b) ≡ drop a (take e (rows_of n b)) = rw za at (rows_drop a (e - a) (take (e * row_size) b)) ∙ ap (drop a) (front e g) in
    let last : rows_of (n - s) (drop (s * row_size) b) ≡ drop s (rows_of n b) = rw zs at (rows_drop s (n - s) b) in
    ap (λ (m : ℕ). rows_of m (take (p * row_size) b ++ (slice (a * row_size) (e * row_size) b ++ drop (s * row_size) b))) (sym w) ∙ rows_append (take (p * row_size) b) _ p (e - a + (n - s)) lp
    ∙ rw (rows_append (slice (a * row_size) (e * row_size) b) (drop (s * row_size) b) (e - a) (n - s) ls, front p f, middle, last)

pub without_eq : (i : ℕ) (rs : List Row) → without_row i rs ≡ take i rs ++ drop (suc i) rs
unfolding without_row
without_eq zero [] = refl
without_eq (suc i) [] = refl
without_eq zero (r ∷ rs) = refl
without_eq (suc i) (r ∷ rs) = ap (λ (x : List Row). r ∷ x) (without_eq i rs)
