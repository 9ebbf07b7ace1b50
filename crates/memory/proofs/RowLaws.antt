-- What is done to whole rows, in the view.
use mathlib.Core.Path.{◌≡◌, refl, sym, ap, ◌∙◌}
use Prim.Native.Nat.{ℕ, zero, suc, ◌+◌, ◌*◌, ◌-◌, ◌^◌, ◌≤◌, ◌<◌}
use native.Mathlib.Omega.{arith}
use mathlib.Core.Logic.{inl}
use mathlib.Core.Bool.{cond}
use mathlib.Core.List.{List, [], ◌∷◌, ◌++◌, append_assoc}
use lib.Dec.{ltb}
use borrow.Author.Tests.{lt-ltb, le-ltb}
use lib.ListN.{length, take, drop, replicate, length-append, length-drop, length-replicate}
use lib.Seq.{sets, sets-eq, length-sets, slice, length-slice, length-take-le, take-take, take-append-le, take_at, take_all, drop-append-le, drop-append-add, drop_at, drop-drop}
use Rattle.rules.specs.Records.{Row, State}
use Rattle.rules.specs.Rows.{in_main, row_at, weigh_rows, with_rows, without_row, zero_rows, with_only_rows}
use Rattle.rules.specs.Room.{take_out}
use Rattle.rules.specs.Memory.{cut, le_number, le_bytes, row_of, rows_of, view_rows}
use Rattle.rules.proofs.Foreign.{rows_of_length}
use Rattle.rules.proofs.RowLists.{total_without}
use Rattle.rules.proofs.Sizes.{zero_length}
use Rattle.rules.proofs.MemoryLaws.{drop_take_add}
use Rattle.raw.proofs.StoreLaws.{take_sets_le, drop_sets_add, cut_else, cut_same, cut_cut}
use Rattle.rules.specs.Refusals.{fresh}
use Rattle.rules.specs.Layout.{default_ttl_offset, head_size, max_entries_offset, number_size, row_count_offset, row_size, seq_offset, stored_weight_offset}
use Rattle.memory.specs.Edits.{with_stored_weight, with_row_count, OnlyRows, shrunk}
use Rattle.memory.proofs.RowBlocks.{rows_take, parts_rows, without_eq}
use Rattle.memory.proofs.Fields.{head_store, with_head_number}

-- ---- the front of a memory

pub view_length : (n : ℕ) (l : List ℕ) → length (view_rows n l).rows ≡ n
unfolding view_rows
view_length n l = rows_of_length n (drop head_size l)

-- the first j of more rows
pub view_front : (j m : ℕ) (l : List ℕ) → (view_rows j l).rows ≡ take j (view_rows (j + m) l).rows
unfolding view_rows
view_front j m l = rows_take j m (drop head_size l)

-- the head's numbers are read from its bytes
pub head_cut : (a w : ℕ) (l m : List ℕ) → a + w ≤ head_size → take head_size m ≡ take head_size l → cut a w m ≡ cut a w l
head_cut a w l m h e = sym (front m) ∙ ap (cut a w) e ∙ front l
  where
    front : (x : List ℕ) → cut a w (take head_size x) ≡ cut a w x
    front x = let z : 0 + a ≡ a = omega arith in cut_cut 0 head_size a w x h ∙ ap (λ (k : ℕ). cut k w x) z

-- rows before a store
rows_before_lem : (j k : ℕ) (l vs : List ℕ) → j * row_size ≤ k → rows_of j (sets l k vs) ≡ rows_of j l
unfolding rows_of
rows_before_lem zero k l vs h = refl
rows_before_lem (suc j) k l vs h = rw (take_sets_le row_size vs l k (omega arith), drop_sets_add row_size vs l (k - row_size) k (omega arith)) (ap (λ (rs : List Row). row_of (take row_size l) ∷ rs) (rows_before_lem j (k - row_size) (drop row_size l) vs (omega arith)))

pub view_before : (j : ℕ) (m vs : List ℕ) → (view_rows j (sets m (head_size + j * row_size) vs)).rows ≡ (view_rows j m).rows
unfolding view_rows
view_before j m vs = ap (rows_of j) (drop_sets_add head_size vs m (j * row_size) (head_size + j * row_size) refl) ∙ rows_before_lem j (j * row_size) (drop head_size m) vs (omega arith)

-- ---- rows past the first j become zero

zeros : (n j : ℕ) → j ≤ n → replicate {A = ℕ} (head_size + n * row_size - (head_size + j * row_size)) 0 ≡ zero_rows (n - j)
unfolding zero_rows
zeros n j h = let e : head_size + n * row_size - (head_size + j * row_size) ≡ (n - j) * row_size = omega arith in rw e

stored_rest : (l vs : List ℕ) (i : ℕ) → i + length vs ≤ length l → drop i (sets l i vs) ≡ vs ++ drop (i + length vs) l
stored_rest l vs i h = let n : length (take i l) ≡ i = length-take-le i l (omega arith) in rw (sets-eq vs l i h, append_assoc) (drop_at (take i l) (vs ++ drop (i + length vs) l) i n)

pub zeroed_view : (n j w : ℕ) (l : List ℕ) → j ≤ n → head_size + n * row_size ≤ length l
    → with_row_count j (with_stored_weight w (view_rows j (sets l (head_size + j * row_size) (replicate (head_size + n * row_size - (head_size + j * row_size)) 0)))) ≡ shrunk n j w l
unfolding view_rows with_row_count with_stored_weight shrunk
zeroed_view n j w l h k =
    let vs : List ℕ = zero_rows (n - j) in
    let lv = zero_length (n - j) in
    let m : List ℕ = sets l (head_size + j * row_size) vs in
    let b : (a x : ℕ) → a + x ≤ head_size → cut a x m ≡ cut a x l = λ a x q. cut_else l vs (head_size + j * row_size) a x (inl (omega arith)) in
    let e : head_size + j * row_size + length vs ≡ head_size + n * row_size = omega arith in
    let r : drop (head_size + j * row_size) m ≡ vs ++ drop (head_size + n * row_size) l = stored_rest l vs (head_size + j * row_size) (omega arith) ∙ ap (λ (x : ℕ). vs ++ drop x l) e in
    rw (zeros n j h, b max_entries_offset number_size (omega arith), b default_ttl_offset number_size (omega arith), b seq_offset number_size (omega arith), view_before j l vs, r)

-- where only the rows differ, the shrunk memory is the state with only these rows
pub only_shrunk : (n j : ℕ) (rs : List Row) (l m : List ℕ) → j ≤ n → length rs ≡ j → OnlyRows n j rs l m → shrunk n j (weigh_rows in_main rs) m ≡ with_only_rows rs (view_rows n l)
unfolding view_rows shrunk with_only_rows
only_shrunk n j rs l m h e o =
    let c : (a w : ℕ) → a + w ≤ head_size → cut a w m ≡ cut a w l = λ a w q. head_cut a w l m q o.head in
    rw (view_length n l, e, o.rows, o.rest, c max_entries_offset number_size (omega arith), c default_ttl_offset number_size (omega arith), c seq_offset number_size (omega arith))

-- ---- blocks of rows put together

-- p rows, the rows from a up to e, and what is from row s on
abbrev pub parts : ℕ → ℕ → ℕ → ℕ → List ℕ → List ℕ
parts p a e s l = take (head_size + p * row_size) l ++ (slice (head_size + a * row_size) (head_size + e * row_size) l ++ drop (head_size + s * row_size) l)

pub parts_head : (p a e s : ℕ) (l : List ℕ) → head_size + p * row_size ≤ length l → take head_size (parts p a e s l) ≡ take head_size l
parts_head p a e s l k =
    let lx = length-take-le (head_size + p * row_size) l k in
    take-append-le head_size (take (head_size + p * row_size) l) _ (omega arith) ∙ take-take head_size (head_size + p * row_size) l (omega arith)

-- they are n rows again
pub parts_view : (n p a e s : ℕ) → p ≤ n → a ≤ e → e ≤ n → s ≤ n → p + (e - a + (n - s)) ≡ n → (l : List ℕ) → head_size + n * row_size ≤ length l
    → view_rows n (parts p a e s l) ≡ with_rows (take p (view_rows n l).rows ++ (drop a (take e (view_rows n l).rows) ++ drop s (view_rows n l).rows)) (view_rows n l)
unfolding view_rows with_rows
parts_view n p a e s f h g u w l k =
    let x : List ℕ = take (head_size + p * row_size) l in
    let y : List ℕ = slice (head_size + a * row_size) (head_size + e * row_size) l in
    let z : List ℕ = drop (head_size + s * row_size) l in
    let m : List ℕ = x ++ (y ++ z) in
    let lx : length x ≡ head_size + p * row_size = length-take-le (head_size + p * row_size) l (omega arith) in
    let ly : length y ≡ (e - a) * row_size = length-slice (head_size + a * row_size) (head_size + e * row_size) l (omega arith) ∙ omega arith in
    let lxy : length (x ++ y) ≡ head_size + p * row_size + (e - a) * row_size = length-append x y ∙ omega arith in
    let cu : (o v : ℕ) → o + v ≤ head_size → cut o v m ≡ cut o v l = λ o v q. head_cut o v l m q (parts_head p a e s l (omega arith)) in
    let d : drop head_size m ≡ take (p * row_size) (drop head_size l) ++ (slice (a * row_size) (e * row_size) (drop head_size l) ++ drop (s * row_size) (drop head_size l)) =
    drop-append-le head_size x (y ++ z) (omega arith)
    ∙ rw (drop_take_add head_size (p * row_size) l, ← drop-drop (a * row_size) head_size (take (head_size + e * row_size) l), drop_take_add head_size (e * row_size) l, ← drop-drop (s * row_size) head_size l) in
    let rs = ap (rows_of n) d ∙ parts_rows n p a e s f h g u w (drop head_size l) (rw length-drop (omega arith)) in
    let en : head_size + n * row_size ≡ length (x ++ y) + (n - s) * row_size = omega arith in
    let es : head_size + s * row_size + (n - s) * row_size ≡ head_size + n * row_size = omega arith in
    let rt : drop (head_size + n * row_size) m ≡ drop (head_size + n * row_size) l =
    ap (drop (head_size + n * row_size)) (sym (append_assoc x y z)) ∙ ap (λ (o : ℕ). drop o ((x ++ y) ++ z)) en ∙ drop-append-add (x ++ y) z ((n - s) * row_size)
    ∙ drop-drop ((n - s) * row_size) (head_size + s * row_size) l ∙ ap (λ (o : ℕ). drop o l) es in
    rw (cu max_entries_offset number_size (omega arith), cu default_ttl_offset number_size (omega arith), cu seq_offset number_size (omega arith), cu stored_weight_offset number_size (omega arith), cu row_count_offset number_size (omega arith), rs, rt)

-- ---- a row leaves

-- what `shift_down` makes of a memory, from row i up to the last
pub gap_closed : (l m : List ℕ) (n i : ℕ) → i < n → head_size + n * row_size ≤ length l → length m ≡ length l
    → m ≡ take (head_size + i * row_size) l ++ (slice (head_size + i * row_size + row_size) (head_size + n * row_size) l ++ drop (head_size + n * row_size - row_size) l)
    → OnlyRows n (n - 1) (without_row i (view_rows n l).rows) l m
unfolding view_rows with_rows
gap_closed l m n i h k z e =
    let rs : List Row = rows_of n (drop head_size l) in
    let nl = view_length n l in
    let a : head_size + i * row_size + row_size ≡ head_size + suc i * row_size = omega arith in
    let b : head_size + n * row_size - row_size ≡ head_size + (n - 1) * row_size = omega arith in
    let q : m ≡ parts i (suc i) n (n - 1) l = e ∙ rw (a, b) in
    let v = ap (view_rows n) q ∙ parts_view n i (suc i) n (n - 1) (omega arith) (omega arith) (omega arith) (omega arith) (omega arith) l k in
    let o : n - 1 + 1 ≡ n = omega arith in
    let li = length-take-le i rs (omega arith) in
    let kept : length (take i rs ++ drop (suc i) rs) ≡ n - 1 = simp (length-append, length-drop) (omega arith) in
    record {
      size = z;
      head = ap (take head_size) q ∙ parts_head i (suc i) n (n - 1) l (omega arith);
      rows = rw o at (view_front (n - 1) 1 m) ∙ ap (λ (s : State). take (n - 1) s.rows) v
          ∙ rw (take_all n rs (omega arith), ← append_assoc (take i rs) (drop (suc i) rs) (drop (n - 1) rs), take_at (take i rs ++ drop (suc i) rs) (drop (n - 1) rs) (n - 1) kept)
          (sym (without_eq i rs));
      rest = ap (λ (s : State). s.rest) v;
    }

pub length_without : (i : ℕ) (rs : List Row) → i < length rs → length (without_row i rs) ≡ length rs - 1
unfolding without_row
length_without i [] h = absurd (let z : ⊥ = omega arith in z)
length_without zero (r ∷ rs) h = omega arith
length_without (suc i) (r ∷ rs) h = omega (arith, length_without i rs (omega arith))

pub out_view : (n i : ℕ) (l m : List ℕ) → i < n → OnlyRows n (n - 1) (without_row i (view_rows n l).rows) l m → shrunk n (n - 1) (weigh_rows in_main (without_row i (view_rows n l).rows)) m ≡ take_out i (view_rows n l)
unfolding take_out
out_view n i l m h o = only_shrunk n (n - 1) (without_row i (view_rows n l).rows) l m (omega arith) (length_without i (view_rows n l).rows (omega (arith, view_length n l)) ∙ ap (λ (x : ℕ). x - 1) (view_length n l)) o

-- the stored weight without row i
pub weight_out : (i : ℕ) (rs : List Row) → i < length rs → weigh_rows in_main (without_row i rs) + cond (ltb (row_at i rs).place 2) (row_at i rs).weight 0 ≡ weigh_rows in_main rs
unfolding in_main
weight_out i rs h = total_without (λ r. cond (ltb r.place 2) r.weight 0) i rs h

pub main_leaves : (i : ℕ) (rs : List Row) → i < length rs → (row_at i rs).place < 2 → weigh_rows in_main (without_row i rs) + (row_at i rs).weight ≡ weigh_rows in_main rs
main_leaves i rs h k = rw (lt-ltb _ _ k) at (weight_out i rs h)

pub main_holds : (i : ℕ) (rs : List Row) → i < length rs → (row_at i rs).place < 2 → (row_at i rs).weight ≤ weigh_rows in_main rs
main_holds i rs h k = omega (arith, main_leaves i rs h k)

pub other_leaves : (i : ℕ) (rs : List Row) → i < length rs → 2 ≤ (row_at i rs).place → weigh_rows in_main (without_row i rs) ≡ weigh_rows in_main rs
other_leaves i rs h k = omega (arith, rw (le-ltb _ _ k) at (weight_out i rs h))

-- ---- fresh

zero_number : (n : ℕ) → le_number (replicate n 0) ≡ 0
unfolding le_number
zero_number zero = refl
zero_number (suc n) = rw (zero_number n) (omega arith)

zero_cut : (a w n : ℕ) (l : List ℕ) → a + w ≤ n → n ≤ length l → cut a w (sets l 0 (replicate n 0)) ≡ replicate w 0
zero_cut a w n l h k =
    let ln : length (replicate {A = ℕ} n 0) ≡ n = length-replicate {A = ℕ} n 0 in
    let z : 0 + a ≡ a = omega arith in
    let e : cut 0 n (sets l 0 (replicate n 0)) ≡ replicate n 0 = rw ln at (cut_same l (replicate n 0) 0 (omega arith)) in
    sym (cut_cut 0 n a w (sets l 0 (replicate n 0)) h ∙ ap (λ (x : ℕ). cut x w (sets l 0 (replicate n 0))) z) ∙ ap (cut a w) e ∙ zeros_cut a w n h
  where
    zeros_cut : (a w n : ℕ) → a + w ≤ n → cut a w (replicate n 0) ≡ replicate w 0
    zeros_cut zero zero n h = refl
    zeros_cut zero (suc w) zero h = absurd (let z : ⊥ = omega arith in z)
    zeros_cut zero (suc w) (suc n) h = ap (λ (x : List ℕ). 0 ∷ x) (zeros_cut zero w n (omega arith))
    zeros_cut (suc a) w zero h = absurd (let z : ⊥ = omega arith in z)
    zeros_cut (suc a) w (suc n) h = zeros_cut a w n (omega arith)

zeros_drop : (a b : ℕ) → drop a (replicate {A = ℕ} (a + b) 0) ≡ replicate b 0
zeros_drop zero b = let z : 0 + b ≡ b = omega arith in rw z
zeros_drop (suc a) b = let e : suc a + b ≡ suc (a + b) = omega arith in rw e (zeros_drop a b)

zero_tail : (l : List ℕ) (R : ℕ) → head_size + R * row_size ≤ length l → drop head_size (sets l 0 (replicate (head_size + R * row_size) 0)) ≡ replicate (R * row_size) 0 ++ drop (head_size + R * row_size) l
zero_tail l R k =
    let n : ℕ = head_size + R * row_size in
    let ln : length (replicate {A = ℕ} n 0) ≡ n = length-replicate {A = ℕ} n 0 in
    let e : 0 + length (replicate {A = ℕ} n 0) ≡ n = omega arith in
    ap (drop head_size) (stored_rest l (replicate n 0) 0 (omega arith) ∙ ap (λ (x : ℕ). replicate n 0 ++ drop x l) e) ∙ drop-append-le head_size (replicate n 0) (drop n l) (omega arith) ∙ ap (λ (x : List ℕ). x ++ drop n l) (zeros_drop head_size (R * row_size))

pub fresh_view : (l : List ℕ) (R m t : ℕ) → m < 256 ^ number_size → t < 256 ^ number_size → head_size + R * row_size ≤ length l
    → view_rows 0 (sets (sets (sets l 0 (replicate (head_size + R * row_size - 0) 0)) max_entries_offset (le_bytes number_size m)) default_ttl_offset (le_bytes number_size t)) ≡ fresh R m t (drop (head_size + R * row_size) l)
unfolding view_rows fresh rows_of zero_rows with_head_number
fresh_view l R m t hm ht k =
    let n : ℕ = head_size + R * row_size in
    let z : n - 0 ≡ n = omega arith in
    let x : List ℕ = sets l 0 (replicate n 0) in
    let c : (o w : ℕ) → o + w ≤ n → le_number (cut o w x) ≡ 0 = λ o w p. ap le_number (zero_cut o w n l p k) ∙ zero_number w in
    rw z (head_store default_ttl_offset t refl ht 0 (sets x max_entries_offset (le_bytes number_size m)) (simp length-sets (omega arith))
    ∙ ap (with_head_number default_ttl_offset t) (head_store max_entries_offset m refl hm 0 x (simp length-sets (omega arith)))
    ∙ rw (c seq_offset number_size (omega arith), c stored_weight_offset number_size (omega arith), c row_count_offset number_size (omega arith), zero_tail l R k))
