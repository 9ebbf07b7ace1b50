-- What `searched` answers, by `find` and by `insert_in_order`.
use mathlib.Core.Path.{◌≡◌, refl, sym, ap, ◌∙◌}
use mathlib.Core.Bool.{true}
use mathlib.Core.List.{List, [], ◌∷◌, ◌++◌}
use Rattle.std.specs.Prelude.{Option, None, Some, Ok, Err}
use Prim.Native.Nat.{ℕ, zero, suc, ◌+◌, ◌≤◌, ◌<◌}
use native.Mathlib.Omega.{arith}
use lib.ListN.{length, take, drop}
use borrow.Author.Count.{below_none}
use Rattle.types.specs.declared.node_addr.NodeAddr.{NodeAddr}
use Rattle.types.specs.Addresses.{addr_before}
use Rattle.rules.specs.Cases.{Every}
use Rattle.rules.specs.Records.{Row}
use Rattle.rules.specs.Rows.{find, insert_in_order, row_at, total}
use Rattle.rules.specs.Sound.{ascends}
use Rattle.rules.proofs.Addresses.{before_total, before_trans, contradiction}
use Rattle.rules.proofs.RowLists.{by_cond, cores, find_at, find_none, none_unless}
use Rattle.search.specs.ByKey.{rows_before, searched}
use Rattle.search.proofs.RisingRows.{first_before, parted, rest_ascends}

pub find_searched : (k : NodeAddr) (rs : List Row) (i : ℕ) → find k rs ≡ Some i → searched k rs ≡ Ok i
unfolding searched
find_searched k rs i h = rw h

pub none_searched : (k : NodeAddr) (rs : List Row) → find k rs ≡ None → searched k rs ≡ Err (rows_before k rs)
unfolding searched
none_searched k rs h = rw h

pub at_found : (k : NodeAddr) (rs : List Row) (i : ℕ) → searched k rs ≡ Ok i → find k rs ≡ Some i
at_found k rs i h = go (find k rs) refl
  where
    go : (o : Option ℕ) → find k rs ≡ o → o ≡ Some i
    go None e = contradiction {b = true} refl (let z = sym (none_searched k rs e) ∙ h in cc)
    go (Some j) e = let z = sym (find_searched k rs j e) ∙ h in cc

pub absent_none : (k : NodeAddr) (rs : List Row) (i : ℕ) → searched k rs ≡ Err i → find k rs ≡ None
absent_none k rs i h = none_unless (find k rs) (λ j e. contradiction {b = true} refl (let z = sym (find_searched k rs j e) ∙ h in cc))

pub at_inside : (k : NodeAddr) (rs : List Row) (i : ℕ) → searched k rs ≡ Ok i → i < length rs
at_inside k rs i h = (find_at k rs i (at_found k rs i h)).inside

pub absent_count : (k : NodeAddr) (rs : List Row) (i : ℕ) → searched k rs ≡ Err i → rows_before k rs ≡ i
absent_count k rs i h = let z = sym (none_searched k rs (absent_none k rs i h)) ∙ h in cc

count_inside : (k : NodeAddr) (rs : List Row) → rows_before k rs ≤ length rs
unfolding total
count_inside k [] = omega arith
count_inside k (r ∷ rs) =
    let h = count_inside k rs in
    by_cond (λ u. u + rows_before k rs ≤ suc (length rs)) (addr_before r.key k) (λ e. omega arith) (λ e. omega arith)

pub absent_inside : (k : NodeAddr) (rs : List Row) (i : ℕ) → searched k rs ≡ Err i → i ≤ length rs
absent_inside k rs i h = omega (arith, absent_count k rs i h, count_inside k rs)

-- nothing stands before the key of a row that goes in front
front_count : (k : NodeAddr) (x : Row) (xs : List Row) → ascends (x ∷ xs) ≡ true → addr_before k x.key ≡ true → rows_before k (x ∷ xs) ≡ 0
front_count k x xs a h = (parted k (x ∷ xs) 0 (omega arith) (below_none _) behind).1
  where
    behind : (j : ℕ) → 0 ≤ j → j < suc (length xs) → addr_before k (row_at j (x ∷ xs)).key ≡ true
    behind zero l u = h
    behind (suc j) l u = before_trans k x.key (row_at j xs).key h (first_before x xs j a (omega arith))

put_in : (r : Row) (rs : List Row) → ascends rs ≡ true → Every (λ y. y.key ≡ r.key → ⊥) (cores rs) → insert_in_order r rs ≡ take (rows_before r.key rs) rs ++ (r ∷ drop (rows_before r.key rs) rs)
unfolding insert_in_order total
put_in r [] a n = refl
put_in r (x ∷ xs) a n = by_cond (λ u. u ≡ take (rows_before r.key (x ∷ xs)) (x ∷ xs) ++ (r ∷ drop (rows_before r.key (x ∷ xs)) (x ∷ xs))) (addr_before r.key x.key)
    (λ e. rw (front_count r.key x xs a e))
    (λ e. let c : rows_before r.key (x ∷ xs) ≡ suc (rows_before r.key xs) = rw (before_total r.key x.key e (λ q. n.0 (sym q))) (omega arith) in
    rw c (ap (λ (ys : List Row). x ∷ ys) (put_in r xs (rest_ascends x xs a) n.1)))

-- a new row goes in where the search for its key ended
pub absent_insert : (r : Row) (rs : List Row) (i : ℕ) → ascends rs ≡ true → searched r.key rs ≡ Err i → insert_in_order r rs ≡ take i rs ++ (r ∷ drop i rs)
absent_insert r rs i a h = rw (absent_count r.key rs i h) at (put_in r rs a (find_none r.key rs (absent_none r.key rs i h)))
