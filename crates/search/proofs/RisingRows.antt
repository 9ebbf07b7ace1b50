-- Ascending rows, and what the halving loop knows of them.
use mathlib.Core.Path.{◌≡◌, refl, sym}
use mathlib.Core.Logic.{⊎_elim}
use mathlib.Core.Bool.{true}
use mathlib.Core.List.{List, [], ◌∷◌}
use Rattle.std.specs.Prelude.{None, Some, Ok, Err}
use Prim.Native.Nat.{ℕ, zero, suc, ◌+◌, ◌≤◌, ◌<◌}
use native.Mathlib.Nat.{eq-or-lt_of_le}
use native.Mathlib.Omega.{arith}
use lib.ListN.{length}
use borrow.Author.Count.{below_none, below_more}
use Rattle.types.specs.declared.node_addr.NodeAddr.{NodeAddr}
use Rattle.types.specs.Addresses.{same_addr, addr_before}
use Rattle.rules.specs.Records.{Row}
use Rattle.rules.specs.Rows.{row_at, find, next_index, total}
use Rattle.rules.specs.Sound.{ascends, leads}
use Rattle.rules.proofs.Addresses.{before_trans, same_eq, same_ne, same_true, before_not_behind}
use Rattle.rules.proofs.SoundTest.{and_left, and_right}
use Rattle.search.specs.ByKey.{order_of, rows_before, searched}
use Rattle.std.specs.declared.cmp.Ordering.TheVariants.{Less, Equal, Greater}
use Rattle.search.proofs.OrderLaws.{before_differs, less_before, equal_same, greater_behind}

-- ---- ascending rows

pub rest_ascends : (r : Row) (rs : List Row) → ascends (r ∷ rs) ≡ true → ascends rs ≡ true
unfolding ascends
rest_ascends r rs a = and_right (leads r rs) (ascends rs) a

pub first_before : (r : Row) (rs : List Row) (j : ℕ) → ascends (r ∷ rs) ≡ true → j < length rs → addr_before r.key (row_at j rs).key ≡ true
unfolding ascends leads
first_before r [] j a h = absurd (let z : ⊥ = omega arith in z)
first_before r (x ∷ xs) zero a h = and_left (addr_before r.key x.key) (ascends (x ∷ xs)) a
first_before r (x ∷ xs) (suc j) a h =
    before_trans r.key x.key (row_at j xs).key (and_left (addr_before r.key x.key) (ascends (x ∷ xs)) a) (first_before x xs j (rest_ascends r (x ∷ xs) a) (omega arith))

-- a row stands before every later one
pub rising_at : (rs : List Row) (i j : ℕ) → ascends rs ≡ true → i < j → j < length rs → addr_before (row_at i rs).key (row_at j rs).key ≡ true
rising_at [] i j a h l = absurd (let z : ⊥ = omega arith in z)
rising_at (r ∷ rs) i zero a h l = absurd (let z : ⊥ = omega arith in z)
rising_at (r ∷ rs) zero (suc j) a h l = first_before r rs j a (omega arith)
rising_at (r ∷ rs) (suc i) (suc j) a h l = rising_at rs i j (rest_ascends r rs a) (omega arith) (omega arith)

-- ---- the row of a key is found, and a key without a row isn't

found_at : (k : NodeAddr) (rs : List Row) (i : ℕ) → ascends rs ≡ true → i < length rs → same_addr (row_at i rs).key k ≡ true → find k rs ≡ Some i
unfolding find next_index
found_at k [] i a h e = absurd (let z : ⊥ = omega arith in z)
found_at k (r ∷ rs) zero a h e = rw (same_eq k r.key (sym (same_true r.key k e)))
found_at k (r ∷ rs) (suc i) a h e =
    let b : addr_before r.key k ≡ true = rw (same_true (row_at i rs).key k e) at (first_before r rs i a (omega arith)) in
    rw (same_ne k r.key (λ z. before_differs r.key k b (sym z)), found_at k rs i (rest_ascends r rs a) (omega arith) e)

-- the rows below row m stand before k, and the others behind it
pub parted : (k : NodeAddr) (rs : List Row) (m : ℕ) → m ≤ length rs → ((j : ℕ) → j < m → addr_before (row_at j rs).key k ≡ true) → ((j : ℕ) → m ≤ j → j < length rs → addr_before k (row_at j rs).key ≡ true)
    → (find k rs ≡ None) × (rows_before k rs ≡ m)
unfolding find next_index total
parted k [] m h f g = (refl, omega arith)
parted k (r ∷ rs) zero h f g =
    let b = g 0 (omega arith) (omega arith) in
    let p = parted k rs 0 (omega arith) (below_none _) (λ j l u. g (suc j) (omega arith) (omega arith)) in
    (rw (same_ne k r.key (before_differs k r.key b), p.0), rw (before_not_behind k r.key b) (omega (arith, p.1)))
parted k (r ∷ rs) (suc m) h f g =
    let b = f 0 (omega arith) in
    let p = parted k rs m (omega arith) (λ j l. f (suc j) (omega arith)) (λ j l u. g (suc j) (omega arith) (omega arith)) in
    (rw (same_ne k r.key (λ e. before_differs r.key k b (sym e)), p.0), rw b (omega (arith, p.1)))

-- ---- the loop

pub record Halved (k : NodeAddr) (rs : List Row) (lo hi : ℕ) : Type 0 where
  pub ordered : lo ≤ hi
  pub within : hi ≤ length rs
  pub before : (j : ℕ) → j < lo → addr_before (row_at j rs).key k ≡ true
  pub behind : (j : ℕ) → hi ≤ j → j < length rs → addr_before k (row_at j rs).key ≡ true

pub halved_start : (k : NodeAddr) (rs : List Row) (n : ℕ) → length rs ≡ n → Halved k rs 0 n
halved_start k rs n e = record { ordered = omega arith; within = omega arith; before = below_none _; behind = λ j h l. absurd (let z : ⊥ = omega arith in z) }

-- r is row m, of those that are left
module _ {k : NodeAddr} {rs : List Row} {lo hi : ℕ} (d : Halved k rs lo hi) (a : ascends rs ≡ true) (m : ℕ) (p : lo ≤ m) (q : m < hi) {r : Row} (e : r ≡ row_at m rs) where
  pub halved_less : Less ≡ order_of r.key k → Halved k rs (m + 1) hi
  halved_less o =
      let b = less_before (row_at m rs).key k (rw e at (sym o)) in
      let lower : (j : ℕ) → j < m → addr_before (row_at j rs).key k ≡ true = λ j h. before_trans (row_at j rs).key (row_at m rs).key k (rising_at rs j m a h (omega arith)) b in
      record { ordered = omega arith; within = d.within; before = below_more _ m lower b; behind = d.behind }

  pub halved_greater : Greater ≡ order_of r.key k → Halved k rs lo m
  halved_greater o =
      let b = greater_behind (row_at m rs).key k (rw e at (sym o)) in
      let higher : (j : ℕ) → m < j → j < length rs → addr_before k (row_at j rs).key ≡ true = λ j h l. before_trans k (row_at m rs).key (row_at j rs).key b (rising_at rs m j a h l) in
      record { ordered = p; within = omega arith; before = d.before; behind = λ j h l. ⊎_elim (λ u. rw u at b) (λ u. higher j u l) (eq-or-lt_of_le h) }

  pub halved_equal : Equal ≡ order_of r.key k → Ok m ≡ searched k rs
  unfolding searched
  halved_equal o = rw (found_at k rs m a (omega arith) (equal_same (row_at m rs).key k (rw e at (sym o))))

pub halved_end : {k : NodeAddr} {rs : List Row} {lo hi : ℕ} → Halved k rs lo hi → hi ≤ lo → Err lo ≡ searched k rs
unfolding searched
halved_end {k} {rs} {lo} d h =
    let p = parted k rs lo (omega arith) d.before (λ j l u. d.behind j (omega arith) u) in
    rw (p.0, p.1)
