-- Cases on tests and options; lists of rows by index, and seen without place and stamp.
use Prim.Native.Nat.{ℕ, zero, suc, ◌+◌, ◌*◌, ◌-◌, ◌<◌, ◌≤◌}
use mathlib.Core.Path.{◌≡◌, refl, sym, ◌∙◌, ap, subst}
use mathlib.Core.List.{List, [], ◌∷◌, ◌++◌, map}
use Rattle.std.specs.Prelude.{Option, None, Some}
use mathlib.Core.Bool.{Bool, true, false, cond, ◌&&◌, ◌||◌}
use lib.Dec.{ltb, eqb}
use lib.ListN.{length, take, drop, replicate}
use borrow.Author.Tests.{ltb-true, ltb-false, eqb-true}
use native.Mathlib.Omega.{arith}
use Rattle.types.specs.declared.node_addr.NodeAddr.{NodeAddr}
use Rattle.types.specs.Addresses.{addr_before, same_addr}
use Rattle.rules.specs.Cases.{Every, maybe}
use Rattle.rules.specs.Records.{Entry, Row, probation}
use Rattle.rules.specs.Rows.{at_place, change_row, find, insert_in_order, keep_rows, lower_of, lowest_stamp, next_index, row_at, stamp_before, total, without_row}
use Rattle.rules.proofs.Addresses.{before_irrefl, before_total, before_trans, contradiction, same_eq, same_false, same_ne, same_true}

pub by_cond {ℓ κ} : {A : Type ℓ} (P : A → Type κ) (b : Bool) {x y : A} → (b ≡ true → P x) → (b ≡ false → P y) → P (cond b x y)
by_cond P true f g = f refl
by_cond P false f g = g refl

pub by_maybe {κ μ} : {A : Type 0} {B : Type κ} (P : B → Type μ) (o : Option A) {d : B} {f : A → B} → (o ≡ None → P d) → ((a : A) → o ≡ Some a → P (f a)) → P (maybe o d f)
by_maybe P None f g = f refl
by_maybe P (Some a) f g = g a refl

pub none_unless : {A : Type 0} (o : Option A) → ((a : A) → o ≡ Some a → ⊥) → o ≡ None
none_unless None f = refl
none_unless (Some a) f = absurd (f a refl)

-- a first match: at the head, or further on
pub cond_some {κ} : {A : Type 0} {C : Type κ} (b : Bool) {a x : A} {o : Option A} → cond b (Some a) o ≡ Some x → (b ≡ true → a ≡ x → C) → (b ≡ false → o ≡ Some x → C) → C
cond_some true h f g = f refl (cc)
cond_some false h f g = g refl h

pub next_some : {C : Type 0} (o : Option ℕ) {i : ℕ} → next_index o ≡ Some i → ((j : ℕ) → o ≡ Some j → suc j ≡ i → C) → C
unfolding next_index
next_some None h f = contradiction {b = true} refl (cc)
next_some (Some j) h f = f j refl (cc)

pub next_none : (o : Option ℕ) → next_index o ≡ None → o ≡ None
unfolding next_index
next_none None h = refl
next_none (Some j) h = contradiction {b = true} refl (cc)

-- a row without place and stamp
pub record Core : Type 0 where
  pub key : NodeAddr
  pub entry : Entry
  pub weight : ℕ
  pub on_probation : Bool

abbrev pub core : Row → Core
core r = record { key = r.key; entry = r.entry; weight = r.weight; on_probation = at_place probation r }

abbrev pub cores : List Row → List Core
cores [] = []
cores (r ∷ rs) = core r ∷ cores rs

unfoldable pub look : NodeAddr → List Core → Option Core
look k [] = None
look k (x ∷ xs) = cond (same_addr k x.key) (Some x) (look k xs)

abbrev pub Unique : List Core → Type 0
Unique [] = Unit {0}
Unique (x ∷ xs) = Every (λ y. y.key ≡ x.key → ⊥) xs × Unique xs

abbrev pub Rising : List Core → Type 0
Rising [] = Unit {0}
Rising (x ∷ xs) = Every (λ y. addr_before x.key y.key ≡ true) xs × Rising xs

-- ---- what every one has

pub every_map {ℓ} : {A : Type ℓ} {P Q : A → Type 0} → ((x : A) → P x → Q x) → (xs : List A) → Every P xs → Every Q xs
every_map f [] h = tt
every_map f (x ∷ xs) h = (f x h.0, every_map f xs h.1)

pub every_both {ℓ} : {A : Type ℓ} {P Q S : A → Type 0} → ((x : A) → P x → Q x → S x) → (xs : List A) → Every P xs → Every Q xs → Every S xs
every_both f [] h g = tt
every_both f (x ∷ xs) h g = (f x h.0 g.0, every_both f xs h.1 g.1)

pub every_three {ℓ} : {A : Type ℓ} {P Q S T : A → Type 0} → ((x : A) → P x → Q x → S x → T x) → (xs : List A) → Every P xs → Every Q xs → Every S xs → Every T xs
every_three f [] h g k = tt
every_three f (x ∷ xs) h g k = (f x h.0 g.0 k.0, every_three f xs h.1 g.1 k.1)

pub every_all {ℓ} : {A : Type ℓ} {P : A → Type 0} → ((x : A) → P x) → (xs : List A) → Every P xs
every_all f [] = tt
every_all f (x ∷ xs) = (f x, every_all f xs)

pub every_take {ℓ} : {A : Type ℓ} (P : A → Type 0) (n : ℕ) (xs : List A) → Every P xs → Every P (take n xs)
every_take P zero xs h = tt
every_take P (suc n) [] h = tt
every_take P (suc n) (x ∷ xs) h = (h.0, every_take P n xs h.1)

pub every_drop {ℓ} : {A : Type ℓ} (P : A → Type 0) (n : ℕ) (xs : List A) → Every P xs → Every P (drop n xs)
every_drop P zero xs h = h
every_drop P (suc n) [] h = tt
every_drop P (suc n) (x ∷ xs) h = every_drop P n xs h.1

pub every_append {ℓ} : {A : Type ℓ} (P : A → Type 0) (xs ys : List A) → Every P xs → Every P ys → Every P (xs ++ ys)
every_append P [] ys h g = g
every_append P (x ∷ xs) ys h g = (h.0, every_append P xs ys h.1 g)

pub every_copy {ℓ} : {A : Type ℓ} (P : A → Type 0) (n : ℕ) {x : A} → P x → Every P (replicate n x)
every_copy P zero p = tt
every_copy P (suc n) p = (p, every_copy P n p)

pub to_cores : (P : Core → Type 0) (rs : List Row) → Every (λ r. P (core r)) rs → Every P (cores rs)
to_cores P [] h = tt
to_cores P (r ∷ rs) h = (h.0, to_cores P rs h.1)

pub of_cores : (P : Core → Type 0) (rs : List Row) → Every P (cores rs) → Every (λ r. P (core r)) rs
of_cores P [] h = tt
of_cores P (r ∷ rs) h = (h.0, of_cores P rs h.1)

pub every_at : (P : Row → Type 0) (i : ℕ) (rs : List Row) → i < length rs → Every P rs → P (row_at i rs)
every_at P i [] l h = absurd (let z : ⊥ = omega arith in z)
every_at P zero (r ∷ rs) l h = h.0
every_at P (suc i) (r ∷ rs) l h = every_at P i rs (omega arith) h.1

-- another property: each row's, and the changed one's
pub every_turned : (P Q : Row → Type 0) (f : Row → Row) (i : ℕ) (rs : List Row) → ((r : Row) → P r → Q r) → (P (row_at i rs) → Q (f (row_at i rs))) → Every P rs → Every Q (change_row f i rs)
unfolding change_row
every_turned P Q f i [] k g h = tt
every_turned P Q f zero (r ∷ rs) k g h = (g h.0, every_map k rs h.1)
every_turned P Q f (suc i) (r ∷ rs) k g h = (k r h.0, every_turned P Q f i rs k g h.1)

pub every_change : (P : Row → Type 0) (f : Row → Row) (i : ℕ) (rs : List Row) → (P (row_at i rs) → P (f (row_at i rs))) → Every P rs → Every P (change_row f i rs)
every_change P f i rs g h = every_turned P P f i rs (λ r p. p) g h

pub every_without : (P : Row → Type 0) (i : ℕ) (rs : List Row) → Every P rs → Every P (without_row i rs)
unfolding without_row
every_without P i [] h = tt
every_without P zero (r ∷ rs) h = h.1
every_without P (suc i) (r ∷ rs) h = (h.0, every_without P i rs h.1)

-- with the test that kept each
pub every_kept : (P : Row → Type 0) (p : Row → Bool) (rs : List Row) → Every (λ r. p r ≡ true → P r) rs → Every P (keep_rows p rs)
unfolding keep_rows
every_kept P p [] h = tt
every_kept P p (r ∷ rs) h = by_cond (Every P) (p r) (λ e. (h.0 e, every_kept P p rs h.1)) (λ e. every_kept P p rs h.1)

pub every_keep : (P : Row → Type 0) (p : Row → Bool) (rs : List Row) → Every P rs → Every P (keep_rows p rs)
every_keep P p rs h = every_kept P p rs (every_map (λ r x e. x) rs h)

pub every_insert : (P : Row → Type 0) (r : Row) (rs : List Row) → P r → Every P rs → Every P (insert_in_order r rs)
unfolding insert_in_order
every_insert P r [] p h = (p, tt)
every_insert P r (x ∷ xs) p h = by_cond (Every P) (addr_before r.key x.key) (λ e. (p, h)) (λ e. (h.0, every_insert P r xs p h.1))

-- ---- sums

pub total_change : (g : Row → ℕ) (f : Row → Row) (i : ℕ) (rs : List Row) → i < length rs → total g (change_row f i rs) + g (row_at i rs) ≡ total g rs + g (f (row_at i rs))
unfolding total change_row
total_change g f i [] h = absurd (let z : ⊥ = omega arith in z)
total_change g f zero (r ∷ rs) h = omega arith
total_change g f (suc i) (r ∷ rs) h = omega (arith, total_change g f i rs (omega arith))

pub total_without : (g : Row → ℕ) (i : ℕ) (rs : List Row) → i < length rs → total g (without_row i rs) + g (row_at i rs) ≡ total g rs
unfolding total without_row
total_without g i [] h = absurd (let z : ⊥ = omega arith in z)
total_without g zero (r ∷ rs) h = omega arith
total_without g (suc i) (r ∷ rs) h = omega (arith, total_without g i rs (omega arith))

pub total_without_le : (g : Row → ℕ) (i : ℕ) (rs : List Row) → total g (without_row i rs) ≤ total g rs
unfolding total without_row
total_without_le g i [] = omega arith
total_without_le g zero (r ∷ rs) = omega arith
total_without_le g (suc i) (r ∷ rs) = omega (arith, total_without_le g i rs)

pub total_some : (g : Row → ℕ) (i : ℕ) (rs : List Row) → i < length rs → g (row_at i rs) ≤ total g rs
unfolding total
total_some g i [] h = absurd (let z : ⊥ = omega arith in z)
total_some g zero (r ∷ rs) h = omega arith
total_some g (suc i) (r ∷ rs) h = omega (arith, total_some g i rs (omega arith))

pub total_insert : (g : Row → ℕ) (r : Row) (rs : List Row) → total g (insert_in_order r rs) ≡ g r + total g rs
unfolding total insert_in_order
total_insert g r [] = refl
total_insert g r (x ∷ xs) = by_cond (λ u. total g u ≡ g r + (g x + total g xs)) (addr_before r.key x.key) (λ e. refl) (λ e. omega (arith, total_insert g r xs))

pub total_keep_le : (g : Row → ℕ) (p : Row → Bool) (rs : List Row) → total g (keep_rows p rs) ≤ total g rs
unfolding total keep_rows
total_keep_le g p [] = omega arith
total_keep_le g p (r ∷ rs) = by_cond (λ u. total g u ≤ g r + total g rs) (p r) (λ e. omega (arith, total_keep_le g p rs)) (λ e. omega (arith, total_keep_le g p rs))

pub total_keep : (g : Row → ℕ) (p : Row → Bool) → ((r : Row) → p r ≡ false → g r ≡ 0) → (rs : List Row) → total g (keep_rows p rs) ≡ total g rs
unfolding total keep_rows
total_keep g p z [] = refl
total_keep g p z (r ∷ rs) = by_cond (λ u. total g u ≡ g r + total g rs) (p r) (λ e. omega (arith, total_keep g p z rs)) (λ e. omega (arith, total_keep g p z rs, z r e))

pub total_same : (f g : Row → ℕ) (rs : List Row) → Every (λ r. f r ≡ g r) rs → total f rs ≡ total g rs
unfolding total
total_same f g [] h = refl
total_same f g (r ∷ rs) h = omega (arith, h.0, total_same f g rs h.1)

pub total_zero : (g : Row → ℕ) (rs : List Row) → total g rs ≡ 0 → Every (λ r. g r ≡ 0) rs
unfolding total
total_zero g [] h = tt
total_zero g (r ∷ rs) h = (omega arith, total_zero g rs (omega arith))

pub total_le : (f g : Row → ℕ) → ((r : Row) → f r ≤ g r) → (rs : List Row) → total f rs ≤ total g rs
unfolding total
total_le f g h [] = omega arith
total_le f g h (r ∷ rs) = omega (arith, h r, total_le f g h rs)

pub total_twice : (f g : Row → ℕ) → ((r : Row) → f r ≤ 2 * g r) → (rs : List Row) → total f rs ≤ 2 * total g rs
unfolding total
total_twice f g h [] = omega arith
total_twice f g h (r ∷ rs) = omega (arith, h r, total_twice f g h rs)

pub total_map : (g : Row → ℕ) (f : Row → Row) (rs : List Row) → total g (map f rs) ≡ total (λ r. g (f r)) rs
unfolding total
total_map g f [] = refl
total_map g f (r ∷ rs) = ap (λ n. g (f r) + n) (total_map g f rs)

pub every_mapped : (P : Row → Type 0) (f : Row → Row) (rs : List Row) → Every (λ r. P (f r)) rs → Every P (map f rs)
every_mapped P f [] h = tt
every_mapped P f (r ∷ rs) h = (h.0, every_mapped P f rs h.1)

pub change_cores : (f : Row → Row) (i : ℕ) (rs : List Row) → core (f (row_at i rs)) ≡ core (row_at i rs) → cores (change_row f i rs) ≡ cores rs
unfolding change_row
change_cores f i [] h = refl
change_cores f zero (r ∷ rs) h = ap (λ c. c ∷ cores rs) h
change_cores f (suc i) (r ∷ rs) h = ap (λ c. core r ∷ c) (change_cores f i rs h)

pub map_cores : (f : Row → Row) → ((r : Row) → core (f r) ≡ core r) → (rs : List Row) → cores (map f rs) ≡ cores rs
map_cores f g [] = refl
map_cores f g (r ∷ rs) = cc (g r, map_cores f g rs)

pub change_at : (f g : Row → Row) (i : ℕ) (rs : List Row) → f (row_at i rs) ≡ g (row_at i rs) → change_row f i rs ≡ change_row g i rs
unfolding change_row
change_at f g i [] e = refl
change_at f g zero (r ∷ rs) e = ap (λ (x : Row). x ∷ rs) e
change_at f g (suc i) (r ∷ rs) e = ap (λ (xs : List Row). r ∷ xs) (change_at f g i rs e)

pub change_twice : (f g : Row → Row) (i : ℕ) (rs : List Row) → change_row g i (change_row f i rs) ≡ change_row (λ r. g (f r)) i rs
unfolding change_row
change_twice f g i [] = refl
change_twice f g zero (r ∷ rs) = refl
change_twice f g (suc i) (r ∷ rs) = ap (λ (xs : List Row). r ∷ xs) (change_twice f g i rs)

pub row_changed : (f : Row → Row) (i : ℕ) (rs : List Row) → i < length rs → row_at i (change_row f i rs) ≡ f (row_at i rs)
unfolding change_row
row_changed f i [] h = absurd (let z : ⊥ = omega arith in z)
row_changed f zero (r ∷ rs) h = refl
row_changed f (suc i) (r ∷ rs) h = row_changed f i rs (omega arith)

pub change_none : (f : Row → Row) (i : ℕ) (rs : List Row) → f (row_at i rs) ≡ row_at i rs → change_row f i rs ≡ rs
unfolding change_row
change_none f i [] e = refl
change_none f zero (r ∷ rs) e = ap (λ (x : Row). x ∷ rs) e
change_none f (suc i) (r ∷ rs) e = ap (λ (xs : List Row). r ∷ xs) (change_none f i rs e)

pub length_change : (f : Row → Row) (i : ℕ) (rs : List Row) → length (change_row f i rs) ≡ length rs
unfolding change_row
length_change f i [] = refl
length_change f zero (r ∷ rs) = refl
length_change f (suc i) (r ∷ rs) = ap suc (length_change f i rs)

-- ---- rows that leave

pub without_eq : (i : ℕ) (rs : List Row) → without_row i rs ≡ take i rs ++ drop (suc i) rs
unfolding without_row
without_eq zero [] = refl
without_eq (suc i) [] = refl
without_eq zero (r ∷ rs) = refl
without_eq (suc i) (r ∷ rs) = ap (λ (x : List Row). r ∷ x) (without_eq i rs)

pub length_without : (i : ℕ) (rs : List Row) → i < length rs → length (without_row i rs) ≡ length rs - 1
unfolding without_row
length_without i [] h = absurd (let z : ⊥ = omega arith in z)
length_without zero (r ∷ rs) h = omega arith
length_without (suc i) (r ∷ rs) h = omega (arith, length_without i rs (omega arith))

pub keep_append : (p : Row → Bool) (xs ys : List Row) → keep_rows p (xs ++ ys) ≡ keep_rows p xs ++ keep_rows p ys
unfolding keep_rows
keep_append p [] ys = refl
keep_append p (x ∷ xs) ys = by_cond (λ u. u ≡ cond (p x) (x ∷ keep_rows p xs) (keep_rows p xs) ++ keep_rows p ys) (p x) (λ e. rw (e, keep_append p xs ys)) (λ e. rw (e, keep_append p xs ys))

-- ---- keys in order

pub rising_unique : (xs : List Core) → Rising xs → Unique xs
rising_unique [] h = tt
rising_unique (x ∷ xs) h = (every_map (λ y a q. contradiction (subst (λ k. addr_before x.key k ≡ true) q a) (before_irrefl x.key)) xs h.0, rising_unique xs h.1)

pub rising_keep : (p : Row → Bool) (rs : List Row) → Rising (cores rs) → Rising (cores (keep_rows p rs))
unfolding keep_rows
rising_keep p [] h = tt
rising_keep p (r ∷ rs) h = by_cond (λ u. Rising (cores u)) (p r) (λ e. (to_cores (λ y. addr_before r.key y.key ≡ true) (keep_rows p rs) (every_keep (λ x. addr_before r.key x.key ≡ true) p rs (of_cores (λ y. addr_before r.key y.key ≡ true) rs h.0)), rising_keep p rs h.1)) (λ e. rising_keep p rs h.1)

pub rising_without : (i : ℕ) (rs : List Row) → Rising (cores rs) → Rising (cores (without_row i rs))
unfolding without_row
rising_without i [] h = tt
rising_without zero (r ∷ rs) h = h.1
rising_without (suc i) (r ∷ rs) h = (to_cores (λ y. addr_before r.key y.key ≡ true) (without_row i rs) (every_without (λ x. addr_before r.key x.key ≡ true) i rs (of_cores (λ y. addr_before r.key y.key ≡ true) rs h.0)), rising_without i rs h.1)

pub rising_change : (f : Row → Row) (i : ℕ) (rs : List Row) → ((r : Row) → (f r).key ≡ r.key) → Rising (cores rs) → Rising (cores (change_row f i rs))
unfolding change_row
rising_change f i [] g h = tt
rising_change f zero (r ∷ rs) g h = rw (g r) h
rising_change f (suc i) (r ∷ rs) g h = (to_cores (λ y. addr_before r.key y.key ≡ true) (change_row f i rs) (every_change (λ x. addr_before r.key x.key ≡ true) f i rs (λ a. rw (g (row_at i rs)) a) (of_cores (λ y. addr_before r.key y.key ≡ true) rs h.0)), rising_change f i rs g h.1)

pub rising_insert : (r : Row) (rs : List Row) → Every (λ y. y.key ≡ r.key → ⊥) (cores rs) → Rising (cores rs) → Rising (cores (insert_in_order r rs))
unfolding insert_in_order
rising_insert r [] n h = (tt, tt)
rising_insert r (x ∷ xs) n h = by_cond (λ u. Rising (cores u)) (addr_before r.key x.key)
    (λ e. ((e, every_map (λ y a. before_trans r.key x.key y.key e a) (cores xs) h.0), h))
    (λ e. (to_cores (λ y. addr_before x.key y.key ≡ true) (insert_in_order r xs) (every_insert (λ y. addr_before x.key y.key ≡ true) r xs (before_total r.key x.key e (λ q. n.0 (sym q))) (of_cores (λ y. addr_before x.key y.key ≡ true) xs h.0)), rising_insert r xs n.1 h.1))

-- ---- a key's row

pub look_key : (k : NodeAddr) (x : Core) (xs : List Core) → look k xs ≡ Some x → x.key ≡ k
unfolding look
look_key k x [] h = contradiction {b = true} refl (cc)
look_key k x (y ∷ ys) h = cond_some (same_addr k y.key) h (λ e p. cc (same_true k y.key e)) (λ e p. look_key k x ys p)

pub look_keep : (k : NodeAddr) (x : Core) (p : Row → Bool) (rs : List Row) → Every (λ r. core r ≡ x → p r ≡ true) rs → look k (cores rs) ≡ Some x → look k (cores (keep_rows p rs)) ≡ Some x
unfolding look keep_rows
look_keep k x p [] f h = h
look_keep k x p (r ∷ rs) f h = cond_some (same_addr k r.key) h
    (λ e q. by_cond (λ u. look k (cores u) ≡ Some x) (p r) (λ t. rw e (ap Some q)) (λ t. contradiction (f.0 q) t))
    (λ e q. by_cond (λ u. look k (cores u) ≡ Some x) (p r) (λ t. rw e (look_keep k x p rs f.1 q)) (λ t. look_keep k x p rs f.1 q))

pub look_change : (j : NodeAddr) (f : Row → Row) (i : ℕ) (rs : List Row) → (j ≡ (row_at i rs).key → ⊥) → (f (row_at i rs)).key ≡ (row_at i rs).key → look j (cores (change_row f i rs)) ≡ look j (cores rs)
unfolding look change_row
look_change j f i [] n g = refl
look_change j f zero (r ∷ rs) n g = rw (g, same_ne j r.key n)
look_change j f (suc i) (r ∷ rs) n g = ap (λ o. cond (same_addr j r.key) (Some (core r)) o) (look_change j f i rs n g)

pub look_without : (j : NodeAddr) (i : ℕ) (rs : List Row) → (j ≡ (row_at i rs).key → ⊥) → look j (cores (without_row i rs)) ≡ look j (cores rs)
unfolding look without_row
look_without j i [] n = refl
look_without j zero (r ∷ rs) n = rw (same_ne j r.key n)
look_without j (suc i) (r ∷ rs) n = ap (λ o. cond (same_addr j r.key) (Some (core r)) o) (look_without j i rs n)

pub look_insert : (j : NodeAddr) (r : Row) → (j ≡ r.key → ⊥) → (rs : List Row) → look j (cores (insert_in_order r rs)) ≡ look j (cores rs)
unfolding look insert_in_order
look_insert j r n [] = let d = same_ne j r.key n in simp d
look_insert j r n (x ∷ xs) = by_cond (λ u. look j (cores u) ≡ look j (core x ∷ cores xs)) (addr_before r.key x.key)
    (λ e. let d = same_ne j r.key n in simp d)
    (λ e. ap (λ o. cond (same_addr j x.key) (Some (core x)) o) (look_insert j r n xs))

pub look_entered : (r : Row) (rs : List Row) → Every (λ y. y.key ≡ r.key → ⊥) (cores rs) → look r.key (cores (insert_in_order r rs)) ≡ Some (core r)
unfolding look insert_in_order
look_entered r [] h = simp (same_eq r.key r.key refl)
look_entered r (x ∷ xs) h = by_cond (λ u. look r.key (cores u) ≡ Some (core r)) (addr_before r.key x.key)
    (λ e. simp (same_eq r.key r.key refl))
    (λ e. let d : same_addr r.key x.key ≡ false = same_ne r.key x.key (λ q. h.0 (sym q)) in simp d (look_entered r xs h.1))

pub without_gone : (i : ℕ) (rs : List Row) → i < length rs → Unique (cores rs) → Every (λ y. y.key ≡ (row_at i rs).key → ⊥) (cores (without_row i rs))
unfolding without_row
without_gone i [] l u = tt
without_gone zero (r ∷ rs) l u = u.0
without_gone (suc i) (r ∷ rs) l u = (λ q. every_at (λ x. x.key ≡ r.key → ⊥) i rs (omega arith) (of_cores (λ y. y.key ≡ r.key → ⊥) rs u.0) (sym q), without_gone i rs (omega arith) u.1)

pub look_at : (i : ℕ) (rs : List Row) → i < length rs → Unique (cores rs) → look (row_at i rs).key (cores rs) ≡ Some (core (row_at i rs))
unfolding look
look_at i [] l u = absurd (let z : ⊥ = omega arith in z)
look_at zero (r ∷ rs) l u = rw (same_eq r.key r.key refl)
look_at (suc i) (r ∷ rs) l u = rw (same_ne (row_at i rs).key r.key (every_at (λ x. x.key ≡ r.key → ⊥) i rs (omega arith) (of_cores (λ y. y.key ≡ r.key → ⊥) rs u.0))) (look_at i rs (omega arith) u.1)

pub unique_look : (xs : List Core) → Unique xs → Every (λ y. look y.key xs ≡ Some y) xs
unfolding look
unique_look [] u = tt
unique_look (x ∷ xs) u = (rw (same_eq x.key x.key refl), every_both (λ (y : Core) (f : y.key ≡ x.key → ⊥) (g : look y.key xs ≡ Some y). rw (same_ne y.key x.key f) g) xs u.0 (unique_look xs u.1))

-- the row that is found
pub record Found (k : NodeAddr) (rs : List Row) (i : ℕ) : Type 0 where
  pub inside : i < length rs
  pub key : (row_at i rs).key ≡ k
  pub looked : look k (cores rs) ≡ Some (core (row_at i rs))

pub find_at : (k : NodeAddr) (rs : List Row) (i : ℕ) → find k rs ≡ Some i → Found k rs i
unfolding find look
find_at k [] i h = contradiction {b = true} refl (cc)
find_at k (r ∷ rs) i h = cond_some (same_addr k r.key) h
    (λ e q. subst (Found k (r ∷ rs)) q (record { inside = omega arith; key = sym (same_true k r.key e); looked = rw e }))
    (λ e q. next_some (find k rs) q (λ j f z. let g = find_at k rs j f in subst (Found k (r ∷ rs)) z (record { inside = omega (arith, g.inside); key = g.key; looked = rw e g.looked })))

pub find_none : (k : NodeAddr) (rs : List Row) → find k rs ≡ None → Every (λ y. y.key ≡ k → ⊥) (cores rs)
unfolding find
find_none k [] h = tt
find_none k (x ∷ xs) h = go (same_addr k x.key) refl (find_none k xs)
  where
    go : (b : Bool) → same_addr k x.key ≡ b → (find k xs ≡ None → Every (λ y. y.key ≡ k → ⊥) (cores xs)) → Every (λ y. y.key ≡ k → ⊥) (cores (x ∷ xs))
    go true e ih = contradiction {b = true} refl (let h2 : Some 0 ≡ None = simp e at h in cc)
    go false e ih = (λ q. same_false k x.key e (sym q), ih (next_none (find k xs) (simp e at h)))

pub record Looked (k : NodeAddr) (x : Core) (rs : List Row) : Type 0 where
  pub at : ℕ
  pub there : find k rs ≡ Some at
  pub inside : at < length rs
  pub same : core (row_at at rs) ≡ x

pub look_find : (k : NodeAddr) (x : Core) (rs : List Row) → look k (cores rs) ≡ Some x → Looked k x rs
unfolding look find next_index
look_find k x [] h = contradiction {b = true} refl (cc)
look_find k x (r ∷ rs) h = cond_some (same_addr k r.key) h
    (λ e p. record { at = 0; there = simp e; inside = omega arith; same = p })
    (λ e p. let i = look_find k x rs p in record { at = suc i.at; there = simp (e, i.there); inside = omega (arith, i.inside); same = i.same })

-- the lowest stamp of a place
pub record Lowest (p : ℕ) (rs : List Row) (i : ℕ) : Type 0 where
  pub inside : i < length rs
  pub there : at_place p (row_at i rs) ≡ true
  pub least : Every (λ r. at_place p r ≡ true → (row_at i rs).stamp_first ≤ r.stamp_first) rs

before_le : (a b : Row) → stamp_before a b ≡ true → a.stamp_first ≤ b.stamp_first
unfolding stamp_before
before_le a b h = go (ltb a.stamp_first b.stamp_first) refl (eqb a.stamp_first b.stamp_first) refl h
  where
    go : (x : Bool) → ltb a.stamp_first b.stamp_first ≡ x → (y : Bool) → eqb a.stamp_first b.stamp_first ≡ y → x || (y && ltb a.stamp_seq b.stamp_seq) ≡ true → a.stamp_first ≤ b.stamp_first
    go true e y f t = omega (arith, ltb-true a.stamp_first b.stamp_first e)
    go false e true f t = omega (arith, eqb-true a.stamp_first b.stamp_first f)
    go false e false f t = contradiction {b = false} t refl

after_le : (a b : Row) → stamp_before a b ≡ false → b.stamp_first ≤ a.stamp_first
unfolding stamp_before
after_le a b h = go (ltb a.stamp_first b.stamp_first) refl h
  where
    go : (x : Bool) → ltb a.stamp_first b.stamp_first ≡ x → x || (eqb a.stamp_first b.stamp_first && ltb a.stamp_seq b.stamp_seq) ≡ false → b.stamp_first ≤ a.stamp_first
    go true e t = contradiction {b = true} refl t
    go false e t = omega (arith, ltb-false a.stamp_first b.stamp_first e)

pub lowest_none : (p : ℕ) (rs : List Row) → lowest_stamp p rs ≡ None → Every (λ r. at_place p r ≡ false) rs
unfolding lowest_stamp
lowest_none p [] h = tt
lowest_none p (r ∷ rs) h = go (at_place p r) refl (lowest_none p rs) h
  where
    go : (b : Bool) → at_place p r ≡ b → (lowest_stamp p rs ≡ None → Every (λ x. at_place p x ≡ false) rs) → cond b (Some (lower_of r rs (lowest_stamp p rs))) (next_index (lowest_stamp p rs)) ≡ None → Every (λ x. at_place p x ≡ false) (r ∷ rs)
    go true e ih q = contradiction {b = true} refl (cc)
    go false e ih q = (e, ih (next_none (lowest_stamp p rs) q))

pub lowest_at : (p : ℕ) (rs : List Row) (i : ℕ) → lowest_stamp p rs ≡ Some i → Lowest p rs i
unfolding lowest_stamp lower_of
lowest_at p [] i h = contradiction {b = true} refl (cc)
lowest_at p (r ∷ rs) i h = go (at_place p r) refl (lowest_stamp p rs) refl (λ j. lowest_at p rs j) h
  where
    later : (j : ℕ) → Lowest p rs j → (at_place p r ≡ true → (row_at j rs).stamp_first ≤ r.stamp_first) → Lowest p (r ∷ rs) (suc j)
    later j g l = record { inside = omega (arith, g.inside); there = g.there; least = (l, g.least) }

    pick : (j : ℕ) → at_place p r ≡ true → Lowest p rs j → (b : Bool) → stamp_before (row_at j rs) r ≡ b → Lowest p (r ∷ rs) (cond b (suc j) 0)
    pick j e g true q = later j g (λ z. before_le (row_at j rs) r q)
    pick j e g false q = record { inside = omega arith; there = e; least = (λ z. omega arith, every_map (λ x l z. omega (arith, l z, after_le (row_at j rs) r q)) rs g.least) }

    go : (b : Bool) → at_place p r ≡ b → (o : Option ℕ) → lowest_stamp p rs ≡ o → ((j : ℕ) → lowest_stamp p rs ≡ Some j → Lowest p rs j) → cond b (Some (lower_of r rs o)) (next_index o) ≡ Some i → Lowest p (r ∷ rs) i
    go true e None q ih t = let z : 0 ≡ i = cc in subst (Lowest p (r ∷ rs)) z (record { inside = omega arith; there = e; least = (λ z. omega arith, every_map (λ x a c. contradiction c a) rs (lowest_none p rs q)) })
    go true e (Some j) q ih t = let z : cond (stamp_before (row_at j rs) r) (suc j) 0 ≡ i = cc in subst (Lowest p (r ∷ rs)) z (pick j e (ih j q) (stamp_before (row_at j rs) r) refl)
    go false e o q ih t = next_some o t (λ j f z. subst (Lowest p (r ∷ rs)) z (later j (ih j (q ∙ f)) (λ c. contradiction c e)))
