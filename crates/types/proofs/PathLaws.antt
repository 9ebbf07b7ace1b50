-- What the loops over addresses and paths rest on.
use mathlib.Core.Path.{◌≡◌, refl, ap}
use mathlib.Core.Bool.{true, false, ◌&&◌, ◌||◌, and-false, or-false}
use mathlib.Core.List.{List, [], ◌∷◌}
use Prim.Native.Nat.{ℕ, suc, ◌+◌, ◌-◌, ◌≤◌, ◌<◌}
use native.Mathlib.Numerals.{add-one}
use native.Mathlib.Omega.{arith}
use lib.Dec.{ltb}
use lib.ListN.{length, drop, get_or, drop_of_length-le, length-take}
use lib.Seq.{drop-cons, get_or-take}
use borrow.Author.Tests.{eq-eqb, ne_eqb, le-ltb}
use lib.Pointwise.{pointwise}
use Rattle.std.specs.Prelude.{nat_eq}
use Rattle.types.specs.declared.node_addr.NodeAddr.{NodeAddr}
use Rattle.types.specs.declared.coord.CoordEntry.{CoordEntry}
use Rattle.types.specs.declared.coord.Path.{Path}
use Rattle.types.specs.Addresses.{same_addr, same_bytes, bytes_before}
use Rattle.types.specs.Paths.{elements, same_entry, same_entries, among, last_addr, first_is}

-- ---- any list

pub uncons : {A : Type 0} (x : List A) (i : ℕ) (d : A) → i < length x → drop i x ≡ get_or x i d ∷ drop (i + 1) x
uncons x i d h = rw (add-one, drop-cons x i d h)

-- ---- the bytes of two addresses: a turn of a loop, and its end

module _ (x y : List ℕ) (i : ℕ) (hx : i < length x) (hy : i < length y) where
  pub same_stop : (get_or x i 0 ≡ get_or y i 0 → ⊥) → same_bytes (drop i x) (drop i y) ≡ false
  unfolding same_bytes
  same_stop n = rw (uncons x i 0 hx, uncons y i 0 hy, ne_eqb _ _ n)

  pub same_go : get_or x i 0 ≡ get_or y i 0 → same_bytes (drop i x) (drop i y) ≡ same_bytes (drop (i + 1) x) (drop (i + 1) y)
  unfolding same_bytes
  same_go e = rw (uncons x i 0 hx, uncons y i 0 hy, eq-eqb _ _ e)

  pub before_stop : (get_or x i 0 ≡ get_or y i 0 → ⊥) → bytes_before (drop i x) (drop i y) ≡ ltb (get_or x i 0) (get_or y i 0)
  unfolding bytes_before
  before_stop n = rw (uncons x i 0 hx, uncons y i 0 hy, ne_eqb _ _ n, or-false)

  pub before_go : get_or x i 0 ≡ get_or y i 0 → bytes_before (drop i x) (drop i y) ≡ bytes_before (drop (i + 1) x) (drop (i + 1) y)
  unfolding bytes_before
  before_go e =
      let l : get_or y i 0 ≤ get_or x i 0 = omega arith in
      rw (uncons x i 0 hx, uncons y i 0 hy, le-ltb _ _ l, eq-eqb _ _ e)

module _ (x y : List ℕ) (i : ℕ) (hx : length x ≤ i) (hy : length y ≤ i) where
  pub same_end : same_bytes (drop i x) (drop i y) ≡ true
  unfolding same_bytes
  same_end = rw (drop_of_length-le x hx, drop_of_length-le y hy)

  pub before_end : bytes_before (drop i x) (drop i y) ≡ false
  unfolding bytes_before
  before_end = rw (drop_of_length-le x hx, drop_of_length-le y hy)

-- the library's comparison, as `==` of two addresses makes it, is that of the definition
pub equal_bytes : (xs ys : List ℕ) → pointwise nat_eq xs ys ≡ same_bytes xs ys
unfolding same_bytes
equal_bytes [] [] = refl
equal_bytes [] (y ∷ ys) = refl
equal_bytes (x ∷ xs) [] = refl
equal_bytes (x ∷ xs) (y ∷ ys) = rw (equal_bytes xs ys)

-- ---- the elements of a path

-- what the logic has a read past the end give
abbrev pub no_entry : CoordEntry
no_entry = record { node_addr = record { 0 = [] }; sequence = 0; timestamp = 0 }

abbrev pub entry_at : Path → ℕ → CoordEntry
entry_at p i = get_or p.entries i no_entry

pub element_at : (p : Path) (i : ℕ) → i < length (elements p) → get_or (elements p) i no_entry ≡ entry_at p i
unfolding elements
element_at p i h = get_or-take p.len p.entries i no_entry (omega (arith, length-take p.len p.entries))

pub element : (p : Path) (i : ℕ) → i < length (elements p) → drop i (elements p) ≡ entry_at p i ∷ drop (i + 1) (elements p)
element p i h = rw (uncons (elements p) i no_entry h, element_at p i h)

pub among_turn :
    (a : NodeAddr) (p : Path) (i : ℕ) → i < length (elements p)
    → among a (drop i (elements p)) ≡ (same_addr a (entry_at p i).node_addr || among a (drop (i + 1) (elements p)))
unfolding among
among_turn a p i h = rw (element p i h)

pub among_end : (a : NodeAddr) (xs : List CoordEntry) (i : ℕ) → length xs ≤ i → among a (drop i xs) ≡ false
unfolding among
among_end a xs i h = rw (drop_of_length-le xs h)

pub entries_turn :
    (p q : Path) (i : ℕ) → i < length (elements p) → i < length (elements q)
    → same_entries (drop i (elements p)) (drop i (elements q)) ≡ (same_entry (entry_at p i) (entry_at q i) && same_entries (drop (i + 1) (elements p)) (drop (i + 1) (elements q)))
unfolding same_entries
entries_turn p q i hp hq = rw (element p i hp, element q i hq)

pub entries_end : (xs ys : List CoordEntry) (i : ℕ) → length xs ≤ i → length ys ≤ i → same_entries (drop i xs) (drop i ys) ≡ true
unfolding same_entries
entries_end xs ys i hx hy = rw (drop_of_length-le xs hx, drop_of_length-le ys hy)

pub lengths_differ : (xs ys : List CoordEntry) → (length xs ≡ length ys → ⊥) → same_entries xs ys ≡ false
unfolding same_entries
lengths_differ [] [] n = absurd (n refl)
lengths_differ [] (y ∷ ys) n = refl
lengths_differ (x ∷ xs) [] n = refl
lengths_differ (x ∷ xs) (y ∷ ys) n = rw (lengths_differ xs ys (λ e. n (ap suc e)), and-false)

last_is : (d : NodeAddr) (x : CoordEntry) (xs : List CoordEntry) → last_addr d (x ∷ xs) ≡ (get_or (x ∷ xs) (length xs) no_entry).node_addr
unfolding last_addr
last_is d x [] = refl
last_is d x (y ∷ ys) = last_is x.node_addr y ys

last_of : (d : NodeAddr) (xs : List CoordEntry) → (length xs ≡ 0 → ⊥) → last_addr d xs ≡ (get_or xs (length xs - 1) no_entry).node_addr
last_of d [] n = absurd (n refl)
last_of d (x ∷ xs) n = let e : length (x ∷ xs) - 1 ≡ length xs = omega arith in rw (e, last_is d x xs)

pub last_element : (d : NodeAddr) (p : Path) → (length (elements p) ≡ 0 → ⊥) → last_addr d (elements p) ≡ (entry_at p (length (elements p) - 1)).node_addr
last_element d p n =
    let h : length (elements p) - 1 < length (elements p) = omega arith in
    rw (last_of d (elements p) n, element_at p _ h)

pub no_last : (d : NodeAddr) (xs : List CoordEntry) → length xs ≡ 0 → last_addr d xs ≡ d
unfolding last_addr
no_last d [] e = refl
no_last d (x ∷ xs) e = absurd (omega arith)

pub first_element : (k : NodeAddr) (p : Path) → (length (elements p) ≡ 0 → ⊥) → first_is k (elements p) ≡ same_addr (entry_at p 0).node_addr k
unfolding first_is
first_element k p n = let h : 0 < length (elements p) = omega arith in rw (element p 0 h)

pub no_first : (k : NodeAddr) (xs : List CoordEntry) → length xs ≡ 0 → first_is k xs ≡ false
unfolding first_is
no_first k [] e = refl
no_first k (x ∷ xs) e = absurd (omega arith)
