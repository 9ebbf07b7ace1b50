-- Laws of addresses: equality and order, byte by byte.
use Prim.Native.Nat.{ℕ}
use mathlib.Core.Path.{◌≡◌, refl, sym, ◌∙◌, ap}
use mathlib.Core.List.{List, [], ◌∷◌}
use mathlib.Core.Bool.{Bool, true, false, ◌&&◌, ◌||◌, or-true}
use lib.Dec.{ltb, eqb}
use borrow.Author.Tests.{eq-eqb, eqb-true, eqb-false, ltb-true, ltb-false, lt-ltb}
use native.Mathlib.Omega.{arith}
use Rattle.types.specs.declared.node_addr.NodeAddr.{NodeAddr}
use Rattle.types.specs.Addresses.{addr_before, bytes_before, same_addr, same_bytes}

pub contradiction : {C : Type 0} {b : Bool} → b ≡ true → b ≡ false → C
contradiction {C} {b} p q = absurd (let z : ◌≡◌ {A = ℕ} 0 1 = cc in let n : ⊥ = omega arith in n)

pub bytes_same_refl : (a : List ℕ) → same_bytes a a ≡ true
unfolding same_bytes
bytes_same_refl [] = refl
bytes_same_refl (a ∷ as') = rw (eq-eqb a a refl) (bytes_same_refl as')

pub bytes_same_true : (a b : List ℕ) → same_bytes a b ≡ true → a ≡ b
unfolding same_bytes
bytes_same_true [] [] h = refl
bytes_same_true [] (b ∷ bs) h = contradiction {b = false} h refl
bytes_same_true (a ∷ as') [] h = contradiction {b = false} h refl
bytes_same_true (a ∷ as') (b ∷ bs) h = go (eqb a b) refl h (bytes_same_true as' bs)
  where
    go : (t : Bool) → eqb a b ≡ t → t && same_bytes as' bs ≡ true → (same_bytes as' bs ≡ true → as' ≡ bs) → a ∷ as' ≡ b ∷ bs
    go true e g ih = cc (eqb-true a b e, ih g)
    go false e g ih = contradiction {b = false} g refl

pub bytes_before_irrefl : (a : List ℕ) → bytes_before a a ≡ false
unfolding bytes_before
bytes_before_irrefl [] = refl
bytes_before_irrefl (a ∷ as') = go (ltb a a) refl (bytes_before_irrefl as')
  where
    go : (t : Bool) → ltb a a ≡ t → bytes_before as' as' ≡ false → t || (eqb a a && bytes_before as' as') ≡ false
    go true e ih = absurd (let z : ⊥ = omega (arith, ltb-true a a e) in z)
    go false e ih = rw (ih, eq-eqb a a refl)

pub bytes_before_total : (a b : List ℕ) → bytes_before a b ≡ false → (a ≡ b → ⊥) → bytes_before b a ≡ true
unfolding bytes_before
bytes_before_total [] [] h n = absurd (n refl)
bytes_before_total [] (b ∷ bs) h n = sym h
bytes_before_total (a ∷ as') [] h n = refl
bytes_before_total (a ∷ as') (b ∷ bs) h n = go (ltb a b) refl (eqb a b) refl h (bytes_before_total as' bs)
  where
    go : (s : Bool) → ltb a b ≡ s → (t : Bool) → eqb a b ≡ t → s || (t && bytes_before as' bs) ≡ false → (bytes_before as' bs ≡ false → (as' ≡ bs → ⊥) → bytes_before bs as' ≡ true) → ltb b a || (eqb b a && bytes_before bs as') ≡ true
    go true p t q g ih = contradiction {b = true} refl g
    go false p true q g ih = let z = eqb-true a b q in rw (eq-eqb b a (sym z), ih g (λ w. n (cc))) (or-true (ltb b a))
    go false p false q g ih = rw (lt-ltb b a (omega (arith, ltb-false a b p, eqb-false a b q)))

pub bytes_before_trans : (a b c : List ℕ) → bytes_before a b ≡ true → bytes_before b c ≡ true → bytes_before a c ≡ true
unfolding bytes_before
bytes_before_trans [] [] c h g = contradiction {b = false} h refl
bytes_before_trans [] (b ∷ bs) [] h g = g
bytes_before_trans [] (b ∷ bs) (c ∷ cs) h g = refl
bytes_before_trans (a ∷ as') [] c h g = contradiction {b = false} h refl
bytes_before_trans (a ∷ as') (b ∷ bs) [] h g = g
bytes_before_trans (a ∷ as') (b ∷ bs) (c ∷ cs) h g = go (ltb a b) refl (eqb a b) refl (ltb b c) refl (eqb b c) refl h g (bytes_before_trans as' bs cs)
  where
    go : (s : Bool) → ltb a b ≡ s → (t : Bool) → eqb a b ≡ t → (u : Bool) → ltb b c ≡ u → (w : Bool) → eqb b c ≡ w → s || (t && bytes_before as' bs) ≡ true → u || (w && bytes_before bs cs) ≡ true
        → (bytes_before as' bs ≡ true → bytes_before bs cs ≡ true → bytes_before as' cs ≡ true) → ltb a c || (eqb a c && bytes_before as' cs) ≡ true
    go true p t q true r w z x y ih = rw (lt-ltb a c (omega (arith, ltb-true a b p, ltb-true b c r)))
    go true p t q false r true z x y ih = rw (lt-ltb a c (omega (arith, ltb-true a b p, eqb-true b c z)))
    go true p t q false r false z x y ih = contradiction {b = false} y refl
    go false p true q true r w z x y ih = rw (lt-ltb a c (omega (arith, eqb-true a b q, ltb-true b c r)))
    go false p true q false r true z x y ih = rw (eq-eqb a c (eqb-true a b q ∙ eqb-true b c z), ih x y) (or-true (ltb a c))
    go false p true q false r false z x y ih = contradiction {b = false} y refl
    go false p false q u r w z x y ih = contradiction {b = false} x refl

-- ---- addresses

pub same_refl : (a : NodeAddr) → same_addr a a ≡ true
unfolding same_addr
same_refl a = bytes_same_refl a.0

pub same_eq : (a b : NodeAddr) → a ≡ b → same_addr a b ≡ true
same_eq a b p = rw p (same_refl b)

pub same_true : (a b : NodeAddr) → same_addr a b ≡ true → a ≡ b
unfolding same_addr
same_true a b h = ap (λ (x : List ℕ). record { 0 = x }) (bytes_same_true a.0 b.0 h)

pub same_false : (a b : NodeAddr) → same_addr a b ≡ false → a ≡ b → ⊥
same_false a b h p = contradiction (same_eq a b p) h

pub same_ne : (a b : NodeAddr) → (a ≡ b → ⊥) → same_addr a b ≡ false
same_ne a b n = go (same_addr a b) refl
  where
    go : (t : Bool) → same_addr a b ≡ t → t ≡ false
    go true e = absurd (n (same_true a b e))
    go false e = refl

pub before_irrefl : (a : NodeAddr) → addr_before a a ≡ false
unfolding addr_before
before_irrefl a = bytes_before_irrefl a.0

pub before_total : (a b : NodeAddr) → addr_before a b ≡ false → (a ≡ b → ⊥) → addr_before b a ≡ true
unfolding addr_before
before_total a b h n = bytes_before_total a.0 b.0 h (λ e. n (ap (λ (x : List ℕ). record { 0 = x }) e))

pub before_trans : (a b c : NodeAddr) → addr_before a b ≡ true → addr_before b c ≡ true → addr_before a c ≡ true
unfolding addr_before
before_trans a b c = bytes_before_trans a.0 b.0 c.0

pub before_not_behind : (a b : NodeAddr) → addr_before a b ≡ true → addr_before b a ≡ false
before_not_behind a b h = go (addr_before b a) refl
  where
    go : (t : Bool) → addr_before b a ≡ t → t ≡ false
    go true e = contradiction (before_trans a b a h e) (before_irrefl a)
    go false e = refl
