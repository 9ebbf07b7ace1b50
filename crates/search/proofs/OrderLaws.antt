-- What each answer of `order_of` says of the two addresses, and when it is given.
use mathlib.Core.Path.{◌≡◌, refl, sym}
use mathlib.Core.Bool.{Bool, true, false}
use Rattle.types.specs.declared.node_addr.NodeAddr.{NodeAddr}
use Rattle.types.specs.Addresses.{same_addr, addr_before}
use Rattle.rules.proofs.Addresses.{before_irrefl, before_total, contradiction, same_false, same_ne, same_true, before_not_behind}
use Rattle.search.specs.ByKey.{order_of}
use Rattle.std.specs.declared.cmp.Ordering.TheVariants.{Less, Equal, Greater}

pub before_differs : (a b : NodeAddr) → addr_before a b ≡ true → a ≡ b → ⊥
before_differs a b h e = contradiction h (rw e (before_irrefl b))

-- one of three
by_order : {C : Type 0} (a b : NodeAddr) → (addr_before a b ≡ true → order_of a b ≡ Less → C) → (same_addr a b ≡ true → order_of a b ≡ Equal → C) → (addr_before b a ≡ true → order_of a b ≡ Greater → C) → C
unfolding order_of
by_order {C} a b f g h = go (addr_before a b) refl (same_addr a b) refl
  where
    go : (s : Bool) → addr_before a b ≡ s → (t : Bool) → same_addr a b ≡ t → C
    go true p t q = f p (rw p)
    go false p true q = g q (rw (p, q))
    go false p false q = h (before_total a b p (same_false a b q)) (rw (p, q))

pub less_before : (a b : NodeAddr) → order_of a b ≡ Less → addr_before a b ≡ true
less_before a b e = by_order a b (λ p o. p) (λ p o. contradiction {b = true} refl (cc)) (λ p o. contradiction {b = true} refl (cc))

pub equal_same : (a b : NodeAddr) → order_of a b ≡ Equal → same_addr a b ≡ true
equal_same a b e = by_order a b (λ p o. contradiction {b = true} refl (cc)) (λ p o. p) (λ p o. contradiction {b = true} refl (cc))

pub greater_behind : (a b : NodeAddr) → order_of a b ≡ Greater → addr_before b a ≡ true
greater_behind a b e = by_order a b (λ p o. contradiction {b = true} refl (cc)) (λ p o. contradiction {b = true} refl (cc)) (λ p o. p)

pub before_less : (a b : NodeAddr) → addr_before a b ≡ true → order_of a b ≡ Less
unfolding order_of
before_less a b h = rw h

pub same_equal : (a b : NodeAddr) → same_addr a b ≡ true → order_of a b ≡ Equal
unfolding order_of
same_equal a b h =
    let f : addr_before a b ≡ false = rw (same_true a b h) (before_irrefl b) in
    rw (f, h)

pub behind_greater : (a b : NodeAddr) → addr_before b a ≡ true → order_of a b ≡ Greater
unfolding order_of
behind_greater a b h = rw (before_not_behind b a h, same_ne a b (λ e. before_differs b a h (sym e)))
