-- The two numbers of an address decide its order.
use mathlib.Core.Path.{◌≡◌, sym, ap}
use mathlib.Core.List.{List}
use Prim.Native.Nat.{ℕ, ◌≤◌, ◌<◌}
use native.Mathlib.Omega.{arith}
use lib.ListN.{length}
use Rattle.types.specs.declared.node_addr.NodeAddr.{NodeAddr}
use Rattle.types.specs.Addresses.{addr_before}
use Rattle.rules.specs.Records.{Row}
use Rattle.rules.specs.Memory.{cut, row_of}
use Rattle.rules.proofs.Addresses.{same_eq}
use Rattle.rules.specs.Layout.{address_size}
use Rattle.std.specs.declared.cmp.Ordering.TheVariants.{Less, Equal, Greater}
use Rattle.search.specs.BigEndian.{NumberOf}
use Rattle.search.specs.ByKey.{order_of}
use Rattle.search.proofs.OrderLaws.{before_less, same_equal, behind_greater}
use Rattle.search.proofs.BigEndianLaws.{TwiceEight, held_halves, given_halves, first_less, second_less, both_same}

-- c are a row's bytes; a and b are the numbers of the first eight bytes of its key and of an address
module _ (c : List ℕ) {r : Row} (e : row_of c ≡ r) (k : NodeAddr) (fits : address_size ≤ length c) (size : address_size ≡ length k.0) {a b : ℕ} (u : NumberOf (cut 0 8 c) a) (v : NumberOf (cut 0 8 k.0) b) where
  key_halves : TwiceEight r.key.0 (cut 0 8 c) (cut 8 8 c)
  unfolding row_of
  key_halves = rw (← e) (held_halves 0 c fits)

  pub high_less : a < b → Less ≡ order_of r.key k
  unfolding addr_before
  high_less h = sym (before_less _ _ (first_less key_halves (given_halves k.0 (sym size)) u v h))

  pub high_greater : b < a → Greater ≡ order_of r.key k
  unfolding addr_before
  high_greater h = sym (behind_greater _ _ (first_less (given_halves k.0 (sym size)) key_halves v u h))

  -- these are equal, and x and y are the numbers of the last eight
  module _ (p : b ≤ a) (q : a ≤ b) {x y : ℕ} (s : NumberOf (cut 8 8 c) x) (t : NumberOf (cut 8 8 k.0) y) where
    pub low_less : x < y → Less ≡ order_of r.key k
    unfolding addr_before
    low_less h = sym (before_less _ _ (second_less key_halves (given_halves k.0 (sym size)) u v (omega arith) s t h))

    pub low_greater : y < x → Greater ≡ order_of r.key k
    unfolding addr_before
    low_greater h = sym (behind_greater _ _ (second_less (given_halves k.0 (sym size)) key_halves v u (omega arith) t s h))

    pub low_equal : y ≤ x → x ≤ y → Equal ≡ order_of r.key k
    low_equal g h =
        let z = both_same key_halves (given_halves k.0 (sym size)) u v (omega arith) s t (omega arith) in
        sym (same_equal _ _ (same_eq _ _ (ap (λ (l : List ℕ). record { 0 = l }) z)))
