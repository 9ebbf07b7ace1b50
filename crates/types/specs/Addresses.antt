-- Addresses of document 01: sixteen bytes, compared byte by byte, in bytewise order.
use Rattle.std.specs.Prelude.{ℕ, List, [], ◌∷◌, Bool, true, false, ◌&&◌, ◌||◌, ltb, eqb}
use Rattle.types.specs.declared.node_addr.NodeAddr.{NodeAddr}

abbrev pub address_bytes : ℕ
address_bytes = 16

unfoldable pub same_bytes : List ℕ → List ℕ → Bool
same_bytes [] [] = true
same_bytes [] (b ∷ bs) = false
same_bytes (a ∷ as') [] = false
same_bytes (a ∷ as') (b ∷ bs) = eqb a b && same_bytes as' bs

-- the first byte that differs decides
unfoldable pub bytes_before : List ℕ → List ℕ → Bool
bytes_before [] [] = false
bytes_before [] (b ∷ bs) = true
bytes_before (a ∷ as') [] = false
bytes_before (a ∷ as') (b ∷ bs) = ltb a b || (eqb a b && bytes_before as' bs)

unfoldable pub same_addr : NodeAddr → NodeAddr → Bool
same_addr a b = same_bytes a.0 b.0

-- a stands before b in the order of addresses
unfoldable pub addr_before : NodeAddr → NodeAddr → Bool
addr_before a b = bytes_before a.0 b.0
