-- What an exported lookup leaves in `at`.
use Rattle.std.specs.Prelude.{ℕ, List, cond, eqb}
use Rattle.types.specs.declared.node_addr.NodeAddr.{NodeAddr}
use Rattle.lookups.specs.Steps.{place_found}

-- done: the first byte of the key's path in the memory after the call, 0 where nothing is found; refused: what stood there
unfoldable pub place_told : ℕ → ℕ → NodeAddr → ℕ → List ℕ → ℕ
place_told number before k now m = cond (eqb number 0) (place_found k now m) before
