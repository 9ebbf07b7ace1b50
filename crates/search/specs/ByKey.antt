-- Rows by key: how two keys stand, and where a key is among rows.
use Rattle.std.specs.Prelude.{ℕ, List, cond, Result, Ok, Err}
use Rattle.types.specs.declared.node_addr.NodeAddr.{NodeAddr}
use Rattle.types.specs.Addresses.{same_addr, addr_before}
use Rattle.rules.specs.Cases.{maybe}
use Rattle.rules.specs.Records.{Row}
use Rattle.rules.specs.Rows.{find, count_rows}
use Rattle.std.specs.declared.cmp.Ordering.{Ordering}
use Rattle.std.specs.declared.cmp.Ordering.TheVariants.{Less, Equal, Greater}

-- how a stands to b
unfoldable pub order_of : NodeAddr → NodeAddr → Ordering
order_of a b = cond (addr_before a b) Less (cond (same_addr a b) Equal Greater)

-- how many rows have a key before k
abbrev pub rows_before : NodeAddr → List Row → ℕ
rows_before k rs = count_rows (λ r. addr_before r.key k) rs

-- the first row of key k; where there is none, the number of rows before it
unfoldable pub searched : NodeAddr → List Row → Result ℕ ℕ
searched k rs = maybe (find k rs) (Err (rows_before k rs)) Ok
