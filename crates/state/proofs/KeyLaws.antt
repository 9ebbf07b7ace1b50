-- The bytes of a row's key, and a row's key before those behind it.
use mathlib.Core.Path.{◌≡◌, sym}
use Prim.Native.Nat.{ℕ, ◌+◌, ◌≤◌, ◌<◌}
use mathlib.Core.Bool.{true}
use mathlib.Core.List.{List}
use native.Mathlib.Omega.{arith}
use lib.ListN.{length, drop, get_or, drop_of_length-le}
use Rattle.types.specs.Addresses.{addr_before}
use Rattle.types.proofs.PathLaws.{uncons}
use Rattle.rules.specs.Records.{Row}
use Rattle.rules.specs.Rows.{row_at, blank_row}
use Rattle.rules.specs.Sound.{leads}
use Rattle.rules.specs.Memory.{row_of}
use Rattle.rules.proofs.MemoryLaws.{length_cut}
use Rattle.rules.specs.Layout.{address_size, row_size}
use Rattle.raw.proofs.CopyLaws.{cut_byte}

-- c are a row's bytes
module _ (c : List ℕ) (r : Row) (e : row_of c ≡ r) where
  pub key_length : row_size ≤ length c → length r.key.0 ≡ address_size
  unfolding row_of
  key_length h = rw (← e) (length_cut 0 address_size c (omega arith))

  pub key_byte : (i : ℕ) → i < address_size → get_or r.key.0 i 0 ≡ get_or c i 0
  unfolding row_of
  key_byte i h =
      let z : 0 + i ≡ i = omega arith in
      rw (← e) (rw z at (sym (cut_byte 0 address_size i c h)))

-- ---- r is row i, and x the next

pub leads_next : (rs : List Row) (i : ℕ) {r x : Row} → i + 1 < length rs → r ≡ row_at i rs → x ≡ row_at (i + 1) rs → addr_before r.key x.key ≡ leads (row_at i rs) (drop (i + 1) rs)
unfolding leads
leads_next rs i h e f = rw (e, f, uncons rs (i + 1) blank_row h)

pub leads_none : (r : Row) (rs : List Row) (i : ℕ) → length rs ≤ i → leads r (drop i rs) ≡ true
unfolding leads
leads_none r rs i h = rw (drop_of_length-le rs h)
