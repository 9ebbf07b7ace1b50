-- Bytes as a number, the first highest.
use Rattle.std.specs.Prelude.{◌≡◌, List, [], ◌∷◌, ℕ, ◌+◌, ◌*◌}
use Rattle.rules.specs.Lent.{Bytes}

-- the number that begins with a and goes on with the bytes
unfoldable pub goes_on : ℕ → List ℕ → ℕ
goes_on a [] = a
goes_on a (x ∷ xs) = goes_on (a * 256 + x) xs

-- r is the number of the bytes l
pub record NumberOf (l : List ℕ) (r : ℕ) : Type 0 where
  pub value : r ≡ goes_on 0 l
  pub bytes : Bytes l
