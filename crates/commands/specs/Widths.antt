-- The width of a command's operands.
use Rattle.std.specs.Prelude.{ℕ, ◌≡◌, ◌≤◌, List, Option, None, Some}
use Rattle.rules.specs.Cases.{Every, maybe}
use Rattle.rules.specs.Commands.{Code, codes, code_of}

-- by a table of codes; none for an unknown code
unfoldable pub width_in : List Code → ℕ → Option ℕ
width_in cs b = maybe (code_of b cs) None (λ c. Some c.width)

abbrev pub width_of : ℕ → Option ℕ
width_of b = width_in codes b

-- n bytes hold the operands of the byte b, whichever code it is
abbrev pub HoldsOperands : ℕ → ℕ → Type 0
HoldsOperands b n = Every (λ c. b ≡ c.byte → c.width ≤ n) codes
