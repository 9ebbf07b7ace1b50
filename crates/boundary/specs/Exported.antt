-- What crosses the boundary to another language: addresses and paths as bytes, a funding as two numbers, a reply as a number and
-- five values, a stored path as its place in the memory, a removed row as its bytes.
use Rattle.std.specs.Prelude.{ℕ, ◌+◌, ◌*◌, ◌-◌, ◌/◌, min, ◌≡◌, List, ◌++◌, cond, eqb, length, replicate, Option, None, Some}
use Rattle.types.specs.declared.node_addr.NodeAddr.{NodeAddr}
use Rattle.types.specs.declared.coord.Path.{Path}
use Rattle.types.specs.Paths.{path_places, zero_entry}
use Rattle.types.specs.declared.placed.Funding.{Funding}
use Rattle.types.specs.declared.placed.Funding.TheVariants.{Upto, Uncharged}
use Rattle.rules.specs.Cases.{maybe}
use Rattle.rules.specs.Rows.{find}
use Rattle.rules.specs.Sound.{sound}
use Rattle.rules.specs.Calls.{Call, Refused}
use Rattle.rules.specs.Commands.{reply}
use Rattle.rules.specs.Memory.{coord_entries_of, cut, capacity, view}
use Rattle.rules.specs.Lent.{Lent, call}
use Rattle.rules.specs.Layout.{coord_entry_size, head_size, row_size}

abbrev pub address_from : List ℕ → NodeAddr
address_from bs = record { 0 = bs }

-- as many elements as stand whole in the bytes; 32 places, with zeros past the elements. Of more than 32 the length alone tells,
-- and such a path is refused by 2
unfoldable pub path_from : List ℕ → Path
path_from bs =
    let n = length bs / coord_entry_size in
    let held = min n path_places in
    record { len = n; entries = coord_entries_of held bs ++ replicate (path_places - held) zero_entry }

-- kind 0 Uncharged, 1 Upto the amount; a kind over 1 names none
unfoldable pub funding_from : ℕ → ℕ → Option Funding
funding_from kind amount = cond (eqb kind 0) (Some Uncharged) (cond (eqb kind 1) (Some (Upto amount)) None)

-- a call with such a funding: number 6 comes before any other, and leaves the memory
unfoldable pub funded : List ℕ → ℕ → ℕ → (Funding → Call) → Lent
funded l kind amount f = maybe (funding_from kind amount) (record { answer = Refused 6; memory = l }) (λ x. call l (f x))

-- an exported function returns the refusal's number, writes 01's five values, and leaves the memory of the rules
pub record Told (t : Lent) (number : ℕ) (values : List ℕ) (m : List ℕ) : Type 0 where
  pub says : record { refusal = number; values = values } ≡ reply t.answer
  pub leaves : m ≡ t.memory

-- the part of the memory that begins at this byte
abbrev pub PartAt : ℕ → List ℕ → List ℕ → Type 0
PartAt at m part = cut at (length part) m ≡ part

-- the row of a key in a sound memory
unfoldable pub row_held : NodeAddr → List ℕ → Option ℕ
row_held k l = cond (sound (capacity l) (view l)) (find k (view l).rows) None

-- the bytes of the row that remove takes out; what stood in the buffer stays where it takes out none
unfoldable pub row_taken : NodeAddr → List ℕ → List ℕ → List ℕ
row_taken k l buffer = maybe (row_held k l) buffer (λ i. cut (head_size + i * row_size) row_size l)
