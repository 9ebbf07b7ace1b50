-- Number 5, as the code asks it: a sound head that counts no row.
use mathlib.Core.Path.{◌≡◌, sym, ap, ◌∙◌}
use Prim.Native.Nat.{ℕ, ◌+◌, ◌*◌, ◌≤◌}
use native.Mathlib.Omega.{arith}
use mathlib.Core.List.{List}
use mathlib.Core.Bool.{Bool, false, not}
use lib.ListN.{length}
use Rattle.rules.specs.Refusals.{bad_size}
use Rattle.rules.specs.Memory.{capacity}
use Rattle.rules.proofs.LentMemory.{size_allowed}
use Rattle.rules.specs.Layout.{head_size, row_size}
use Rattle.state.specs.Parts.{head_sound}
use Rattle.state.proofs.CheckLaws.{size_refused}

pub rows_there : (l : List ℕ) (m : ℕ) → bad_size (capacity l) m ≡ false → head_size + capacity l * row_size ≤ length l
unfolding capacity
rows_there l m h = let g = size_allowed (capacity l) m h in omega arith

-- what the code's answer b says of the memory's rows
pub size_said : (l : List ℕ) (m r : ℕ) (b x : Bool) → r ≡ capacity l → b ≡ head_sound r m 0 → b ≡ x → bad_size (capacity l) m ≡ not x
size_said l m r b x e f g = rw (← e) (size_refused r m ∙ ap not (sym f ∙ g))
