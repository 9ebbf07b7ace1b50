-- What a key's row asks of the functions that read or write it, by the facts of the search.
use mathlib.Core.Path.{◌≡◌}
use Prim.Native.Nat.{ℕ, ◌+◌, ◌*◌, ◌≤◌, ◌<◌}
use mathlib.Core.List.{List}
use Rattle.std.specs.Prelude.{Result, Ok}
use mathlib.Core.Bool.{true}
use lib.ListN.{length}
use Rattle.types.specs.declared.node_addr.NodeAddr.{NodeAddr}
use Rattle.rules.specs.Rows.{main_weight}
use Rattle.rules.specs.Sound.{sound, ascends}
use Rattle.rules.specs.Memory.{capacity, view_rows, view}
use Rattle.rules.specs.Layout.{head_size, row_size}
use Rattle.rules.proofs.Public.{sound_memory}
use Rattle.search.specs.ByKey.{searched}
use Rattle.refusals.proofs.SoundCalls.{head_there, searchable, found_inside}

module _ (l : List ℕ) (n : ℕ) (h : sound (capacity l) (view l) ≡ true) (e : n ≡ (view_rows 0 l).row_count) where
  pub rows_there : head_size + n * row_size ≤ length l
  rows_there = (searchable l n h e).1

  pub rows_rise : ascends (view_rows n l).rows ≡ true
  rows_rise = (searchable l n h e).0

  pub rows_weigh : (view_rows n l).stored_weight ≡ main_weight (view_rows n l)
  rows_weigh = (sound_memory l n h e).sound.stored_weight

  pub row_inside : (k : NodeAddr) (i : ℕ) {a : Result ℕ ℕ} → a ≡ searched k (view_rows n l).rows → a ≡ Ok i → i < n
  row_inside k i {a} f g = (found_inside l n k i a h e f g).0

pub ruleset key_row = (head_there, rows_there, rows_rise, rows_weigh, row_inside)
