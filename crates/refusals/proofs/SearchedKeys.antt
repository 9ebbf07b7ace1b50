-- A key that was searched for in a sound memory has the row that was found, or none.
use mathlib.Core.Path.{◌≡◌, sym, ◌∙◌}
use Prim.Native.Nat.{ℕ, ◌+◌, ◌*◌, ◌≤◌, ◌<◌}
use native.Mathlib.Omega.{arith}
use mathlib.Core.List.{List}
use Rattle.std.specs.Prelude.{Option, None, Some, Result, Ok, Err}
use mathlib.Core.Bool.{true}
use lib.ListN.{length}
use Rattle.types.specs.declared.node_addr.NodeAddr.{NodeAddr}
use Rattle.rules.specs.Rows.{find, main_weight}
use Rattle.rules.specs.Sound.{sound}
use Rattle.rules.specs.Memory.{capacity, view_rows, view}
use Rattle.rules.specs.Layout.{head_size, row_size}
use Rattle.rules.proofs.RowLists.{find_at}
use Rattle.rules.proofs.Public.{SoundMemory, sound_memory}
use Rattle.search.specs.ByKey.{searched}
use Rattle.search.proofs.SearchLaws.{at_found, absent_none}

-- the place after the search: n rows were counted and searched, and a was found
pub record Searched (k : NodeAddr) (n : ℕ) (a : Result ℕ ℕ) (l : List ℕ) : Type 0 where
  pub sound : sound (capacity l) (view l) ≡ true
  pub counted : n ≡ (view_rows 0 l).row_count
  pub outcome : a ≡ searched k (view_rows n l).rows

-- key k's row among the n of memory l, if it has one
pub record Found (k : NodeAddr) (n : ℕ) (o : Option ℕ) (l : List ℕ) : Type 0 where
  pub sound : sound (capacity l) (view l) ≡ true
  pub memory : SoundMemory l n
  pub row : find k (view_rows n l).rows ≡ o

pub inside : {k : NodeAddr} {n i : ℕ} {l : List ℕ} → Found k n (Some i) l → i < n
inside {k} {n} {i} {l} f = omega (arith, (find_at k (view_rows n l).rows i f.row).inside, f.memory.rows)

-- what reading or writing the row asks, and what taking it out asks
module _ {k : NodeAddr} {n i : ℕ} {l : List ℕ} (f : Found k n (Some i) l) where
  pub row_asked : (i < n) × (head_size + n * row_size ≤ length l)
  row_asked = (inside f, f.memory.long)

  pub removal_asked : (i < n) × (head_size + n * row_size ≤ length l) × ((view_rows n l).stored_weight ≡ main_weight (view_rows n l))
  removal_asked = (inside f, f.memory.long, f.memory.sound.stored_weight)

module _ {k : NodeAddr} {n i : ℕ} {a : Result ℕ ℕ} {l : List ℕ} (s : Searched k n a l) where
  pub held : a ≡ Ok i → Found k n (Some i) l
  held e =
      record {
        sound = s.sound;
        memory = sound_memory l n s.sound s.counted;
        row = at_found k (view_rows n l).rows i (sym s.outcome ∙ e);
      }

  pub absent : a ≡ Err i → Found k n None l
  absent e =
      record {
        sound = s.sound;
        memory = sound_memory l n s.sound s.counted;
        row = absent_none k (view_rows n l).rows i (sym s.outcome ∙ e);
      }
