-- The entry of the key's row, and the rows without it, are what remove answers and leaves.
use mathlib.Core.Path.{◌≡◌, refl, ap, ◌∙◌}
use Prim.Native.Nat.{ℕ, ◌-◌}
use mathlib.Core.List.{List}
use Rattle.std.specs.Prelude.{Option, None, Some}
use lib.ListN.{length}
use Rattle.types.specs.declared.node_addr.NodeAddr.{NodeAddr}
use Rattle.types.specs.declared.entry.CacheEntry.{CacheEntry}
use Rattle.rules.specs.Records.{entry_value}
use Rattle.rules.specs.Rows.{row_at}
use Rattle.rules.specs.Room.{take_out}
use Rattle.rules.specs.Placement.{without_key}
use Rattle.rules.specs.Lookups.{removed_entry}
use Rattle.rules.specs.Calls.{Remove, EntryRemoved, path_given, verified_write, draws_stamps}
use Rattle.rules.specs.Refusals.{perform, gives}
use Rattle.rules.specs.Memory.{view_rows}
use Rattle.rules.specs.Lent.{Bytes, call}
use Rattle.refusals.proofs.SoundCalls.{Answered, done_rows, not_refused}
use Rattle.refusals.proofs.SearchedKeys.{Found}

-- what the call returns, and the memory
abbrev pub Removed : List ℕ → NodeAddr → Option CacheEntry → List ℕ → Type 0
Removed l k r m = (EntryRemoved r ≡ (call l (Remove k)).answer) × (m ≡ (call l (Remove k)).memory)

module _ {k : NodeAddr} {n : ℕ} {l : List ℕ} where
  remove_done : {o : Option ℕ} → Found k n o l → (m : List ℕ) (j : ℕ) → Bytes m → length m ≡ length l
      → view_rows j m ≡ (perform (view_rows n l) (Remove k)).state → Answered l n (Remove k) m
  unfolding path_given verified_write draws_stamps
  remove_done f m j b z v = done_rows f.memory (Remove k) m j (not_refused l (Remove k) f.sound refl refl refl) b z v

  pub removed_at : {i : ℕ} → Found k n (Some i) l → (e : CacheEntry) (m : List ℕ) → Bytes m → length m ≡ length l
      → e ≡ entry_value (row_at i (view_rows n l).rows).entry → view_rows (n - 1) m ≡ take_out i (view_rows n l) → Removed l k (Some e) m
  unfolding perform gives without_key removed_entry
  removed_at f e m b z a v =
      let d = remove_done f m (n - 1) b z (rw f.row v) in
      (ap (λ (x : CacheEntry). EntryRemoved (Some x)) a ∙ (rw f.row at d.answer), d.memory)

  pub removed_absent : Found k n None l → Bytes l → Removed l k None l
  unfolding perform gives without_key removed_entry
  removed_absent f b = let d = remove_done f l n b refl (rw f.row) in (rw f.row at d.answer, d.memory)
