-- The key's row without its path MTU, or no row, is what clear_path_mtu leaves.
use mathlib.Core.Path.{◌≡◌, refl}
use Prim.Native.Nat.{ℕ}
use mathlib.Core.List.{List}
use Rattle.std.specs.Prelude.{Option, None, Some}
use lib.ListN.{length}
use Rattle.types.specs.declared.node_addr.NodeAddr.{NodeAddr}
use Rattle.rules.specs.Entries.{drop_mtu}
use Rattle.rules.specs.Lookups.{rewrite, clear_path_mtu}
use Rattle.rules.specs.Calls.{Done, ClearPathMtu, path_given, verified_write, draws_stamps}
use Rattle.rules.specs.Refusals.{perform, gives}
use Rattle.rules.specs.Memory.{view_rows}
use Rattle.rules.specs.Lent.{Bytes, call}
use Rattle.refusals.proofs.SoundCalls.{done_rows, not_refused}
use Rattle.refusals.proofs.SearchedKeys.{Found}

abbrev pub Cleared : NodeAddr → List ℕ → List ℕ → Type 0
Cleared k l m = (Done ≡ (call l (ClearPathMtu k)).answer) × (m ≡ (call l (ClearPathMtu k)).memory)

module _ {k : NodeAddr} {n : ℕ} {l : List ℕ} where
  clear_done : {o : Option ℕ} → Found k n o l → (m : List ℕ) → Bytes m → length m ≡ length l → view_rows n m ≡ (perform (view_rows n l) (ClearPathMtu k)).state → Cleared k l m
  unfolding perform gives path_given verified_write draws_stamps
  clear_done f m b z v =
      let d = done_rows f.memory (ClearPathMtu k) m n (not_refused l (ClearPathMtu k) f.sound refl refl refl) b z v in
      (d.answer, d.memory)

  pub clear_at : {i : ℕ} → Found k n (Some i) l → (m : List ℕ) → Bytes m → length m ≡ length l → view_rows n m ≡ rewrite drop_mtu i (view_rows n l) → Cleared k l m
  unfolding perform gives clear_path_mtu
  clear_at f m b z v = clear_done f m b z (rw f.row v)

  pub clear_absent : Found k n None l → Bytes l → Cleared k l l
  unfolding perform gives clear_path_mtu
  clear_absent f b = clear_done f l b refl (rw f.row)
