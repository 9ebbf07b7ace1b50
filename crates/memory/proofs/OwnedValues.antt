-- What owning a value tells: how long its arrays are, and that its numbers fit.
use Prim.Native.Nat.{ℕ}
use mathlib.Core.List.{List, [], ◌∷◌}
use mir.Val.{Val}
use denote.Shadow.{shadow}
use denote.Laws.{Is}
use denote.Array.{each}
use denote.Builtin.{u8}
use Rattle.types.specs.contracts.node_addr.NodeAddr as Address
use Rattle.types.specs.contracts.coord.CoordEntry as Element
use Rattle.types.specs.contracts.coord.Path as Whole
use Rattle.types.specs.declared.node_addr.NodeAddr.{NodeAddr}
use Rattle.types.specs.declared.coord.CoordEntry.{CoordEntry}
use Rattle.types.specs.declared.coord.Path.{Path}
use Rattle.rules.specs.Cases.{Every}
use Rattle.rules.specs.Lent.{Bytes, AddrFits, CoordEntryFits, PathFits}
use Rattle.rules.proofs.Sizes.{small8}

owned_bytes : (xs : List ℕ) (us : List Val) → shadow (each ℕ u8.own_val xs us) → Bytes xs
owned_bytes [] us g = tt
owned_bytes (x ∷ xs) [] g = absurd g
owned_bytes (x ∷ xs) (u ∷ us) g = (g.0.1, owned_bytes xs us g.1)

pub owned_addr : (a : NodeAddr) (vs : List Val) → Is Address.the_row a vs → AddrFits a
owned_addr a vs g = let h = g.1.1.0.1 in record { size = h.0.1; bytes = owned_bytes a.0 _ h.1 }

pub owned_entry : (e : CoordEntry) (vs : List Val) → Is Element.the_row e vs → CoordEntryFits e
owned_entry e vs g = let h = g.1.1 in record { address = owned_addr e.node_addr _ h.0; sequence = small8 e.sequence h.1.0.1; timestamp = small8 e.timestamp h.1.1.0.1 }

owned_entries : (xs : List CoordEntry) (us : List Val) → shadow (each (Element.the_row).Denot (Element.the_row).own_val xs us) → Every CoordEntryFits xs
owned_entries [] us g = tt
owned_entries (x ∷ xs) [] g = absurd g
owned_entries (x ∷ xs) (u ∷ us) g = (owned_entry x _ g.0, owned_entries xs us g.1)

pub owned_path : (p : Path) (vs : List Val) → Is Whole.the_row p vs → PathFits p
owned_path p vs g = let h = g.1.1.0.1 in record { places = h.0.1; each = owned_entries p.entries _ h.1 }
