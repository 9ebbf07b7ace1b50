-- The four calls that place a hint.
use mathlib.Core.Path.{◌≡◌, refl}
use Prim.Native.Nat.{ℕ}
use mathlib.Core.List.{List}
use mathlib.Core.Bool.{Bool, false}
use Rattle.types.specs.declared.node_addr.NodeAddr.{NodeAddr}
use Rattle.types.specs.declared.coord.Path.{Path}
use Rattle.types.specs.Paths.{starts_at}
use Rattle.types.specs.declared.placed.Funding.{Funding}
use Rattle.types.specs.declared.placed.Funding.TheVariants.{Uncharged}
use Rattle.rules.specs.Records.{State}
use Rattle.rules.specs.Calls.{Insert, InsertWithTtl, InsertFunded, InsertStated, path_given, draws_stamps, verified_write}
use Rattle.rules.specs.Refusals.{perform}
use Rattle.rules.specs.Memory.{view_rows, view}
use Rattle.placement.specs.Hints.{Places}

pub inserts : (k : NodeAddr) (p : Path) (time ttl : ℕ) (s : State) → ttl ≡ s.default_ttl → Places (Insert k p time) k p time ttl Uncharged false s
unfolding path_given draws_stamps verified_write perform
inserts k p time ttl s e = record { path = refl; stamps = refl; unverified = refl; does = rw e }

pub inserts_with_ttl : (k : NodeAddr) (p : Path) (time ttl : ℕ) (s : State) → Places (InsertWithTtl k p time ttl) k p time ttl Uncharged false s
unfolding path_given draws_stamps verified_write perform
inserts_with_ttl k p time ttl s = record { path = refl; stamps = refl; unverified = refl; does = refl }

pub inserts_funded : (k : NodeAddr) (p : Path) (time ttl : ℕ) (f : Funding) (s : State) → ttl ≡ s.default_ttl → Places (InsertFunded k p time f) k p time ttl f false s
unfolding path_given draws_stamps verified_write perform
inserts_funded k p time ttl f s e = record { path = refl; stamps = refl; unverified = refl; does = rw e }

pub inserts_stated : (k : NodeAddr) (p : Path) (time ttl : ℕ) (f : Funding) (stated : Bool) (s : State) → ttl ≡ s.default_ttl → stated ≡ starts_at k p → Places (InsertStated k p time f) k p time ttl f stated s
unfolding path_given draws_stamps verified_write perform
inserts_stated k p time ttl f stated s e g = record { path = refl; stamps = refl; unverified = refl; does = rw (e, g) }

-- the head's ttl, as the view shows it
pub shown_ttl : (l : List ℕ) → (view_rows 0 l).default_ttl ≡ (view l).default_ttl
unfolding view view_rows
shown_ttl l = refl
