-- The four calls that place a hint, as one; and what its first step finds.
use Rattle.std.specs.Prelude.{◌≡◌, List, Bool, true, ℕ, None, Some}
use Rattle.types.specs.declared.node_addr.NodeAddr.{NodeAddr}
use Rattle.types.specs.declared.coord.Path.{Path}
use Rattle.types.specs.declared.placed.Funding.{Funding}
use Rattle.rules.specs.Records.{State}
use Rattle.rules.specs.Placement as rule
use Rattle.rules.specs.Calls.{Call, path_given, draws_stamps, verified_write}
use Rattle.rules.specs.Refusals.{perform, hinted}
use Rattle.rules.specs.Memory.{view_rows}
use Rattle.room.specs.Rooms.{Without}
use Rattle.placement.specs.declared.operands.Hint.{Hint}
use Rattle.placement.specs.Operands.{place_new, place_held, place_hint}
use Rattle.placement.specs.Placements.{Holds}
use Rattle.placement.specs.declared.hint.KeyRow.{KeyRow}
use Rattle.placement.specs.declared.hint.KeyRow.TheVariants.{At, New}

-- call q, on state s, places this hint
pub record Places (q : Call) (k : NodeAddr) (p : Path) (time ttl : ℕ) (f : Funding) (stated : Bool) (s : State) : Type 0 where
  pub path : path_given q ≡ Some p
  pub stamps : draws_stamps q ≡ true
  pub unverified : verified_write q ≡ None
  pub does : perform s q ≡ hinted (rule.place_hint k p time ttl f stated s)

-- row i of n is that of the hint's key, and not expired; memory l is left as it was
pub record HeldAt (h : Hint) (n i : ℕ) (l m : List ℕ) : Type 0 where
  pub same : m ≡ l
  pub holds : Holds h.key n i l
  pub placed : place_hint h (view_rows n l) ≡ place_held h i (view_rows n l)

-- memory m has j rows and none of the hint's key, whose expired row, if it had one, is out
pub record NewIn (h : Hint) (n j : ℕ) (l m : List ℕ) : Type 0 where
  pub without : Without h.key j m
  pub seq : (view_rows j m).seq ≡ (view_rows n l).seq
  pub placed : place_hint h (view_rows n l) ≡ place_new h (view_rows j m)

abbrev pub Stands : KeyRow → Hint → ℕ → List ℕ → List ℕ → Type 0
Stands (At i) h n l m = HeldAt h n i l m
Stands (New j) h n l m = NewIn h n j l m
