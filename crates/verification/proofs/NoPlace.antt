-- Number 4, as the code finds it.
use mathlib.Core.Path.{◌≡◌, sym, ◌∙◌}
use Prim.Native.Nat.{ℕ, ◌≤◌, ◌<◌}
use native.Mathlib.Omega.{arith}
use mathlib.Core.List.{List}
use mathlib.Core.Bool.{Bool, true, false, not}
use lib.Dec.{ltb}
use borrow.Author.Tests.{le-leb, lt-leb}
use Rattle.types.specs.declared.node_addr.NodeAddr.{NodeAddr}
use Rattle.types.specs.Paths.{path_weight}
use Rattle.rules.specs.Records.{State, main_limit}
use Rattle.rules.specs.Rows.{row_at, in_main, main_count}
use Rattle.rules.specs.Room.{room_can_be_made}
use Rattle.rules.specs.Calls.{VerifiedWrite}
use Rattle.rules.specs.Refusals.{key_in_main, no_place_for}
use Rattle.rules.specs.Memory.{view_rows}
use Rattle.memory.proofs.RowLaws.{view_length}
use Rattle.std.specs.Prelude.{Result, Ok, Err}
use Rattle.search.specs.ByKey.{searched}
use Rattle.search.proofs.SearchLaws.{at_inside}
use Rattle.refusals.proofs.SoundCalls.{found, missing}
use Rattle.room.proofs.ClosedForm.{closed_without_key}

-- ---- the key's row

pub row_inside : (n : ℕ) (l : List ℕ) (k : NodeAddr) {i : ℕ} {r : Result ℕ ℕ} → r ≡ searched k (view_rows n l).rows → r ≡ Ok i → i < n
row_inside n l k {i} f g = omega (arith, at_inside k (view_rows n l).rows i (sym f ∙ g), view_length n l)

pub held_in_main : (k : NodeAddr) (s : State) {i p : ℕ} {r : Result ℕ ℕ} → r ≡ searched k s.rows → r ≡ Ok i → p ≡ (row_at i s.rows).place → ltb p 2 ≡ key_in_main k s
unfolding key_in_main in_main
held_in_main k s {i} {p} {r} f g e = rw (found k s.rows i r f g, e)

pub absent_in_main : (k : NodeAddr) (s : State) {i : ℕ} {r : Result ℕ ℕ} → r ≡ searched k s.rows → r ≡ Err i → false ≡ key_in_main k s
unfolding key_in_main
absent_in_main k s {i} {r} f g = rw (missing k s.rows i r f g)

-- ---- the three questions, in the code's order

module _ (R : ℕ) (s : State) (v : VerifiedWrite) {a : Bool} (e : a ≡ key_in_main v.key s) where
  pub held_place : a ≡ true → false ≡ no_place_for R s v
  unfolding no_place_for
  held_place h = rw (sym e ∙ h)

  module _ {c b : ℕ} (h : a ≡ false) (ec : c ≡ main_count s) (eb : b ≡ main_limit R s) where
    pub free_place : c < b → false ≡ no_place_for R s v
    unfolding no_place_for
    free_place l = rw (sym e ∙ h, ← ec, ← eb, lt-leb b c l)

    pub made_place : {r : Bool} {w : ℕ} → b ≤ c → w ≡ path_weight v.path → r ≡ room_can_be_made v.time w s → not r ≡ no_place_for R s v
    unfolding no_place_for
    made_place l ew er =
        let m = sym e ∙ h in
        rw (m, ← ec, ← eb, le-leb b c l, closed_without_key v.time (path_weight v.path) v.key s m, ← ew, ← er)
