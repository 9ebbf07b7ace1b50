-- A row marked a hint, and refiled where it was parked, is what demote leaves.
use mathlib.Core.Path.{◌≡◌, refl, ap, ◌∙◌}
use Prim.Native.Nat.{ℕ, ◌+◌, ◌≤◌, ◌<◌}
use native.Mathlib.Omega.{arith}
use mathlib.Core.List.{List}
use Rattle.std.specs.Prelude.{Option, None, Some}
use mathlib.Core.Bool.{Bool, true, false}
use lib.ListN.{length}
use borrow.Author.Tests.{eq-eqb, ne_eqb, lt-ltb, le-ltb}
use Rattle.types.specs.declared.node_addr.NodeAddr.{NodeAddr}
use Rattle.types.specs.Values.{largest_number}
use Rattle.rules.specs.Records.{Row, State}
use Rattle.rules.specs.Rows.{row_at, at_place, in_main, change_row, with_rows}
use Rattle.rules.specs.Sound.{sound}
use Rattle.rules.specs.Entries.{mark_hint}
use Rattle.rules.specs.Room.{refile, restamp, stamp, raised, refiled}
use Rattle.rules.specs.Lookups.{rewrite, with_entry, demoted, holds}
use Rattle.rules.specs.Calls.{Demote, KeyHeld, Refused, path_given, verified_write, draws_stamps}
use Rattle.rules.specs.Refusals.{seq_spent, perform, gives, last_seq}
use Rattle.rules.specs.Memory.{capacity, view_rows, view}
use Rattle.rules.specs.Lent.{Bytes, call}
use Rattle.rules.proofs.Refused.{refused_three, refused_only_one}
use Rattle.refusals.proofs.SoundCalls.{Answered, done_rows, shown_seq}
use Rattle.refusals.proofs.RefusalsSaid.{said}
use Rattle.refusals.proofs.SearchedKeys.{Found}
use Rattle.memory.proofs.Fields.{same_head}
use Rattle.rules.proofs.RowLists.{change_at}
use Rattle.rules.proofs.RowLists.{change_twice}
use Rattle.lookups.specs.KeyedSteps.{demoted_at}

-- ---- demote

restamped : (i : ℕ) (s : State) → (row_at i s.rows).place ≡ 1 → restamp i (rewrite mark_hint i s) ≡ demoted_at i s
unfolding demoted_at at_place refile restamp stamp raised refiled in_main rewrite with_rows with_entry
restamped i s p =
    let r = row_at i s.rows in
    let q = s.seq + 1 in
    let f : Row → Row = λ x. with_entry (mark_hint x.entry) x in
    let g : Row → Row = λ x. refiled q x.entry x.weight x in
    let e : change_row g i (change_row f i s.rows) ≡ change_row (refiled q (mark_hint r.entry) r.weight) i s.rows =
    change_twice f g i s.rows ∙ change_at _ (refiled q (mark_hint r.entry) r.weight) i s.rows refl in
    rw (eq-eqb r.place 1 p) (rw e)

-- a parked row becomes a hint, and is refiled
pub demoted_parked : (i : ℕ) (s t x : State) → (row_at i s.rows).place ≡ 1 → t ≡ rewrite mark_hint i s → x ≡ restamp i t → x ≡ demoted_at i s
demoted_parked i s t x p et ex = ex ∙ ap (restamp i) et ∙ restamped i s p

pub demoted_in_place : (i : ℕ) (s x : State) → ((row_at i s.rows).place ≡ 1 → ⊥) → x ≡ rewrite mark_hint i s → x ≡ demoted_at i s
unfolding demoted_at at_place
demoted_in_place i s x p e = e ∙ rw (ne_eqb (row_at i s.rows).place 1 p)

-- ---- the call

abbrev pub Demoted : NodeAddr → Bool → List ℕ → List ℕ → Type 0
Demoted k b l m = (KeyHeld b ≡ (call l (Demote k)).answer) × (m ≡ (call l (Demote k)).memory)

pub demote_refused : (l : List ℕ) (k : NodeAddr) {q : ℕ} → sound (capacity l) (view l) ≡ true → q ≡ (view_rows 0 l).seq → last_seq < q
    → (Refused 3 ≡ (call l (Demote k)).answer) × (l ≡ (call l (Demote k)).memory)
unfolding path_given draws_stamps seq_spent
demote_refused l k {q} h e w =
    let d : q ≡ (view l).seq = e ∙ shown_seq l in
    said l (Demote k) 3 (refused_three (capacity l) (view l) (Demote k) h refl refl (rw (← d) (lt-ltb last_seq q w)))

-- a stamp is left, with q the head's seq
pub stamp_left : (n : ℕ) (l : List ℕ) {q : ℕ} → q ≡ (view_rows 0 l).seq → q ≤ last_seq → (view_rows n l).seq < largest_number
stamp_left n l e w = omega (arith, e, w, (same_head 0 n l).seq)

-- q is the head's seq
module _ {k : NodeAddr} {n q : ℕ} {l : List ℕ} (e : q ≡ (view_rows 0 l).seq) (w : q ≤ last_seq) where
  demote_done : {o : Option ℕ} → Found k n o l → (m : List ℕ) → Bytes m → length m ≡ length l → view_rows n m ≡ (perform (view_rows n l) (Demote k)).state
      → Answered l n (Demote k) m
  unfolding path_given verified_write draws_stamps seq_spent
  demote_done f m b z v =
      let d : q ≡ (view l).seq = e ∙ shown_seq l in
      done_rows f.memory (Demote k) m n (refused_only_one (capacity l) (view l) (Demote k) f.sound refl refl (rw (← d) (le-ltb last_seq q w))) b z v

  pub demoted_at_lem : {i : ℕ} → Found k n (Some i) l → (m : List ℕ) → Bytes m → length m ≡ length l → view_rows n m ≡ demoted_at i (view_rows n l)
      → Demoted k true l m
  unfolding perform gives demoted demoted_at holds
  demoted_at_lem f m b z v = let d = demote_done f m b z (rw f.row v) in (rw f.row at d.answer, d.memory)

  pub demoted_absent : Found k n None l → Bytes l → Demoted k false l l
  unfolding perform gives demoted holds
  demoted_absent f b = let d = demote_done f l b refl (rw f.row) in (rw f.row at d.answer, d.memory)

pub hinted_seq : (i : ℕ) (s : State) → (rewrite mark_hint i s).seq ≡ s.seq
unfolding rewrite with_rows
hinted_seq i s = refl
