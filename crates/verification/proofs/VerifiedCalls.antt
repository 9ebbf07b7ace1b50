-- The calls, in either form: refused by 2, 3 or 4, or done.
use mathlib.Core.Path.{◌≡◌, refl, sym, ap, ◌∙◌}
use Prim.Native.Nat.{ℕ}
use mathlib.Core.List.{List}
use Rattle.std.specs.Prelude.{Option, Some, None, Result, Err, IsErrAnd}
use mathlib.Core.Bool.{Bool, true, false}
use lib.ListN.{length}
use borrow.Author.Tests.{ltb-false}
use Rattle.types.specs.declared.node_addr.NodeAddr.{NodeAddr}
use Rattle.types.specs.declared.coord.Path.{Path}
use Rattle.types.specs.declared.placed.VerifiedInsert.{VerifiedInsert}
use Rattle.rules.specs.Cases.{maybe}
use Rattle.rules.specs.Records.{State}
use Rattle.rules.specs.Sound.{sound}
use Rattle.rules.specs.Placement.{insert_verified}
use Rattle.types.specs.declared.refusal.Refusal.{Refusal}
use Rattle.rules.specs.Answers.{said as said_as}
use Rattle.rules.specs.Calls.{Call, Refused, VerifiedDone, path_given, draws_stamps, verified_write}
use Rattle.rules.specs.Refusals.{Step, seq_spent, no_place_for, perform, verifies, gives, last_seq}
use Rattle.rules.specs.Memory.{capacity, view_rows, view}
use Rattle.rules.specs.Lent.{Bytes, call}
use Rattle.rules.proofs.Refused.{refused_four, write_allowed}
use Rattle.rules.proofs.CallsKeep.{path_ok}
use Rattle.rules.proofs.Public.{sound_memory}
use Rattle.refusals.specs.Writes.{write_refusal}
use Rattle.refusals.proofs.SoundCalls.{done_rows}
use Rattle.refusals.proofs.RefusalsSaid.{said}
use Rattle.refusals.proofs.WriteRefusals.{Passed, write_refused}
use Rattle.verification.specs.Forms.{verified_call}
use Rattle.verification.specs.Inserts.{Allowed, Inserting}

-- the rows that the head counts
pub rows_sound_lem : (l : List ℕ) (n : ℕ) → sound (capacity l) (view l) ≡ true → n ≡ (view_rows 0 l).row_count → sound (capacity l) (view_rows n l) ≡ true
rows_sound_lem l n h e = rw (sound_memory l n h e).same h

-- ---- what both forms say

-- call q is a verified insert
record Form (q : Call) (k : NodeAddr) (p : Path) (t : ℕ) (mtu : Option ℕ) : Type 0 where
  path : path_given q ≡ Some p
  stamps : draws_stamps q ≡ true
  write : verified_write q ≡ Some (record { key = k; path = p; time = t })
  does : (s : State) → perform s q ≡ verifies k p t mtu s

form : (k : NodeAddr) (p : Path) (t : ℕ) (mtu : Option ℕ) → Form (verified_call k p t mtu) k p t mtu
unfolding path_given draws_stamps verified_write perform
form k p t None = record { path = refl; stamps = refl; write = refl; does = λ s. refl }
form k p t (Some m) = record { path = refl; stamps = refl; write = refl; does = λ s. refl }

-- ---- refused by 2 or 3

pub refused_early : (k : NodeAddr) (p : Path) (t : ℕ) (mtu : Option ℕ) (l : List ℕ) {a : Result (Unit {0}) Refusal} {x : Refusal} (r : Result VerifiedInsert Refusal)
    → sound (capacity l) (view l) ≡ true → a ≡ write_refusal p (view l) → a ≡ Err x → IsErrAnd r (λ y. y ≡ x)
    → (said_as VerifiedDone r ≡ (call l (verified_call k p t mtu)).answer) × (l ≡ (call l (verified_call k p t mtu)).memory)
refused_early k p t mtu l r h e z w = let f = form k p t mtu in write_refused VerifiedDone l (verified_call k p t mtu) p r h f.path f.stamps e z w

-- ---- not refused by 2 or 3: b says whether main has no place

pub record Underway (k : NodeAddr) (p : Path) (t n : ℕ) (b : Bool) (l : List ℕ) : Type 0 where
  pub sound : sound (capacity l) (view l) ≡ true
  pub passed : Passed p (view l)
  pub counted : n ≡ (view_rows 0 l).row_count
  pub full : b ≡ no_place_for (capacity l) (view_rows n l) (record { key = k; path = p; time = t })

module _ {k : NodeAddr} {p : Path} {t n : ℕ} {b : Bool} {l : List ℕ} (u : Underway k p t n b l) where
  -- number 4, over the rows that the code meets
  four_of : (mtu : Option ℕ) → maybe (verified_write (verified_call k p t mtu)) false (no_place_for (capacity l) (view l)) ≡ b
  four_of mtu = rw ((form k p t mtu).write, ← (sound_memory l n u.sound u.counted).same, ← u.full)

  pub refused_by_four : (mtu : Option ℕ) → b ≡ true → (Refused 4 ≡ (call l (verified_call k p t mtu)).answer) × (l ≡ (call l (verified_call k p t mtu)).memory)
  refused_by_four mtu y =
      let q = verified_call k p t mtu in
      said l q 4 (refused_four (capacity l) (view l) q u.sound (rw (form k p t mtu).path u.passed.path) u.passed.stamps (four_of mtu ∙ y))

  -- what filing asks
  pub insert_asked : b ≡ false → Allowed k p t n l
  unfolding seq_spent
  insert_asked y =
      let g = path_ok p u.passed.path in
      let s = (sound_memory l n u.sound u.counted).same in
      record { sound = rw s u.sound; path = record { long = g.long; short = g.short }; seq = rw s (ltb-false last_seq (view l).seq u.passed.stamps); place = sym u.full ∙ y }

  -- the call is done
  pub insert_done : (mtu : Option ℕ) (m : List ℕ) (v : VerifiedInsert) → b ≡ false → Bytes m → length m ≡ length l → Inserting (insert_verified k p t mtu (view_rows n l)) p v m
      → (VerifiedDone v ≡ (call l (verified_call k p t mtu)).answer) × (m ≡ (call l (verified_call k p t mtu)).memory)
  unfolding verifies gives
  insert_done mtu m v y bytes size i =
      let q = verified_call k p t mtu in
      let f = form k p t mtu in
      let a = write_allowed (capacity l) (view l) q u.sound (rw f.path u.passed.path) u.passed.stamps (four_of mtu ∙ y) in
      let e = f.does (view_rows n l) in
      let d = done_rows (sound_memory l n u.sound u.counted) q m _ a bytes size (i.state ∙ ap (λ (x : Step). x.state) (sym e)) in
      (ap VerifiedDone i.says ∙ ap (λ (x : Step). x.answer) (sym e) ∙ d.answer, d.memory)
