-- A hint: its first step, a refusal by 2 or 3, and what the branch that places it leaves.
use mathlib.Core.Path.{◌≡◌, refl, sym, ap, ◌∙◌, subst}
use Prim.Native.Nat.{ℕ, ◌<◌, ◌≤◌, ◌-◌}
use mathlib.Core.List.{List}
use mathlib.Core.Bool.{Bool, true, false}
use lib.ListN.{length}
use borrow.Author.Tests.{ltb-false}
use Rattle.types.specs.declared.node_addr.NodeAddr.{NodeAddr}
use Rattle.types.specs.declared.coord.Path.{Path}
use Rattle.types.specs.declared.placed.Funding.{Funding}
use Rattle.types.specs.declared.placed.Placed.{Placed}
use Rattle.rules.specs.Records.{State}
use Rattle.rules.specs.Sound.{sound}
use Rattle.rules.specs.Placement as rule
use Rattle.types.specs.declared.refusal.Refusal.{Refusal}
use Rattle.types.specs.declared.placed.Placed.{Placed}
use Rattle.rules.specs.Answers.{said}
use Rattle.rules.specs.Calls.{Call, Hinted}
use Rattle.rules.specs.Refusals.{Step, last_seq, seq_spent, perform, hinted, gives}
use Rattle.rules.specs.Memory.{capacity, view_rows, view}
use Rattle.rules.specs.Lent.{Bytes, call}
use Rattle.rules.proofs.CallsKeep.{path_ok}
use Rattle.rules.proofs.Public.{sound_memory}
use Rattle.filing.specs.Filings.{Writable}
use Rattle.placement.specs.declared.operands.Hint.{Hint}
use Rattle.placement.specs.Operands.{place_hint, place_held, place_new}
use Rattle.placement.specs.Placements.{Placing, row_in, Holds}
use Rattle.refusals.specs.Writes.{write_refusal}
use Rattle.refusals.proofs.SoundCalls.{done_with}
use Rattle.refusals.proofs.WriteRefusals.{Passed, passed, write_refused, hint_allowed}
use Rattle.placement.specs.Hints.{Places, HeldAt, NewIn}
use Rattle.room.specs.Rooms.{Without}
use Rattle.std.specs.Prelude.{Some, Result, Ok, Err, IsErrAnd}
use Rattle.rules.specs.Rows.{find}
use Rattle.rules.specs.Room.{take_out}
use Rattle.rules.specs.Entries.{expired}
use Rattle.rules.proofs.RowLists.{find_at}
use Rattle.rules.proofs.Others.{take_out_seq}
use Rattle.memory.proofs.RowLaws.{view_length}
use Rattle.search.specs.ByKey.{searched}
use Rattle.search.proofs.SearchLaws.{at_found, absent_none}
use Rattle.placement.proofs.HeldKeys.{out_without}

-- ---- 1. the key's row

-- a search for the hint's key among the n rows of memory l
module _ (h : Hint) (n i : ℕ) (l : List ℕ) (e : sound (capacity l) (view_rows n l) ≡ true) where
  module _ (f : searched h.key (view_rows n l).rows ≡ Ok i) where
    found : find h.key (view_rows n l).rows ≡ Some i
    found = at_found h.key (view_rows n l).rows i f

    held : Holds h.key n i l
    held = let a = find_at h.key (view_rows n l).rows i found in record { sound = e; inside = rw (← (view_length n l)) a.inside; key = a.key }

    pub found_inside : i < n
    found_inside = held.inside

    pub held_here : expired h.time (row_in n i l).entry ≡ false → HeldAt h n i l l
    unfolding place_hint place_held rule.place_hint
    held_here x = record { same = refl; holds = held; placed = rw (found, x) }

    pub new_expired : (m : List ℕ) → expired h.time (row_in n i l).entry ≡ true → length m ≡ length l → view_rows (n - 1) m ≡ take_out i (view_rows n l) → NewIn h n (n - 1) l m
    unfolding place_hint place_new rule.place_hint
    new_expired m x z o = record { without = out_without (record { holds = held; size = z; state = o }); seq = rw o (take_out_seq i (view_rows n l)); placed = rw (found, x, o) }

  pub new_missing : searched h.key (view_rows n l).rows ≡ Err i → NewIn h n n l l
  unfolding place_hint place_new rule.place_hint
  new_missing f =
      let a = absent_none h.key (view_rows n l).rows i f in
      record { without = record { sound = e; gone = a }; seq = refl; placed = rw a }

-- ---- refused by 2 or 3, or placed

pub hint_refused : {k : NodeAddr} (p : Path) {time ttl : ℕ} {f : Funding} {stated : Bool} (l : List ℕ) {a : Result (Unit {0}) Refusal} {x : Refusal} (r : Result Placed Refusal)
    → sound (capacity l) (view l) ≡ true → a ≡ write_refusal p (view l) → a ≡ Err x → IsErrAnd r (λ y. y ≡ x)
    → (q : Call) → Places q k p time ttl f stated (view l) → (said Hinted r ≡ (call l q).answer) × (l ≡ (call l q).memory)
hint_refused p l r h e z w q g = write_refused Hinted l q p r h g.path g.stamps e z w

pub writable : {p : Path} {s : State} → Passed p s → Writable p
writable {p} w = let g = path_ok p w.path in record { long = g.long; short = g.short }

pub rows_sound : (n : ℕ) (l : List ℕ) → sound (capacity l) (view l) ≡ true → n ≡ (view_rows 0 l).row_count → sound (capacity l) (view_rows n l) ≡ true
rows_sound n l e c = rw (sound_memory l n e c).same e

-- a hint that is not refused, of a memory with n rows
pub record Allowed (h : Hint) (n : ℕ) (l : List ℕ) : Type 0 where
  pub sound : sound (capacity l) (view l) ≡ true
  pub passed : Passed h.path.now (view l)
  pub counted : n ≡ (view_rows 0 l).row_count

pub allowed : {h : Hint} {n : ℕ} {l : List ℕ} {a : Result (Unit {0}) Refusal} {u : Unit {0}} → sound (capacity l) (view l) ≡ true → a ≡ write_refusal h.path.now (view l) → a ≡ Ok u
    → n ≡ (view_rows 0 l).row_count → Allowed h n l
allowed e w z c = record { sound = e; passed = passed _ _ w z; counted = c }

module _ {h : Hint} {n : ℕ} {l : List ℕ} (a : Allowed h n l) where
  seq_left : (view_rows n l).seq ≤ last_seq
  unfolding seq_spent
  seq_left = rw (sound_memory l n a.sound a.counted).same (ltb-false last_seq (view l).seq a.passed.stamps)

  placed : {d : Placed} {m : List ℕ} → Bytes m → length m ≡ length l → Placing (place_hint h (view_rows n l)) d m
      → (q : Call) → Places q h.key h.path.now h.time h.ttl h.funding h.stated (view l) → (Hinted d ≡ (call l q).answer) × (m ≡ (call l q).memory)
  unfolding place_hint hinted gives
  placed {d} {m} bytes size u q g =
      let s = sound_memory l n a.sound a.counted in
      let p = place_hint h in
      let t : perform (view_rows n l) q ≡ hinted (p (view_rows n l)) = subst (λ (x : State). perform x q ≡ hinted (p x)) (sym s.same) g.does in
      let c : (perform (view_rows n l) q).state ≡ (p (view_rows n l)).state = ap (λ (x : Step). x.state) t in
      let w = hint_allowed l q h.path.now a.sound g.path g.unverified a.passed in
      let b = done_with l n q m (length (p (view_rows n l)).state.rows) s w bytes size (ap (λ (x : State). length x.rows) c) (u.state ∙ sym c) in
      (sym (b.answer ∙ ap (λ (x : State). (perform x q).answer) (sym s.same) ∙ ap (λ (x : Step). x.answer) t ∙ ap Hinted (sym u.says)), sym b.memory)

  module _ {i : ℕ} {m : List ℕ} where
    pub held_asks : HeldAt h n i l m → Holds h.key n i m × ((view_rows n m).seq ≤ last_seq)
    held_asks at = rw at.same (at.holds, seq_left)

    pub new_asks : NewIn h n i l m → Without h.key i m × ((view_rows i m).seq ≤ last_seq)
    new_asks new = (new.without, rw new.seq seq_left)

    module _ {d : Placed} {x : List ℕ} (bytes : Bytes x) (size : length x ≡ length l) where
      pub held_placed : HeldAt h n i l m → Placing (place_held h i (view_rows n m)) d x
          → (q : Call) → Places q h.key h.path.now h.time h.ttl h.funding h.stated (view l) → (Hinted d ≡ (call l q).answer) × (x ≡ (call l q).memory)
      held_placed at u = placed bytes size (rw at.placed (rw at.same at u))

      pub new_placed : NewIn h n i l m → Placing (place_new h (view_rows i m)) d x
          → (q : Call) → Places q h.key h.path.now h.time h.ttl h.funding h.stated (view l) → (Hinted d ≡ (call l q).answer) × (x ≡ (call l q).memory)
      new_placed new u = placed bytes size (rw new.placed u)
