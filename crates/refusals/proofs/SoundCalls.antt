-- What an unchecked call may use of a sound memory, and what it has to show.
use mathlib.Core.Path.{◌≡◌, refl, sym, ap, ◌∙◌, subst}
use Prim.Native.Nat.{ℕ, ◌+◌, ◌*◌, ◌≤◌, ◌<◌}
use native.Mathlib.Omega.{arith}
use mathlib.Core.List.{List}
use Rattle.std.specs.Prelude.{None, Some, Result, Ok, Err}
use mathlib.Core.Bool.{true, false}
use lib.ListN.{length}
use Rattle.types.specs.declared.node_addr.NodeAddr.{NodeAddr}
use Rattle.rules.specs.Records.{Row, State}
use Rattle.rules.specs.Rows.{find}
use Rattle.memory.proofs.RowLaws.{view_length}
use Rattle.rules.specs.Sound.{sound, ascends}
use Rattle.rules.specs.Calls.{Call, path_given, verified_write, draws_stamps}
use Rattle.rules.specs.Refusals.{refusal, Asked, perform}
use Rattle.rules.specs.Memory.{capacity, view_rows, view}
use Rattle.rules.specs.Lent.{Bytes, call}
use Rattle.rules.proofs.SoundTest.{sound_is, ascends_test}
use Rattle.rules.proofs.LentMemory.{head_fits}
use Rattle.search.specs.ByKey.{searched}
use Rattle.search.proofs.SearchLaws.{at_found, at_inside, absent_none}
use Rattle.rules.proofs.Refused.{refused_only_one}
use Rattle.rules.proofs.Public.{SoundMemory, sound_memory, DoneCall, call_done}
use Rattle.rules.specs.Layout.{head_size, row_size}

-- ---- the frame

pub ascending : (l : List ℕ) (n : ℕ) → SoundMemory l n → ascends (view_rows n l).rows ≡ true
ascending l n s = ascends_test (view_rows n l).rows s.sound.rising

pub done_with : (l : List ℕ) (n : ℕ) (q : Call) (m : List ℕ) (k : ℕ) → SoundMemory l n → refusal (capacity l) (view l) (Asked q) ≡ None → Bytes m
    → length m ≡ length l → length (perform (view_rows n l) q).state.rows ≡ k → view_rows k m ≡ (perform (view_rows n l) q).state → DoneCall l q m
done_with l n q m k s e b z c v =
    let P : State → Type 0 = λ x. view_rows (length (perform x q).state.rows) m ≡ (perform x q).state in
    call_done l q m b z e (subst P s.same (ap (λ (x : ℕ). view_rows x m) c ∙ v))

-- a call that is done is answered by the n rows that are there
pub record Answered (l : List ℕ) (n : ℕ) (q : Call) (m : List ℕ) : Type 0 where
  pub answer : (perform (view_rows n l) q).answer ≡ (call l q).answer
  pub memory : m ≡ (call l q).memory

-- and leaves memory m, which shows j rows
pub done_rows : {l : List ℕ} {n : ℕ} → SoundMemory l n → (q : Call) (m : List ℕ) (j : ℕ) → refusal (capacity l) (view l) (Asked q) ≡ None → Bytes m
    → length m ≡ length l → view_rows j m ≡ (perform (view_rows n l) q).state → Answered l n q m
done_rows {l} {n} s q m j e b z v =
    let d = done_with l n q m j s e b z (ap (λ (x : State). length x.rows) (sym v) ∙ view_length j m) v in
    record { answer = ap (λ (x : State). (perform x q).answer) s.same ∙ sym d.answer; memory = sym d.memory }

-- a call that takes no path and draws no stamps is not refused
pub not_refused : (l : List ℕ) (q : Call) → sound (capacity l) (view l) ≡ true → path_given q ≡ None → verified_write q ≡ None → draws_stamps q ≡ false
    → refusal (capacity l) (view l) (Asked q) ≡ None
not_refused l q h p v d = refused_only_one (capacity l) (view l) q h p v (rw d)

-- ---- what the code meets

pub head_there : (l : List ℕ) → sound (capacity l) (view l) ≡ true → head_size ≤ length l
head_there l h = let s = sound_is (capacity l) (view l) h in head_fits l (omega (arith, s.space))

-- n rows, as the head counts them
pub searchable : (l : List ℕ) (n : ℕ) → sound (capacity l) (view l) ≡ true → n ≡ (view_rows 0 l).row_count → (ascends (view_rows n l).rows ≡ true) × (head_size + n * row_size ≤ length l)
searchable l n h e = let s = sound_memory l n h e in (ascending l n s, s.long)

pub found_inside : (l : List ℕ) (n : ℕ) (k : NodeAddr) (i : ℕ) (r : Result ℕ ℕ) → sound (capacity l) (view l) ≡ true → n ≡ (view_rows 0 l).row_count
    → r ≡ searched k (view_rows n l).rows → r ≡ Ok i → (i < n) × (head_size + n * row_size ≤ length l)
found_inside l n k i r h e f g = let s = sound_memory l n h e in (subst (λ (x : ℕ). i < x) s.rows (at_inside k (view_rows n l).rows i (sym f ∙ g)), s.long)

pub found : (k : NodeAddr) (rs : List Row) (i : ℕ) (r : Result ℕ ℕ) → r ≡ searched k rs → r ≡ Ok i → find k rs ≡ Some i
found k rs i r f g = at_found k rs i (sym f ∙ g)

pub missing : (k : NodeAddr) (rs : List Row) (i : ℕ) (r : Result ℕ ℕ) → r ≡ searched k rs → r ≡ Err i → find k rs ≡ None
missing k rs i r f g = absent_none k rs i (sym f ∙ g)

-- the head's seq, as the view shows it
pub shown_seq : (l : List ℕ) → (view_rows 0 l).seq ≡ (view l).seq
unfolding view view_rows
shown_seq l = refl
