-- The frame of every public call: refused, it leaves the memory; done, the memory that shows the rules' state is the rules' memory.
use mathlib.Core.Path.{◌≡◌, refl, sym, ap, ◌∙◌, subst}
use Prim.Native.Nat.{ℕ, ◌+◌, ◌*◌, ◌-◌, ◌≤◌, min}
use native.Mathlib.Omega.{arith}
use mathlib.Core.List.{List}
use Rattle.std.specs.Prelude.{None, Some}
use mathlib.Core.Bool.{true, false}
use lib.ListN.{length, drop}
use lib.Seq.{drop-drop}
use Rattle.rules.specs.Cases.{maybe}
use Rattle.rules.specs.Records.{State, max_rows}
use Rattle.rules.specs.Sound.{sound}
use Rattle.rules.specs.Calls.{Call, Done, Refused, was_refused}
use Rattle.rules.specs.Refusals.{Asked, Fresh, Request, bad_size, fresh, gives, perform, perform_request, refusal, serve}
use Rattle.rules.specs.Memory.{capacity, cut, held_rows, le_number, memory, view, view_rows}
use Rattle.rules.specs.Lent.{Bytes, call, lent}
use Rattle.rules.specs.Answers.{refusal_of}
use Rattle.rules.proofs.SoundTest.{Sound, sound_is}
use Rattle.rules.proofs.ViewLaws.{held_fits, view_memory}
use Rattle.rules.proofs.Refused.{allowed, done_perform, fresh_refusal, refusal_number, refused_one}
use Rattle.rules.proofs.SoundKept.{fresh_sound, perform_keeps}
use Rattle.rules.proofs.Sizes.{few_rows}
use Rattle.rules.proofs.Foreign.{rows_of_length, view_length}
use Rattle.rules.proofs.LentMemory.{capacity_same, head_fits, tail_of}
use Rattle.rules.specs.Layout.{head_size, number_size, row_count_offset, row_size}

count_shown : (n : ℕ) (m : List ℕ) → le_number (cut row_count_offset number_size m) ≡ (view_rows n m).row_count
unfolding view_rows
count_shown n m = refl

view_shown : (R : ℕ) (m : List ℕ) (s : State) → capacity m ≡ R → Sound R s → length s.rows ≤ R → view_rows (length s.rows) m ≡ s → view m ≡ s
unfolding view held_rows
view_shown R m s c h k v =
    let n = length s.rows in
    let q : le_number (cut row_count_offset number_size m) ≡ n = count_shown n m ∙ ap (λ (x : State). x.row_count) v ∙ h.counted in
    let e : min (le_number (cut row_count_offset number_size m)) (capacity m) ≡ n = rw (q, c) (omega arith) in
    ap (λ (x : ℕ). view_rows x m) e ∙ v

-- a memory that shows a sound state is its memory
pub shown_memory : (R : ℕ) (m : List ℕ) (s : State) → Bytes m → capacity m ≡ R → Sound R s → view_rows (length s.rows) m ≡ s → m ≡ memory s
shown_memory R m s b c h v =
    let n = length s.rows in
    let k : n ≤ R = few_rows R s h in
    let r : view m ≡ s = view_shown R m s c h k v in
    sym (view_memory m (head_fits m (omega (arith, c, h.space))) b) ∙ ap memory r

pub record RefusedCall (l : List ℕ) (q : Call) (n : ℕ) : Type 0 where
  pub answer : (call l q).answer ≡ Refused n
  pub memory : (call l q).memory ≡ l

pub call_refused : (l : List ℕ) (q : Call) (n : ℕ) → refusal (capacity l) (view l) (Asked q) ≡ Some n → RefusedCall l q n
unfolding lent serve gives was_refused
call_refused l q n e = record { answer = rw e; memory = rw e }

-- the number of a request's answer, lent beside the state by a lookup: the refusal's, and 0 if done
pub lent_number : (l : List ℕ) (x : Request) → refusal_of (lent l x).answer ≡ maybe (refusal (capacity l) (view l) x) 0 (λ n. n)
unfolding lent
lent_number l x = refusal_number (capacity l) (view l) x

pub record DoneCall (l : List ℕ) (q : Call) (m : List ℕ) : Type 0 where
  pub answer : (call l q).answer ≡ (perform (view l) q).answer
  pub memory : (call l q).memory ≡ m

done_answer_is : (l : List ℕ) (q : Call) → refusal (capacity l) (view l) (Asked q) ≡ None → (call l q).answer ≡ (perform (view l) q).answer
unfolding lent serve perform_request
done_answer_is l q e = rw e

done_memory_is : (l : List ℕ) (q : Call) → refusal (capacity l) (view l) (Asked q) ≡ None → (call l q).memory ≡ memory (perform (view l) q).state
unfolding lent serve perform_request
done_memory_is l q e = rw (e, done_perform (view l) q)

pub call_done : (l : List ℕ) (q : Call) (m : List ℕ) → Bytes m → length m ≡ length l → refusal (capacity l) (view l) (Asked q) ≡ None
    → view_rows (length (perform (view l) q).state.rows) m ≡ (perform (view l) q).state → DoneCall l q m
call_done l q m b z e v =
    let R = capacity l in
    let h = (perform_keeps R (view l) q (allowed R (view l) q e)).sound in
    record { answer = done_answer_is l q e; memory = done_memory_is l q e ∙ sym (shown_memory R m (perform (view l) q).state b (capacity_same l m z) h v) }

-- ---- fresh

tail_is : (l : List ℕ) → tail_of l ≡ drop (head_size + capacity l * row_size) l
unfolding view view_rows held_rows
tail_is l =
    let n = min (le_number (cut row_count_offset number_size l)) (capacity l) in
    let e : head_size + n * row_size + (capacity l - n) * row_size ≡ head_size + capacity l * row_size = omega arith in
    ap (λ (k : ℕ). drop ((capacity l - k) * row_size) (drop (head_size + n * row_size) l)) (rows_of_length n (drop head_size l)) ∙ drop-drop ((capacity l - n) * row_size) (head_size + n * row_size) l ∙ ap (λ (k : ℕ). drop k l) e

pub record FreshRefused (l : List ℕ) (m ttl : ℕ) : Type 0 where
  pub answer : (lent l (Fresh m ttl)).answer ≡ Refused 5
  pub memory : (lent l (Fresh m ttl)).memory ≡ l

pub fresh_refused : (l : List ℕ) (m ttl : ℕ) → bad_size (capacity l) m ≡ true → FreshRefused l m ttl
unfolding lent serve gives was_refused
fresh_refused l m ttl h = let e : refusal (capacity l) (view l) (Fresh m ttl) ≡ Some 5 = fresh_refusal (capacity l) m ttl (view l) ∙ rw h in record { answer = rw e; memory = rw e }

pub record FreshDone (l : List ℕ) (m ttl : ℕ) (x : List ℕ) : Type 0 where
  pub answer : (lent l (Fresh m ttl)).answer ≡ Done
  pub memory : (lent l (Fresh m ttl)).memory ≡ x

fresh_lent : (l : List ℕ) (m ttl : ℕ) → refusal (capacity l) (view l) (Fresh m ttl) ≡ None → ((lent l (Fresh m ttl)).answer ≡ Done) × ((lent l (Fresh m ttl)).memory ≡ memory (fresh (capacity l) m ttl (tail_of l)))
unfolding lent serve perform_request gives was_refused
fresh_lent l m ttl e = rw e (refl, refl)

no_rows : (R m ttl : ℕ) (tail : List ℕ) → length (fresh R m ttl tail).rows ≡ 0
unfolding fresh
no_rows R m ttl tail = refl

pub fresh_is_done : (l : List ℕ) (m ttl : ℕ) (x : List ℕ) → Bytes x → length x ≡ length l → bad_size (capacity l) m ≡ false → view_rows 0 x ≡ fresh (capacity l) m ttl (drop (head_size + capacity l * row_size) l) → FreshDone l m ttl x
fresh_is_done l m ttl x b z h v =
    let R = capacity l in
    let s = fresh R m ttl (tail_of l) in
    let e : refusal R (view l) (Fresh m ttl) ≡ None = fresh_refusal R m ttl (view l) ∙ rw h in
    let k = fresh_lent l m ttl e in
    let w : view_rows (length s.rows) x ≡ s = ap (λ (n : ℕ). view_rows n x) (no_rows R m ttl (tail_of l)) ∙ v ∙ ap (fresh R m ttl) (sym (tail_is l)) in
    record { answer = k.0; memory = k.1 ∙ sym (shown_memory R x s b (capacity_same l x z) (sound_is R s (fresh_sound R m ttl (tail_of l) h)) w) }

-- ---- a sound memory, as the code meets it: n rows that are there

pub record SoundMemory (l : List ℕ) (n : ℕ) : Type 0 where
  pub long : head_size + n * row_size ≤ length l
  pub same : view_rows n l ≡ view l
  pub few : n ≤ max_rows
  pub rows : length (view_rows n l).rows ≡ n
  pub sound : Sound (capacity l) (view_rows n l)

held_is : (l : List ℕ) → (view l).row_count ≡ length (view l).rows → (view_rows 0 l).row_count ≡ held_rows l
unfolding view view_rows
held_is l e = e ∙ rows_of_length (held_rows l) (drop head_size l)

view_is : (l : List ℕ) → view l ≡ view_rows (held_rows l) l
unfolding view
view_is l = refl

pub sound_memory : (l : List ℕ) (n : ℕ) → sound (capacity l) (view l) ≡ true → n ≡ (view_rows 0 l).row_count → SoundMemory l n
sound_memory l n h e =
    let s = sound_is (capacity l) (view l) h in
    let k : n ≡ held_rows l = e ∙ held_is l s.counted in
    let v : view_rows n l ≡ view l = ap (λ (x : ℕ). view_rows x l) k ∙ sym (view_is l) in
    let f : held_rows l ≤ capacity l = subst (λ (x : ℕ). x ≤ capacity l) (ap (λ (x : State). length x.rows) (view_is l) ∙ view_length (held_rows l) l) (few_rows (capacity l) (view l) s) in
    let g = held_fits l (head_fits l (omega (arith, s.space))) in
    record { long = rw k g; same = v; few = omega (arith, s.small); rows = view_length n l; sound = subst (Sound (capacity l)) (sym v) s }

-- number 1, as the code meets it
pub unsound_one : (l : List ℕ) (q : Call) → sound (capacity l) (view l) ≡ false → RefusedCall l q 1
unsound_one l q h = call_refused l q 1 (refused_one (capacity l) (view l) q h)
