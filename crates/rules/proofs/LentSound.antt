-- A call on a sound lent memory leaves a sound one; whether it is sound after fresh; what a call that returns nothing replies.
use mathlib.Core.Path.{◌≡◌, refl, sym, ◌∙◌, ap}
use Prim.Native.Nat.{ℕ}
use mathlib.Core.List.{List}
use Rattle.std.specs.Prelude.{None}
use mathlib.Core.Bool.{Bool, true, false, ◌||◌, or-false, or-true}
use lib.Dec.{eqb}
use Rattle.types.specs.Values.{says, refuses}
use Rattle.rules.specs.Sound.{sound}
use Rattle.rules.specs.Memory.{capacity, view}
use Rattle.rules.specs.Calls.{Call, Answer, Done, was_refused}
use Rattle.rules.specs.Refusals.{Request, Step, Fresh, Asked, bad_size, refusal, serve, gives, perform_request}
use Rattle.rules.specs.Answers.{refusal_of}
use Rattle.rules.specs.Lent.{Bytes, Small, Typed, TypedRequest, lent, call}
use Rattle.rules.specs.Commands.{reply}
use Rattle.rules.proofs.Refused.{by_serve, fresh_refusal}
use Rattle.rules.proofs.SoundKept.{step_sound}
use Rattle.rules.proofs.LentMemory.{lent_request, refused_leaves, capacity_same, freshened}
use Rattle.rules.proofs.Public.{fresh_refused, unsound_one}
use Rattle.rules.specs.Layout.{number_size}

-- ---- calls that return nothing: their number is all they say

pub number_reply : (l : List ℕ) (x : Request) → ((perform_request (capacity l) (view l) x).answer ≡ Done) → reply (lent l x).answer ≡ refuses (refusal_of (lent l x).answer)
unfolding lent gives reply refusal_of refuses says
number_reply l x d = by_serve (capacity l) (view l) x (λ (t : Step). reply t.answer ≡ refuses (refusal_of t.answer)) (λ n e. refl) (λ e. go (perform_request (capacity l) (view l) x).answer d)
  where
    go : (a : Answer) → a ≡ Done → reply a ≡ refuses (refusal_of a)
    go a e = rw e

-- ---- a sound memory stays sound

call_sound : (l : List ℕ) (q : Call) → Bytes l → Typed q → sound (capacity l) (view l) ≡ true → sound (capacity (call l q).memory) (view (call l q).memory) ≡ true
call_sound l q b g h = let o = lent_request l (Asked q) b g in rw (capacity_same l (call l q).memory o.size, o.state) (step_sound (capacity l) (view l) q h)

done_fresh_sound : (l : List ℕ) (m ttl : ℕ) → Bytes l → Small number_size m → Small number_size ttl → was_refused (lent l (Fresh m ttl)).answer ≡ false → sound (capacity (lent l (Fresh m ttl)).memory) (view (lent l (Fresh m ttl)).memory) ≡ true
done_fresh_sound l m ttl b hm ht h = let f = freshened l m ttl b hm ht h in rw (f.size, f.state) f.sound

pub lent_sound : (l : List ℕ) (x : Request) → Bytes l → TypedRequest x → sound (capacity l) (view l) ≡ true → sound (capacity (lent l x).memory) (view (lent l x).memory) ≡ true
lent_sound l (Fresh m ttl) b g h = go (was_refused (lent l (Fresh m ttl)).answer) refl
  where
    go : (r : Bool) → was_refused (lent l (Fresh m ttl)).answer ≡ r → sound (capacity (lent l (Fresh m ttl)).memory) (view (lent l (Fresh m ttl)).memory) ≡ true
    go true e = rw (refused_leaves l (Fresh m ttl) e) h
    go false e = done_fresh_sound l m ttl b g.0 g.1 e
lent_sound l (Asked q) b g h = call_sound l q b g h

pub call_same : (l : List ℕ) (q : Call) → Bytes l → Typed q → (f : Bool) → f ≡ sound (capacity l) (view l) → f ≡ sound (capacity (call l q).memory) (view (call l q).memory)
call_same l q b g true h = sym (call_sound l q b g (sym h))
call_same l q b g false h = rw (unsound_one l q (sym h)).memory h

fresh_answer : (l : List ℕ) (m ttl : ℕ) → bad_size (capacity l) m ≡ false → (lent l (Fresh m ttl)).answer ≡ Done
unfolding lent serve perform_request gives
fresh_answer l m ttl h = let e : refusal (capacity l) (view l) (Fresh m ttl) ≡ None = fresh_refusal (capacity l) m ttl (view l) ∙ rw h in rw e

pub fresh_sound : (l : List ℕ) (m ttl : ℕ) → Bytes l → Small number_size m → Small number_size ttl → (f : Bool) → f ≡ sound (capacity l) (view l) → (n : ℕ) → n ≡ refusal_of (lent l (Fresh m ttl)).answer
    → f || eqb n 0 ≡ sound (capacity (lent l (Fresh m ttl)).memory) (view (lent l (Fresh m ttl)).memory)
unfolding refusal_of was_refused
fresh_sound l m ttl b hm ht f h n e = go (bad_size (capacity l) m) refl
  where
    go : (r : Bool) → bad_size (capacity l) m ≡ r → f || eqb n 0 ≡ sound (capacity (lent l (Fresh m ttl)).memory) (view (lent l (Fresh m ttl)).memory)
    go true t =
        let k = fresh_refused l m ttl t in
        let z : n ≡ 5 = e ∙ ap refusal_of k.answer in
        rw (z, k.memory) (or-false f ∙ h)
    go false t =
        let k = fresh_answer l m ttl t in
        let z : n ≡ 0 = e ∙ ap refusal_of k in
        rw z (or-true f ∙ sym (done_fresh_sound l m ttl b hm ht (ap was_refused k)))
