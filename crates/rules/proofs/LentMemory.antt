-- The rules on the lent memory: every request on any memory of bytes, lists of calls, and the third demand of the bytes.
-- The hypotheses are only the widths of the arguments' types: bytes below 256, addresses of 16 of them, 32 places, numbers of 64 bits, an MTU of 16.
use mathlib.Core.Path.{◌≡◌, refl, ◌∙◌, subst}
use Prim.Native.Nat.{ℕ, ◌+◌, ◌*◌, ◌-◌, ◌≤◌}
use native.Mathlib.Omega.{arith}
use mathlib.Core.List.{List, [], ◌∷◌}
use mathlib.Core.Bool.{Bool, true, false, cond, ◌||◌}
use lib.Dec.{ltb}
use lib.ListN.{length, drop, length-drop}
use borrow.Author.Tests.{ltb-false}
use Rattle.rules.specs.Cases.{Every}
use Rattle.rules.specs.Records.{State, probation_bound, max_rows}
use Rattle.rules.specs.Sound.{sound}
use Rattle.rules.specs.Calls.{Call, Clear, ClearPathMtu, Demote, Get, GetAndTouch, Insert, InsertFunded, InsertStated, InsertVerified, InsertVerifiedWithPathMtu, InsertWithTtl, InvalidateOtherRoots, InvalidateViaNode, NextExpiry, PurgeExpired, Refused, Remove, Stats, was_refused}
use Rattle.rules.specs.Refusals.{Asked, Fresh, Request, Step, bad_size, fresh, gives, perform, perform_request, serve, step}
use Rattle.rules.specs.Lists.{run}
use Rattle.rules.specs.Demand.{ThirdDemand}
use Rattle.rules.specs.Memory.{capacity, held_rows, memory, view, view_rows}
use Rattle.rules.specs.Lent.{Bytes, Small, Typed, TypedRequest, call, calls, lent}
use Rattle.rules.proofs.Addresses.{contradiction}
use Rattle.rules.proofs.SoundTest.{sound_is}
use Rattle.rules.proofs.MemoryLaws.{bytes_drop}
use Rattle.rules.proofs.ViewLaws.{Fits, memory_length, memory_view, view_memory}
use Rattle.rules.proofs.Refused.{by_serve, by_step, done_perform, fresh_allowed, given_exactly}
use Rattle.rules.proofs.SoundKept.{fresh_sound, step_sound}
use Rattle.rules.proofs.ThirdDemand.{third_demand}
use Rattle.rules.proofs.Fitting.{fresh_fits, step_fits}
use Rattle.rules.proofs.Foreign.{memory_bytes, rows_of_length, view_fits}
use Rattle.rules.specs.Layout.{head_size, number_size, row_size}

-- ---- one request

-- what a step leaves in memory: bytes, as many, and the view is the step's state
abbrev Leaves : List ℕ → Step → Type 0
Leaves l t = let m = cond (was_refused t.answer) l (memory t.state) in Bytes m × (length m ≡ length l) × (view m ≡ t.state)

leaves_done : (l : List ℕ) (t : Step) → was_refused t.answer ≡ false → Fits (length l) t.state → Leaves l t
leaves_done l t e f = rw e (memory_bytes (length l) t.state f, memory_length (length l) t.state f, memory_view (length l) t.state f)

-- the rows of a sound state, and so its head, are in the memory
pub head_fits : (l : List ℕ) → 1 ≤ capacity l → head_size ≤ length l
unfolding capacity
head_fits l h = omega arith

rows_fit : (l : List ℕ) → capacity l * row_size ≤ length l - head_size
unfolding capacity
rows_fit l = omega arith

pub sound_fits : (l : List ℕ) → Bytes l → sound (capacity l) (view l) ≡ true → Fits (length l) (view l)
sound_fits l b h = let s = sound_is (capacity l) (view l) h in view_fits l (head_fits l (omega (arith, s.space))) b s.counted

call_leaves : (l : List ℕ) (q : Call) → Bytes l → Typed q → Leaves l (step (capacity l) (view l) q)
unfolding gives was_refused
call_leaves l q b g = by_step (capacity l) (view l) q (λ (t : Step). (sound (capacity l) (view l) ≡ true → Fits (length l) t.state) → Leaves l t) (λ n f. (b, refl, refl)) (λ o f. leaves_done l (perform (view l) q) (done_perform (view l) q) (f o.sound))
    (λ h. let s = sound_is (capacity l) (view l) h in step_fits (capacity l) (length l) (view l) q (head_fits l (omega (arith, s.space))) (rows_fit l) g (sound_fits l b h))

-- what stays past the R rows
abbrev pub tail_of : List ℕ → List ℕ
tail_of l = drop ((capacity l - length (view l).rows) * row_size) (view l).rest

tail_bytes : (l : List ℕ) → Bytes l → Bytes (tail_of l)
unfolding view view_rows
tail_bytes l b = bytes_drop ((capacity l - length (view l).rows) * row_size) (view l).rest (bytes_drop (head_size + held_rows l * row_size) l b)

fresh_size_lem : (l : List ℕ) → head_size ≤ length l → head_size + capacity l * row_size + length (tail_of l) ≡ length l
unfolding view view_rows held_rows capacity
fresh_size_lem l h = rw (length-drop ((capacity l - length (view l).rows) * row_size) (view l).rest, length-drop (head_size + held_rows l * row_size) l, rows_of_length (held_rows l) (drop head_size l)) (omega arith)

pub size_allowed : (R m : ℕ) → bad_size R m ≡ false → m + probation_bound m ≤ R
unfolding bad_size
size_allowed R m h = go (ltb max_rows R) (ltb R (m + probation_bound m)) refl h
  where
    go : (a b : Bool) → ltb R (m + probation_bound m) ≡ b → a || b ≡ false → m + probation_bound m ≤ R
    go true b e g = contradiction {b = true} refl g
    go false true e g = contradiction {b = true} refl g
    go false false e g = omega (arith, ltb-false R (m + probation_bound m) e)

fresh_leaves : (l : List ℕ) (m ttl : ℕ) → Bytes l → Small number_size m → Small number_size ttl → Leaves l (serve (capacity l) (view l) (Fresh m ttl))
unfolding gives was_refused perform_request
fresh_leaves l m ttl b hm ht = by_serve (capacity l) (view l) (Fresh m ttl) (Leaves l) (λ n e. (b, refl, refl))
    (λ e. let h = head_fits l (omega (arith, size_allowed (capacity l) m (fresh_allowed (capacity l) m ttl (view l) e))) in
    leaves_done l (perform_request (capacity l) (view l) (Fresh m ttl)) refl (subst (λ (L : ℕ). Fits L (fresh (capacity l) m ttl (tail_of l))) (fresh_size_lem l h) (fresh_fits (capacity l) m ttl (tail_of l) hm ht (tail_bytes l b))))

pub record OnBytes (l : List ℕ) (x : Request) : Type 0 where
  pub bytes : Bytes (lent l x).memory
  pub size : length (lent l x).memory ≡ length l
  pub state : view (lent l x).memory ≡ (serve (capacity l) (view l) x).state

-- EVERY REQUEST, ON ANY MEMORY OF BYTES, foreign ones too, leaves bytes, as many, whose view is the state by the rules
pub lent_request : (l : List ℕ) (x : Request) → Bytes l → TypedRequest x → OnBytes l x
unfolding lent
lent_request l (Fresh m ttl) b g = let k = fresh_leaves l m ttl b g.0 g.1 in record { bytes = k.0; size = k.1; state = k.2 }
lent_request l (Asked q) b g = let k = call_leaves l q b g in record { bytes = k.0; size = k.1; state = k.2 }

-- A REFUSED REQUEST LEAVES THE BYTES
pub refused_leaves : (l : List ℕ) (x : Request) → was_refused (lent l x).answer ≡ true → (lent l x).memory ≡ l
unfolding lent
refused_leaves l x h = rw h

-- the calls that only read
unfoldable pub reads : Call → Bool
reads (Insert k p t) = false
reads (InsertWithTtl k p t l) = false
reads (InsertFunded k p t f) = false
reads (InsertStated k p t f) = false
reads (InsertVerified k p t) = false
reads (InsertVerifiedWithPathMtu k p t m) = false
reads (Get k t) = true
reads (GetAndTouch k t) = false
reads (Remove k) = false
reads (Demote k) = false
reads (ClearPathMtu k) = false
reads (PurgeExpired t) = false
reads Clear = false
reads (InvalidateViaNode a) = false
reads (InvalidateOtherRoots a) = false
reads (Stats t) = true
reads NextExpiry = true

reads_same : (s : State) (q : Call) → reads q ≡ true → (perform s q).state ≡ s
unfolding reads perform gives
reads_same s (Insert k p t) h = contradiction {b = false} h refl
reads_same s (InsertWithTtl k p t l) h = contradiction {b = false} h refl
reads_same s (InsertFunded k p t f) h = contradiction {b = false} h refl
reads_same s (InsertStated k p t f) h = contradiction {b = false} h refl
reads_same s (InsertVerified k p t) h = contradiction {b = false} h refl
reads_same s (InsertVerifiedWithPathMtu k p t m) h = contradiction {b = false} h refl
reads_same s (Get k t) h = refl
reads_same s (GetAndTouch k t) h = contradiction {b = false} h refl
reads_same s (Remove k) h = contradiction {b = false} h refl
reads_same s (Demote k) h = contradiction {b = false} h refl
reads_same s (ClearPathMtu k) h = contradiction {b = false} h refl
reads_same s (PurgeExpired t) h = contradiction {b = false} h refl
reads_same s Clear h = contradiction {b = false} h refl
reads_same s (InvalidateViaNode a) h = contradiction {b = false} h refl
reads_same s (InvalidateOtherRoots a) h = contradiction {b = false} h refl
reads_same s (Stats t) h = refl
reads_same s NextExpiry h = refl

-- A READ LEAVES THE BYTES, done or refused
pub read_leaves : (l : List ℕ) (q : Call) → Bytes l → reads q ≡ true → (call l q).memory ≡ l
unfolding lent gives was_refused
read_leaves l q b h = by_step (capacity l) (view l) q (λ (t : Step). cond (was_refused t.answer) l (memory t.state) ≡ l) (λ n. refl)
    (λ o. let s = sound_is (capacity l) (view l) o.sound in rw (done_perform (view l) q, reads_same (view l) q h) (view_memory l (head_fits l (omega (arith, s.space))) b))

-- ---- lists of calls

pub capacity_same : (l m : List ℕ) → length m ≡ length l → capacity m ≡ capacity l
unfolding capacity
capacity_same l m h = rw h

pub record OnBytesRun (l : List ℕ) (qs : List Call) : Type 0 where
  pub bytes : Bytes (calls l qs).memory
  pub size : length (calls l qs).memory ≡ length l
  pub events : (calls l qs).events ≡ (run (capacity l) (view l) qs).events
  pub state : view (calls l qs).memory ≡ (run (capacity l) (view l) qs).state

pub answer_is : (l : List ℕ) (x : Request) → (lent l x).answer ≡ (serve (capacity l) (view l) x).answer
unfolding lent
answer_is l x = refl

-- LISTS OF CALLS RUN ON MEMORY AS THEY RUN ON STATES, from any memory of bytes
pub calls_run : (l : List ℕ) (qs : List Call) → Bytes l → Every Typed qs → OnBytesRun l qs
unfolding calls run
calls_run l [] b g = record { bytes = b; size = refl; events = refl; state = refl }
calls_run l (q ∷ qs) b g =
    let R = capacity l in
    let c = lent_request l (Asked q) b g.0 in
    let m = (call l q).memory in
    let k = calls_run m qs c.bytes g.1 in
    let r : capacity m ≡ R = capacity_same l m c.size in
    let e : (calls m qs).events ≡ (run R (step R (view l) q).state qs).events = subst (λ (n : ℕ). (calls m qs).events ≡ (run n (step R (view l) q).state qs).events) r (subst (λ (s : State). (calls m qs).events ≡ (run (capacity m) s qs).events) c.state k.events) in
    let s : view (calls m qs).memory ≡ (run R (step R (view l) q).state qs).state = subst (λ (n : ℕ). view (calls m qs).memory ≡ (run n (step R (view l) q).state qs).state) r (subst (λ (s : State). view (calls m qs).memory ≡ (run (capacity m) s qs).state) c.state k.state) in
    record { bytes = k.bytes; size = k.size ∙ c.size; events = cc (answer_is l (Asked q), e); state = s }

-- ---- from a done fresh

fresh_done : (l : List ℕ) (m ttl : ℕ) → was_refused (lent l (Fresh m ttl)).answer ≡ false → (bad_size (capacity l) m ≡ false) × ((serve (capacity l) (view l) (Fresh m ttl)).state ≡ fresh (capacity l) m ttl (tail_of l))
unfolding lent gives was_refused perform_request
fresh_done l m ttl = by_serve (capacity l) (view l) (Fresh m ttl) (λ (t : Step). was_refused t.answer ≡ false → (bad_size (capacity l) m ≡ false) × (t.state ≡ fresh (capacity l) m ttl (tail_of l)))
    (λ n e h. contradiction {b = true} refl h) (λ e h. (fresh_allowed (capacity l) m ttl (view l) e, refl))

-- the memory after a done fresh is that of a fresh state
pub record Freshened (l : List ℕ) (m ttl : ℕ) : Type 0 where
  pub size : capacity (lent l (Fresh m ttl)).memory ≡ capacity l
  pub sound : sound (capacity l) (fresh (capacity l) m ttl (tail_of l)) ≡ true
  pub state : view (lent l (Fresh m ttl)).memory ≡ fresh (capacity l) m ttl (tail_of l)

pub freshened : (l : List ℕ) (m ttl : ℕ) → Bytes l → Small number_size m → Small number_size ttl → was_refused (lent l (Fresh m ttl)).answer ≡ false → Freshened l m ttl
freshened l m ttl b hm ht h =
    let c = lent_request l (Fresh m ttl) b (hm, ht) in
    let f = fresh_done l m ttl h in
    record { size = capacity_same l (lent l (Fresh m ttl)).memory c.size; sound = fresh_sound (capacity l) m ttl (tail_of l) f.0; state = c.state ∙ f.1 }

never_one : (R : ℕ) (s : State) (qs : List Call) → sound R s ≡ true → Every (λ e. e.answer ≡ Refused 1 → ⊥) (run R s qs).events
unfolding run
never_one R s [] h = tt
never_one R s (q ∷ qs) h = (λ e. let z = (given_exactly R s q).one.0 e in contradiction h z, never_one R (step R s q).state qs (step_sound R s q h))

-- AFTER A DONE FRESH NO CALL IS REFUSED BY 1
pub fresh_never_one : (l : List ℕ) (m ttl : ℕ) (qs : List Call) → Bytes l → Small number_size m → Small number_size ttl → Every Typed qs → was_refused (lent l (Fresh m ttl)).answer ≡ false → Every (λ e. e.answer ≡ Refused 1 → ⊥) (calls (lent l (Fresh m ttl)).memory qs).events
fresh_never_one l m ttl qs b hm ht g h =
    let f = freshened l m ttl b hm ht h in
    let k = calls_run (lent l (Fresh m ttl)).memory qs (lent_request l (Fresh m ttl) b (hm, ht)).bytes g in
    rw (k.events, f.size, f.state) (never_one (capacity l) (fresh (capacity l) m ttl (tail_of l)) qs f.sound)

-- THE THIRD DEMAND OF THE BYTES: for every list of calls, from any memory of bytes on which fresh was done
pub third_demand_of_bytes : (l : List ℕ) (m ttl : ℕ) (qs : List Call) → Bytes l → Small number_size m → Small number_size ttl → Every Typed qs → was_refused (lent l (Fresh m ttl)).answer ≡ false
    → let r = calls (lent l (Fresh m ttl)).memory qs in ThirdDemand ttl r.events (view r.memory).stored_weight (view r.memory).rows
third_demand_of_bytes l m ttl qs b hm ht g h =
    let f = freshened l m ttl b hm ht h in
    let k = calls_run (lent l (Fresh m ttl)).memory qs (lent_request l (Fresh m ttl) b (hm, ht)).bytes g in
    rw (k.events, k.state, f.size, f.state) (third_demand (capacity l) m ttl (tail_of l) qs)
