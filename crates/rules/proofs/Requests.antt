-- Lists of requests on the lent memory, fresh among them; and on the bytes, protection from any sound memory on.
use Prim.Native.Nat.{ℕ, ◌≤◌}
use mathlib.Core.Path.{◌≡◌, refl, ◌∙◌, subst}
use mathlib.Core.List.{List, [], ◌∷◌}
use Rattle.std.specs.Prelude.{Some}
use mathlib.Core.Bool.{true, false}
use lib.ListN.{length}
use Rattle.rules.specs.Cases.{Every}
use Rattle.rules.specs.Records.{State}
use Rattle.rules.specs.Sound.{sound}
use Rattle.rules.specs.Entries.{last_time}
use Rattle.rules.specs.Calls.{Call, VerifiedWrite, verified_write, was_refused}
use Rattle.rules.specs.Refusals.{Asked, Request, Step, gives, serve, step}
use Rattle.rules.specs.Lists.{serve_all}
use Rattle.rules.specs.Demand.{KeepsPlace, must_spare}
use Rattle.rules.specs.Memory.{capacity, view}
use Rattle.rules.specs.Lent.{Bytes, Typed, TypedRequest, call, calls, lent, requests}
use Rattle.rules.proofs.Addresses.{contradiction}
use Rattle.rules.proofs.Refused.{by_step}
use Rattle.rules.proofs.ThirdDemand.{kept_after}
use Rattle.rules.proofs.Incident.{WriteBeside, second_write_spares_the_first}
use Rattle.rules.proofs.LentMemory.{answer_is, calls_run, capacity_same, lent_request}

-- ---- lists of requests

pub record OnBytesServing (l : List ℕ) (xs : List Request) : Type 0 where
  pub bytes : Bytes (requests l xs).memory
  pub size : length (requests l xs).memory ≡ length l
  pub served : (requests l xs).served ≡ (serve_all (capacity l) (view l) xs).served
  pub state : view (requests l xs).memory ≡ (serve_all (capacity l) (view l) xs).state

-- LISTS OF REQUESTS RUN ON MEMORY AS THEY RUN ON STATES, fresh at any place among them, from any memory of bytes
pub requests_run : (l : List ℕ) (xs : List Request) → Bytes l → Every TypedRequest xs → OnBytesServing l xs
unfolding requests serve_all
requests_run l [] b g = record { bytes = b; size = refl; served = refl; state = refl }
requests_run l (x ∷ xs) b g =
    let R = capacity l in
    let c = lent_request l x b g.0 in
    let m = (lent l x).memory in
    let k = requests_run m xs c.bytes g.1 in
    let r : capacity m ≡ R = capacity_same l m c.size in
    let e : (requests m xs).served ≡ (serve_all R (serve R (view l) x).state xs).served = subst (λ (n : ℕ). (requests m xs).served ≡ (serve_all n (serve R (view l) x).state xs).served) r (subst (λ (s : State). (requests m xs).served ≡ (serve_all (capacity m) s xs).served) c.state k.served) in
    let s : view (requests m xs).memory ≡ (serve_all R (serve R (view l) x).state xs).state = subst (λ (n : ℕ). view (requests m xs).memory ≡ (serve_all n (serve R (view l) x).state xs).state) r (subst (λ (s : State). view (requests m xs).memory ≡ (serve_all (capacity m) s xs).state) c.state k.state) in
    record { bytes = k.bytes; size = k.size ∙ c.size; served = cc (answer_is l x, e); state = s }

-- ---- protection on the bytes

done_sound : (R : ℕ) (s : State) (q : Call) → was_refused (step R s q).answer ≡ false → sound R s ≡ true
unfolding gives was_refused
done_sound R s q = by_step R s q (λ (t : Step). was_refused t.answer ≡ false → sound R s ≡ true) (λ n h. contradiction {b = true} refl h) (λ a h. a.sound)

-- a done verified insert keeps its place in the memory while every later event must spare it, from any memory of bytes on
pub kept_on_bytes : (l : List ℕ) (q : Call) (v : VerifiedWrite) (qs : List Call) → Bytes l → Typed q → Every Typed qs → verified_write q ≡ Some v → was_refused (call l q).answer ≡ false
    → let r = calls (call l q).memory qs in Every (λ e. must_spare (view l).default_ttl v e ≡ true) r.events → KeepsPlace (view l).default_ttl v (view r.memory).rows
unfolding lent
kept_on_bytes l q v qs b g gs w h =
    let R = capacity l in
    let c = lent_request l (Asked q) b g in
    let k = calls_run (call l q).memory qs c.bytes gs in
    let r = capacity_same l (call l q).memory c.size in
    rw (k.events, k.state, r, c.state) (λ spared. kept_after R (view l) q v qs (done_sound R (view l) q h) w h spared)

-- THE INCIDENT CANNOT HAPPEN ON THE BYTES
pub second_write_on_bytes : (l : List ℕ) (q : Call) (v : VerifiedWrite) (qs : List Call) → Bytes l → Typed q → Every Typed qs → verified_write q ≡ Some v → v.time ≤ last_time
    → was_refused (call l q).answer ≡ false → Every (WriteBeside v) qs → KeepsPlace (view l).default_ttl v (view (calls (call l q).memory qs).memory).rows
unfolding lent
second_write_on_bytes l q v qs b g gs w t h beside =
    let R = capacity l in
    let c = lent_request l (Asked q) b g in
    let k = calls_run (call l q).memory qs c.bytes gs in
    let r = capacity_same l (call l q).memory c.size in
    rw (k.state, r, c.state) (second_write_spares_the_first R (view l) q v qs (done_sound R (view l) q h) w t h beside)
