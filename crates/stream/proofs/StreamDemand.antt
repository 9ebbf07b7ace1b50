-- The third demand for every byte string: from a done fresh to the end of the stream.
use mathlib.Core.Path.{◌≡◌, refl, ◌∙◌, ap, ap₂, subst}
use Prim.Native.Nat.{ℕ, zero, suc, ◌+◌, ◌*◌, ◌-◌}
use native.Mathlib.Omega.{arith}
use mathlib.Core.List.{List, [], ◌∷◌, ◌++◌}
use Rattle.std.specs.Prelude.{Option, None, Some}
use mathlib.Core.Bool.{Bool, true, false, cond}
use lib.Dec.{eqb}
use lib.ListN.{length, take, drop, replicate, length-drop, length-replicate}
use borrow.Author.Tests.{ne_eqb}
use Rattle.types.specs.declared.sender.Sender.{Sender}
use Rattle.types.specs.Senders.{new_sender}
use Rattle.types.specs.declared.reply.Reply.{Reply}
use Rattle.types.specs.Values.{refuses}
use Rattle.rules.specs.Cases.{maybe, Every}
use Rattle.rules.specs.Memory.{capacity, held_rows, view, view_rows}
use Rattle.rules.specs.Calls.{Call, was_refused}
use Rattle.rules.specs.Records.{State}
use Rattle.rules.specs.Refusals.{Asked, Fresh, Request, bad_size, fresh, gives, perform_request, refusal, serve}
use Rattle.rules.specs.Lists.{Event}
use Rattle.rules.specs.Lent.{Bytes, Small, Typed, TypedRequest, call, calls, lent, requests}
use Rattle.rules.specs.Commands.{Command, Decoded, Element, Line, Plain, WithPath, codes, coordrun, decode, line, run_commands, coordrun_rows, takes_path, Session as StateSession}
use Rattle.rules.proofs.MemoryLaws.{bytes_take}
use Rattle.rules.proofs.CommandRuns.{code_sort, codes_sorted, decoded_sort, sort}
use Rattle.rules.proofs.LentMemory.{calls_run, freshened, lent_request, refused_leaves, tail_of, third_demand_of_bytes}
use Rattle.rules.proofs.Requests.{requests_run}
use Rattle.rules.proofs.Foreign.{rows_of_length}
use Rattle.rules.proofs.Sizes.{copies_bytes, small8}
use Rattle.rules.proofs.Refused.{fresh_refusal}
use Rattle.rules.specs.Layout.{head_size, memory_size, row_size}
use Rattle.commands.specs.OnMemory.{Session, answered, session, obey, pended, refused_six}
use Rattle.commands.proofs.TypedCommands.{Fitting, SenderFits, element_fits, emptied_fits, new_fits}
use Rattle.stream.specs.declared.stop.Stop.TheVariants.{Six}
use Rattle.stream.specs.Runs.{Run, run_all, run_part}
use Rattle.stream.specs.Streams.{DemandSince, Since, asked, begun, replies_shown, replies_to, requests_from, requests_of, sender_after, serving, since, then, to_end}
use Rattle.stream.proofs.OneCommand.{obeyed_not_six}
use Rattle.stream.proofs.NothingLost.{part_done, part_done_by_six}
use Rattle.stream.proofs.OnStates.{SessionFits, decoded_fits, left_bytes, on_states, viewed}

-- ---- its requests

sender_is : (h : Session) (c : Command) → (obey h c).session.sender ≡ sender_after h.sender c
unfolding obey pended answered sender_after
sender_is h (Element e) = refl
sender_is h (WithPath f) = refl
sender_is h (Plain x) = refl

memory_is : (h : Session) (c : Command) (xs : List Request) → (requests (obey h c).session.memory xs).memory ≡ (requests h.memory (asked h.sender c ++ xs)).memory
unfolding obey pended answered asked requests
memory_is h (Element e) xs = refl
memory_is h (WithPath f) xs = refl
memory_is h (Plain x) xs = refl

-- THE MEMORY AFTER A STREAM IS THAT AFTER ITS REQUESTS
pub memory_after : (n : ℕ) (h : Session) (bs : List ℕ) → (run_all n h bs).session.memory ≡ (requests h.memory (requests_from n h.sender bs)).memory
unfolding run_all requests_from requests
memory_after zero h bs = refl
memory_after (suc n) h [] = refl
memory_after (suc n) h (b ∷ bs) = go (decode b bs) (λ k l. memory_after n k l)
  where
    go : (o : Option Decoded) → ((k : Session) (l : List ℕ) → (run_all n k l).session.memory ≡ (requests k.memory (requests_from n k.sender l)).memory)
        → (maybe {B = Run} o (record { lines = line b (refused_six b h).reply ∷ []; session = (refused_six b h).session }) (λ d. let t = obey h d.command in let later = run_all n t.session d.left in record { lines = line b t.reply ∷ later.lines; session = later.session })).session.memory
        ≡ (requests h.memory (maybe o [] (λ d. asked h.sender d.command ++ requests_from n (sender_after h.sender d.command) d.left))).memory
    go None ih = unfold refused_six in refl
    go (Some d) ih =
        let k = (obey h d.command).session in
        ih k d.left ∙ ap (λ (p : Sender). (requests k.memory (requests_from n p d.left)).memory) (sender_is h d.command) ∙ memory_is h d.command (requests_from n (sender_after h.sender d.command) d.left)

-- ---- what its lines show

is_element : Command → Bool
is_element (Element e) = true
is_element (WithPath f) = false
is_element (Plain x) = false

sort_element : (c : Command) → is_element c ≡ eqb (sort c) 0
unfolding is_element sort
sort_element (Element e) = refl
sort_element (WithPath f) = refl
sort_element (Plain x) = refl

zero_sort : (a p : Bool) → eqb (cond a 0 (cond p 1 2)) 0 ≡ a
zero_sort true p = refl
zero_sort false true = refl
zero_sort false false = refl

-- only 01 is a path element
element_code : (b : ℕ) (bs : List ℕ) (d : Decoded) → decode b bs ≡ Some d → is_element d.command ≡ eqb b 0x01
unfolding code_sort
element_code b bs d e = sort_element d.command ∙ ap (λ (n : ℕ). eqb n 0) (decoded_sort codes codes_sorted b bs d e) ∙ zero_sort (eqb b 0x01) (takes_path b)

shown : (b : ℕ) (r : Reply) (ls : List Line) → (r.refusal ≡ 6 → ⊥) → replies_shown (line b r ∷ ls) ≡ cond (eqb b 0x01) (replies_shown ls) (r ∷ replies_shown ls)
unfolding replies_shown line
shown b r ls h = rw (ne_eqb r.refusal 6 h)

replies_are : (h : Session) (c : Command) (b : ℕ) (xs : List Request) (ls : List Line) → is_element c ≡ eqb b 0x01 → replies_shown ls ≡ replies_to (requests (obey h c).session.memory xs).served
    → replies_shown (line b (obey h c).reply ∷ ls) ≡ replies_to (requests h.memory (asked h.sender c ++ xs)).served
unfolding is_element obey pended answered asked requests replies_to
replies_are h (Element e) b xs ls m ih = shown b (obey h (Element e)).reply ls (obeyed_not_six h (Element e)) ∙ rw (← m) ih
replies_are h (WithPath f) b xs ls m ih = shown b (obey h (WithPath f)).reply ls (obeyed_not_six h (WithPath f)) ∙ rw (← m) (ap (λ (rs : List Reply). (obey h (WithPath f)).reply ∷ rs) ih)
replies_are h (Plain x) b xs ls m ih = shown b (obey h (Plain x)).reply ls (obeyed_not_six h (Plain x)) ∙ rw (← m) (ap (λ (rs : List Reply). (obey h (Plain x)).reply ∷ rs) ih)

-- THE LINES SHOW THE REPLIES TO THE STREAM'S REQUESTS, each in its turn
pub replies_shown_lem : (n : ℕ) (h : Session) (bs : List ℕ) → replies_shown (run_all n h bs).lines ≡ replies_to (requests h.memory (requests_from n h.sender bs)).served
unfolding run_all requests_from requests replies_shown replies_to
replies_shown_lem zero h bs = refl
replies_shown_lem (suc n) h [] = refl
replies_shown_lem (suc n) h (b ∷ bs) = go (decode b bs) refl (λ k l. replies_shown_lem n k l)
  where
    go : (o : Option Decoded) → decode b bs ≡ o → ((k : Session) (l : List ℕ) → replies_shown (run_all n k l).lines ≡ replies_to (requests k.memory (requests_from n k.sender l)).served)
        → replies_shown (maybe {B = Run} o (record { lines = line b (refused_six b h).reply ∷ []; session = (refused_six b h).session }) (λ d. let t = obey h d.command in let later = run_all n t.session d.left in record { lines = line b t.reply ∷ later.lines; session = later.session })).lines
        ≡ replies_to (requests h.memory (maybe o [] (λ d. asked h.sender d.command ++ requests_from n (sender_after h.sender d.command) d.left))).served
    go None e ih = unfold refused_six refuses line in refl
    go (Some d) e ih =
        let k = (obey h d.command).session in
        let i = ih k d.left ∙ ap (λ (p : Sender). replies_to (requests k.memory (requests_from n p d.left)).served) (sender_is h d.command) in
        replies_are h d.command b (requests_from n (sender_after h.sender d.command) d.left) (run_all n k d.left).lines (element_code b bs d e) i

-- ---- its requests are of their types

every_join {ℓ} : {A : Type ℓ} (P : A → Type 0) (xs ys : List A) → Every P xs → Every P ys → Every P (xs ++ ys)
every_join P [] ys f g = g
every_join P (x ∷ xs) ys f g = (f.0, every_join P xs ys f.1 g)

every_split {ℓ} : {A : Type ℓ} (P : A → Type 0) (xs ys : List A) → Every P (xs ++ ys) → Every P xs × Every P ys
every_split P [] ys f = (tt, f)
every_split P (x ∷ xs) ys f = let k = every_split P xs ys f.1 in ((f.0, k.0), k.1)

asked_fits : (k : Sender) (c : Command) → SenderFits k → Fitting k c → Every TypedRequest (asked k c) × SenderFits (sender_after k c)
unfolding asked sender_after
asked_fits k (Element e) f g = (tt, element_fits k e f g)
asked_fits k (WithPath q) f g = ((g, tt), emptied_fits f)
asked_fits k (Plain x) f g = ((g, tt), f)

-- WHATEVER THE BYTES ARE, the requests that they make are of their types
pub requests_fit : (n : ℕ) (k : Sender) (bs : List ℕ) → SenderFits k → Bytes bs → Every TypedRequest (requests_from n k bs)
unfolding requests_from
requests_fit zero k bs f y = tt
requests_fit (suc n) k [] f y = tt
requests_fit (suc n) k (b ∷ bs) f y = go (decode b bs) refl (λ q l g z. requests_fit n q l g z)
  where
    go : (o : Option Decoded) → decode b bs ≡ o → ((q : Sender) (l : List ℕ) → SenderFits q → Bytes l → Every TypedRequest (requests_from n q l))
        → Every TypedRequest (maybe o [] (λ d. asked k d.command ++ requests_from n (sender_after k d.command) d.left))
    go None e ih = tt
    go (Some d) e ih =
        let a = asked_fits k d.command f (decoded_fits b bs d k e y.1 f) in
        every_join TypedRequest (asked k d.command) (requests_from n (sender_after k d.command) d.left) a.0 (ih (sender_after k d.command) d.left a.1 (left_bytes b bs d e y.1))

-- ---- since the last done fresh

-- one more call
call_last : (l : List ℕ) (qs : List Call) (q : Call) → ((calls l (qs ++ (q ∷ []))).events ≡ (calls l qs).events ++ (record { call = q; answer = (call (calls l qs).memory q).answer } ∷ [])) × ((calls l (qs ++ (q ∷ []))).memory ≡ (call (calls l qs).memory q).memory)
unfolding calls
call_last l [] q = (refl, refl)
call_last l (x ∷ qs) q = let k = call_last (call l x).memory qs q in (ap (λ (es : List Event). record { call = x; answer = (call l x).answer } ∷ es) k.0, k.1)

-- a request after a done fresh and calls since it
fresh_next : (l : List ℕ) (s : Since) (n u : ℕ) (xs : List Request)
    → (was_refused (lent l (Fresh n u)).answer ≡ true → DemandSince (since s (requests l xs).served) (requests l xs).memory)
    → (was_refused (lent l (Fresh n u)).answer ≡ false → let k = (lent l (Fresh n u)).memory in DemandSince (since (begun u) (requests k xs).served) (requests k xs).memory)
    → DemandSince (since s (requests l (Fresh n u ∷ xs)).served) (requests l (Fresh n u ∷ xs)).memory
unfolding requests since then
fresh_next l s n u xs kept anew = go (was_refused (lent l (Fresh n u)).answer) refl
  where
    go : (a : Bool) → was_refused (lent l (Fresh n u)).answer ≡ a → let k = (lent l (Fresh n u)).memory in DemandSince (since (cond a s (begun u)) (requests k xs).served) (requests k xs).memory
    go true e = rw (refused_leaves l (Fresh n u) e) (kept e)
    go false e = anew e

since_holds : (l : List ℕ) (m ttl : ℕ) (qs : List Call) (xs : List Request) → Bytes l → Small 8 m → Small 8 ttl → was_refused (lent l (Fresh m ttl)).answer ≡ false → Every Typed qs → Every TypedRequest xs
    → let c = calls (lent l (Fresh m ttl)).memory qs in DemandSince (since (record { ttl = ttl; events = c.events }) (requests c.memory xs).served) (requests c.memory xs).memory
unfolding requests since then calls
since_holds l m ttl qs [] y hm ht done g t = third_demand_of_bytes l m ttl qs y hm ht g done
since_holds l m ttl qs (Fresh n u ∷ xs) y hm ht done g t =
    let c = calls (lent l (Fresh m ttl)).memory qs in
    let z = (calls_run (lent l (Fresh m ttl)).memory qs (lent_request l (Fresh m ttl) y (hm, ht)).bytes g).bytes in
    fresh_next c.memory (record { ttl = ttl; events = c.events }) n u xs (λ e. since_holds l m ttl qs xs y hm ht done g t.1) (λ e. since_holds c.memory n u [] xs z t.0.0 t.0.1 e tt t.1)
since_holds l m ttl qs (Asked q ∷ xs) y hm ht done g t =
    let k = call_last (lent l (Fresh m ttl)).memory qs q in
    rw (k.0, k.1) at (since_holds l m ttl (qs ++ (q ∷ [])) xs y hm ht done (every_join Typed qs (q ∷ []) g (t.0, tt)) t.1)

-- THE THIRD DEMAND OF REQUESTS, fresh at any place among them: of the calls since the last done fresh
pub third_demand_of_requests : (l : List ℕ) (m ttl : ℕ) (xs : List Request) → Bytes l → Small 8 m → Small 8 ttl → Every TypedRequest xs → was_refused (lent l (Fresh m ttl)).answer ≡ false
    → let r = requests (lent l (Fresh m ttl)).memory xs in DemandSince (since (begun ttl) r.served) r.memory
unfolding calls
third_demand_of_requests l m ttl xs y hm ht g done = since_holds l m ttl [] xs y hm ht done tt g

-- ---- every byte string

-- a stream in the session after a done fresh of this ttl: it leaves the memory that its requests leave, its lines show the
-- replies to them, and the third demand holds at its end of the calls since the last done fresh
pub record FromFresh (ttl : ℕ) (h : Session) (bs : List ℕ) : Type 0 where
  pub memory : (to_end h bs).session.memory ≡ (serving h bs).memory
  pub replies : replies_shown (to_end h bs).lines ≡ replies_to (serving h bs).served
  pub demand : DemandSince (since (begun ttl) (serving h bs).served) (to_end h bs).session.memory

-- THE THIRD DEMAND FOR EVERY BYTE STRING: from a done fresh to the end of the stream, whatever the bytes are
pub third_demand_of_stream : (l : List ℕ) (m ttl : ℕ) (p : Sender) (bs : List ℕ) → Bytes l → Small 8 m → Small 8 ttl → SenderFits p → Bytes bs → was_refused (lent l (Fresh m ttl)).answer ≡ false → FromFresh ttl (session (lent l (Fresh m ttl)).memory p) bs
third_demand_of_stream l m ttl p bs y hm ht f z done =
    let h = session (lent l (Fresh m ttl)).memory p in
    let w = memory_after (length bs) h bs in
    record { memory = w; replies = replies_shown_lem (length bs) h bs; demand = rw w (third_demand_of_requests l m ttl (requests_of p bs) y hm ht (requests_fit (length bs) p bs f z) done) }

-- AND AT THE END OF EVERY PART OF A RUN: at the memory that is handed back at the end of the input, or for want of output or input
pub third_demand_of_part : (l : List ℕ) (m ttl : ℕ) (p : Sender) (last : Bool) (room : ℕ) (bs : List ℕ) → Bytes l → Small 8 m → Small 8 ttl → SenderFits p → Bytes bs → was_refused (lent l (Fresh m ttl)).answer ≡ false
    → let h = session (lent l (Fresh m ttl)).memory p in let e = run_part (length bs) last room h bs in (e.stop ≡ Six → ⊥) → DemandSince (since (begun ttl) (serving h (take e.used bs)).served) e.session.memory
third_demand_of_part l m ttl p last room bs y hm ht f z done =
    let h = session (lent l (Fresh m ttl)).memory p in
    let e = run_part (length bs) last room h bs in
    λ s. subst (λ (k : List ℕ). DemandSince (since (begun ttl) (serving h (take e.used bs)).served) k) (ap (λ (r : Run). r.session.memory) (part_done last room h bs s)) (third_demand_of_stream l m ttl p (take e.used bs) y hm ht f (bytes_take e.used bs z) done).demand

-- and after a 6: the requests of the part are then those before the 6
pub third_demand_after_six : (l : List ℕ) (m ttl : ℕ) (p : Sender) (last : Bool) (room : ℕ) (bs : List ℕ) → Bytes l → Small 8 m → Small 8 ttl → SenderFits p → Bytes bs → was_refused (lent l (Fresh m ttl)).answer ≡ false
    → let h = session (lent l (Fresh m ttl)).memory p in let e = run_part (length bs) last room h bs in e.stop ≡ Six → DemandSince (since (begun ttl) (serving h bs).served) e.session.memory
third_demand_after_six l m ttl p last room bs y hm ht f z done =
    let h = session (lent l (Fresh m ttl)).memory p in
    λ s. subst (λ (k : List ℕ). DemandSince (since (begun ttl) (serving h bs).served) k) (ap (λ (r : Run). r.session.memory) (part_done_by_six last room h bs s)) (third_demand_of_stream l m ttl p bs y hm ht f z done).demand

requests_join : (l : List ℕ) (xs ys : List Request) → (requests l (xs ++ ys)).memory ≡ (requests (requests l xs).memory ys).memory
unfolding requests
requests_join l [] ys = refl
requests_join l (x ∷ xs) ys = requests_join (lent l x).memory xs ys

-- and from any fresh that is done in a stream to its end, whatever the memory was before it
pub third_demand_after_fresh : (h : Session) (bs : List ℕ) (before after : List Request) (m ttl : ℕ) → SessionFits h → Bytes bs → requests_of h.sender bs ≡ before ++ (Fresh m ttl ∷ after)
    → let k = (requests h.memory before).memory in was_refused (lent k (Fresh m ttl)).answer ≡ false
    → DemandSince (since (begun ttl) (requests (lent k (Fresh m ttl)).memory after).served) (to_end h bs).session.memory
unfolding requests
third_demand_after_fresh h bs before after m ttl f y e done =
    let g = requests_fit (length bs) h.sender bs f.sender y in
    let t = every_split TypedRequest before (Fresh m ttl ∷ after) (subst (Every TypedRequest) e g) in
    let k = (requests h.memory before).memory in
    let z = (requests_run h.memory before f.bytes t.0).bytes in
    let w : (to_end h bs).session.memory ≡ (requests (lent k (Fresh m ttl)).memory after).memory = memory_after (length bs) h bs ∙ ap (λ (xs : List Request). (requests h.memory xs).memory) e ∙ requests_join h.memory before (Fresh m ttl ∷ after) in
    rw w (third_demand_of_requests k m ttl after z t.1.0.0 t.1.0.1 t.1.1 done)

-- ---- coordrun

empty_list : (l : List ℕ) → length l ≡ 0 → l ≡ []
empty_list [] h = refl
empty_list (x ∷ xs) h = absurd (let z : ⊥ = omega arith in z)

-- 24 rows, and nothing past them
rows_24 : (l : List ℕ) → length l ≡ memory_size coordrun_rows → capacity l ≡ coordrun_rows
unfolding capacity
rows_24 l h = rw h

no_tail : (l : List ℕ) → length l ≡ memory_size coordrun_rows → tail_of l ≡ []
unfolding view view_rows held_rows
no_tail l h = empty_list (tail_of l) (rw (length-drop ((capacity l - length (view l).rows) * row_size) (view l).rest, length-drop (head_size + held_rows l * row_size) l, rows_of_length (held_rows l) (drop head_size l), rows_24 l h) (omega arith))

fresh_24 : (l : List ℕ) → length l ≡ memory_size coordrun_rows → was_refused (lent l (Fresh 8 300000)).answer ≡ false
unfolding lent serve perform_request gives was_refused bad_size
fresh_24 l h = let e : refusal (capacity l) (view l) (Fresh 8 300000) ≡ None = fresh_refusal (capacity l) 8 300000 (view l) ∙ rw (rows_24 l h) in rw e

-- coordrun's stream on a memory of 24 rows: fresh is done, the lines are those of 01, and the third demand holds
pub record OnRows24 (l bs : List ℕ) : Type 0 where
  pub done : was_refused (lent l (Fresh 8 300000)).answer ≡ false
  pub lines : (to_end (session (lent l (Fresh 8 300000)).memory new_sender) bs).lines ≡ coordrun bs
  pub stream : FromFresh 300000 (session (lent l (Fresh 8 300000)).memory new_sender) bs

-- COORDRUN, FOR EVERY BYTE STRING, on any memory of 24 rows
pub coordrun_on_memory : (l bs : List ℕ) → length l ≡ memory_size coordrun_rows → Bytes l → Bytes bs → OnRows24 l bs
unfolding coordrun
coordrun_on_memory l bs e y z =
    let hm = small8 8 (omega arith) in
    let ht = small8 300000 (omega arith) in
    let d = fresh_24 l e in
    let h = session (lent l (Fresh 8 300000)).memory new_sender in
    let f = freshened l 8 300000 y hm ht d in
    let o = on_states (length bs) h bs (record { bytes = (lent_request l (Fresh 8 300000) y (hm, ht)).bytes; sender = new_fits }) z in
    let s : viewed h ≡ record { state = fresh coordrun_rows 8 300000 []; sender = new_sender } = ap (λ (x : State). record { state = x; sender = new_sender }) (f.state ∙ ap₂ (λ (R : ℕ) (t : List ℕ). fresh R 8 300000 t) (rows_24 l e) (no_tail l e)) in
    let w : (to_end h bs).lines ≡ coordrun bs = o.lines ∙ ap₂ (λ (R : ℕ) (x : StateSession). (run_commands (length bs) R x bs).lines) (f.size ∙ rows_24 l e) s in
    record { done = d; lines = w; stream = third_demand_of_stream l 8 300000 new_sender bs y hm ht new_fits z d }

-- as the program starts: on a memory of zeros
pub coordrun_from_zeros : (bs : List ℕ) → Bytes bs → OnRows24 (replicate (memory_size coordrun_rows) 0) bs
coordrun_from_zeros bs z = coordrun_on_memory (replicate (memory_size coordrun_rows) 0) bs (length-replicate {A = ℕ} (memory_size coordrun_rows) 0) (copies_bytes (memory_size coordrun_rows)) z
