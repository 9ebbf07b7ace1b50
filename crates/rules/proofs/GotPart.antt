-- What get hands back is the stored path: the part of the memory is the bytes of the elements that the rules answer, and no more.
use mathlib.Core.Path.{◌≡◌, refl, sym, ap, ◌∙◌, subst}
use Prim.Native.Nat.{ℕ, zero, suc, ◌+◌, ◌*◌, ◌≤◌, ◌<◌, min}
use native.Mathlib.Omega.{arith}
use mathlib.Core.List.{List, [], ◌∷◌, ◌++◌}
use Rattle.std.specs.Prelude.{Option, None, Some}
use mathlib.Core.Bool.{true, false, cond}
use lib.ListN.{length, take, drop, length-drop}
use borrow.Author.Tests.{le-ltb}
use lib.Seq.{take-add, drop-drop, length-take-le}
use Rattle.types.specs.declared.node_addr.NodeAddr.{NodeAddr}
use Rattle.types.specs.declared.coord.Path.{Path}
use Rattle.types.specs.Paths.{elements, path_places}
use Rattle.rules.specs.Cases.{Every, maybe}
use Rattle.rules.specs.Records.{Entry, Row, State}
use Rattle.rules.specs.Rows.{change_row, find, next_index, row_at, with_rows}
use Rattle.rules.specs.Sound.{sound}
use Rattle.rules.specs.Entries.{add_times, expired, last_time, refresh}
use Rattle.rules.specs.Room.{take_out}
use Rattle.rules.specs.Lookups.{get, rewrite, touched, unexpired_row, with_entry}
use Rattle.rules.specs.Calls.{Answer, Done, EntryRemoved, ExpiryGiven, Get, GetAndTouch, Hinted, KeyHeld, PathFound, Refused, RowsRemoved, StatsGiven, VerifiedDone, draws_stamps, path_given, verified_write}
use Rattle.rules.specs.Refusals.{Asked, Step, gives, perform, perform_request, reasons, refusal, serve, step}
use Rattle.rules.specs.Memory.{capacity, coord_entries_bytes, coord_entries_of, coord_entry_of, cut, entry_of, held_rows, path_of, row_of, view, view_rows}
use Rattle.rules.specs.Lent.{Bytes, Typed, call, found_part, got_part, lent, path_part}
use Rattle.rules.proofs.Addresses.{contradiction, same_ne}
use Rattle.rules.proofs.RowLists.{by_cond, by_maybe, cores, every_at, find_at, rising_unique, row_changed}
use Rattle.rules.proofs.SoundTest.{RowOk, Sound, sound_is}
use Rattle.rules.proofs.MemoryLaws.{bytes_cut, bytes_drop, bytes_take, cut_front, elem_memory, entries_cons, length_cut, no_entries}
use Rattle.rules.proofs.ViewLaws.{held_fits}
use Rattle.rules.proofs.Others.{take_out_gone}
use Rattle.rules.proofs.Refused.{allowed, refused_only_one}
use Rattle.rules.proofs.SoundKept.{step_sound}
use Rattle.rules.proofs.Sizes.{small8_less}
use Rattle.rules.proofs.Foreign.{row_of_rows, rows_of_length}
use Rattle.rules.proofs.LentMemory.{answer_is, capacity_same, head_fits, lent_request}
use Rattle.rules.specs.Layout.{coord_entry_size, entry_offset, entry_size, head_size, places_in_row, places_offset, row_size}

-- the bytes of the first n of m elements
entries_front : (n m : ℕ) (l : List ℕ) → n ≤ m → m * coord_entry_size ≤ length l → Bytes l → coord_entries_bytes (take n (coord_entries_of m l)) ≡ take (n * coord_entry_size) l
unfolding coord_entries_of
entries_front zero m l h g b = no_entries
entries_front (suc n) zero l h g b = absurd (let z : ⊥ = omega arith in z)
entries_front (suc n) (suc m) l h g b =
    let c = take coord_entry_size l in
    let k : length c ≡ coord_entry_size = length-take-le coord_entry_size l (omega arith) in
    let d : m * coord_entry_size ≤ length (drop coord_entry_size l) = rw length-drop (omega arith) in
    let e : suc n * coord_entry_size ≡ coord_entry_size + n * coord_entry_size = omega arith in
    entries_cons (coord_entry_of c) (take n (coord_entries_of m (drop coord_entry_size l)))
    ∙ ap (λ (u : List ℕ). u ++ coord_entries_bytes (take n (coord_entries_of m (drop coord_entry_size l)))) (elem_memory c (bytes_take coord_entry_size l b) k)
    ∙ ap (λ (u : List ℕ). c ++ u) (entries_front n m (drop coord_entry_size l) (omega arith) d (bytes_drop coord_entry_size l b))
    ∙ sym (take-add coord_entry_size (n * coord_entry_size) l)
    ∙ ap (λ (u : ℕ). take u l) (sym e)

-- a row's path, in the row's bytes
path_in_row : (n : ℕ) (c : List ℕ) → n ≤ path_places → length c ≡ row_size → Bytes c → coord_entries_bytes (take n (row_of c).entry.path.entries) ≡ cut places_in_row (n * coord_entry_size) c
unfolding row_of entry_of path_of
path_in_row n c h g b =
    let e = cut entry_offset entry_size c in
    let k : length e ≡ entry_size = length_cut entry_offset entry_size c (omega arith) in
    let d : path_places * coord_entry_size ≤ length (drop places_offset e) = rw length-drop (omega arith) in
    entries_front n path_places (drop places_offset e) h d (bytes_drop places_offset e (bytes_cut entry_offset entry_size c b))
    ∙ cut_front places_offset (n * coord_entry_size) entry_size (drop entry_offset c) (omega arith)
    ∙ ap (take (n * coord_entry_size)) (drop-drop places_offset entry_offset c)

-- row i's path, in the memory
path_in_memory : (i n : ℕ) (l : List ℕ) → head_size ≤ length l → Bytes l → i < length (view l).rows → n ≤ path_places → coord_entries_bytes (take n (row_at i (view l).rows).entry.path.entries) ≡ path_part i n l
unfolding view view_rows path_part
path_in_memory i n l h b j m =
    let r = held_rows l in
    let f = held_fits l h in
    let u : i < r = subst (λ (k : ℕ). i < k) (rows_of_length r (drop head_size l)) j in
    let c = cut (i * row_size) row_size (drop head_size l) in
    let g : i * row_size + row_size ≤ length (drop head_size l) = rw length-drop (omega arith) in
    let e : head_size + i * row_size + places_in_row ≡ head_size + (i * row_size + places_in_row) = omega arith in
    ap (λ (x : Row). coord_entries_bytes (take n x.entry.path.entries)) (row_of_rows r i (drop head_size l) u)
    ∙ path_in_row n c m (length_cut (i * row_size) row_size (drop head_size l) g) (bytes_cut (i * row_size) row_size (drop head_size l) (bytes_drop head_size l b))
    ∙ cut_front places_in_row (n * coord_entry_size) row_size (drop (i * row_size) (drop head_size l)) (omega arith)
    ∙ ap (take (n * coord_entry_size)) (drop-drop places_in_row (i * row_size) (drop head_size l) ∙ drop-drop (i * row_size + places_in_row) head_size l ∙ ap (λ (k : ℕ). drop k l) (sym e))

-- ---- the part is the answer

-- the bytes of the path that an answer has; none where nothing is found or the call is refused
unfoldable pub answer_bytes : Answer → List ℕ
answer_bytes (Refused n) = []
answer_bytes (Hinted p) = []
answer_bytes (VerifiedDone v) = []
answer_bytes (PathFound o) = maybe o [] coord_entries_bytes
answer_bytes (EntryRemoved o) = []
answer_bytes (KeyHeld b) = []
answer_bytes Done = []
answer_bytes (RowsRemoved n) = []
answer_bytes (StatsGiven c) = []
answer_bytes (ExpiryGiven o) = []

-- an unexpired key's row is held, and its length is legal
unexpired_row_lem : (R : ℕ) (k : NodeAddr) (now : ℕ) (s : State) (i : ℕ) → Sound R s → unexpired_row k now s ≡ Some i → (i < length s.rows) × ((row_at i s.rows).entry.path.len ≤ path_places)
unfolding unexpired_row
unexpired_row_lem R k now s i h = by_maybe (λ (o : Option ℕ). o ≡ Some i → (i < length s.rows) × ((row_at i s.rows).entry.path.len ≤ path_places)) (find k s.rows) (λ e g. contradiction {b = true} refl (cc))
    (λ j e. by_cond (λ (o : Option ℕ). o ≡ Some i → (i < length s.rows) × ((row_at i s.rows).entry.path.len ≤ path_places)) (expired now (row_at j s.rows).entry) (λ x g. contradiction {b = true} refl (cc))
    (λ x g. let z : j ≡ i = cc in let l = (find_at k s.rows j e).inside in subst (λ (n : ℕ). (n < length s.rows) × ((row_at n s.rows).entry.path.len ≤ path_places)) z (l, (every_at (RowOk s.seq) j s.rows l h.each).short)))

-- GET HANDS BACK THE STORED PATH, AS A PART OF THE MEMORY: the elements up to its length and no more
pub got_part_lem : (l : List ℕ) (k : NodeAddr) (now : ℕ) → Bytes l → got_part k now l ≡ answer_bytes (call l (Get k now)).answer
unfolding got_part found_part lent serve perform_request perform get gives answer_bytes elements
got_part_lem l k now b = go (refusal (capacity l) (view l) (Asked (Get k now))) refl
  where
    found : sound (capacity l) (view l) ≡ true → (o : Option ℕ) → unexpired_row k now (view l) ≡ o → maybe o [] (λ i. path_part i (row_at i (view l).rows).entry.path.len l) ≡ maybe (maybe o None (λ i. Some (take (row_at i (view l).rows).entry.path.len (row_at i (view l).rows).entry.path.entries))) [] coord_entries_bytes
    found h None e = refl
    found h (Some i) e =
        let s = sound_is (capacity l) (view l) h in
        let u = unexpired_row_lem (capacity l) k now (view l) i s e in
        sym (path_in_memory i (row_at i (view l).rows).entry.path.len l (head_fits l (omega (arith, s.space))) b u.0 u.1)

    go : (o : Option ℕ) → refusal (capacity l) (view l) (Asked (Get k now)) ≡ o → got_part k now l ≡ answer_bytes (call l (Get k now)).answer
    go None e = rw e (found (allowed (capacity l) (view l) (Get k now) e).sound (unexpired_row k now (view l)) refl)
    go (Some n) e = rw e

-- ---- get_and_touch hands back the part of the memory that it leaves

find_change : (k : NodeAddr) (f : Row → Row) (i : ℕ) (rs : List Row) → ((r : Row) → (f r).key ≡ r.key) → find k (change_row f i rs) ≡ find k rs
unfolding find change_row
find_change k f i [] h = refl
find_change k f zero (r ∷ rs) h = rw (h r)
find_change k f (suc i) (r ∷ rs) h = rw (find_change k f i rs h)

pub find_gone : (k : NodeAddr) (rs : List Row) → Every (λ y. y.key ≡ k → ⊥) (cores rs) → find k rs ≡ None
unfolding find next_index
find_gone k [] h = refl
find_gone k (r ∷ rs) h = rw (same_ne k r.key (λ e. h.0 (sym e)), find_gone k rs h.1)

get_none : (k : NodeAddr) (now : ℕ) (s : State) → find k s.rows ≡ None → get k now s ≡ None
unfolding get unexpired_row
get_none k now s e = rw e

get_some : (k : NodeAddr) (now : ℕ) (s : State) (i : ℕ) → find k s.rows ≡ Some i → get k now s ≡ cond (expired now (row_at i s.rows).entry) None (Some (elements (row_at i s.rows).entry.path))
unfolding get unexpired_row
get_some k now s i e = rw e (by_cond (λ (o : Option ℕ). maybe o None (λ j. Some (elements (row_at j s.rows).entry.path)) ≡ cond (expired now (row_at i s.rows).entry) None (Some (elements (row_at i s.rows).entry.path))) (expired now (row_at i s.rows).entry) (λ x. rw x) (λ x. rw x))

rewrite_rows : (f : Entry → Entry) (i : ℕ) (s : State) → (rewrite f i s).rows ≡ change_row (λ r. with_entry (f r.entry) r) i s.rows
unfolding rewrite with_rows
rewrite_rows f i s = refl

kept_key : (f : Entry → Entry) (r : Row) → (with_entry (f r.entry) r).key ≡ r.key
unfolding with_entry
kept_key f r = refl

entry_fresh : (now ttl : ℕ) (r : Row) → now ≤ last_time → expired now (with_entry (refresh now ttl r.entry) r).entry ≡ false
unfolding with_entry expired refresh add_times
entry_fresh now ttl r h = le-ltb (min (now + ttl) last_time) now (omega arith)

refreshed_path : (now ttl : ℕ) (r : Row) → (with_entry (refresh now ttl r.entry) r).entry.path ≡ r.entry.path
unfolding with_entry refresh
refreshed_path now ttl r = refl

-- a row after a refresh: its key's, unexpired, with its path
pub record RefreshedRow (k : NodeAddr) (now i : ℕ) (s d : State) : Type 0 where
  pub held : find k d.rows ≡ Some i
  pub unexpired : expired now (row_at i d.rows).entry ≡ false
  pub path : (row_at i d.rows).entry.path ≡ (row_at i s.rows).entry.path

pub refreshed_row : (k : NodeAddr) (now : ℕ) (s : State) (i : ℕ) → now ≤ last_time → find k s.rows ≡ Some i → i < length s.rows → RefreshedRow k now i s (rewrite (refresh now s.default_ttl) i s)
refreshed_row k now s i h e l =
    let f : Row → Row = λ r. with_entry (refresh now s.default_ttl r.entry) r in
    let d = rewrite (refresh now s.default_ttl) i s in
    let rs : d.rows ≡ change_row f i s.rows = rewrite_rows (refresh now s.default_ttl) i s in
    let r : row_at i d.rows ≡ f (row_at i s.rows) = ap (λ (xs : List Row). row_at i xs) rs ∙ row_changed f i s.rows l in
    record {
      held = ap (find k) rs ∙ find_change k f i s.rows (λ x. kept_key (refresh now s.default_ttl) x) ∙ e;
      unexpired = ap (λ (x : Row). expired now x.entry) r ∙ entry_fresh now s.default_ttl (row_at i s.rows) h;
      path = ap (λ (x : Row). x.entry.path) r ∙ refreshed_path now s.default_ttl (row_at i s.rows);
    }

get_refreshed : (k : NodeAddr) (now : ℕ) (s : State) (i : ℕ) → now ≤ last_time → find k s.rows ≡ Some i → i < length s.rows → expired now (row_at i s.rows).entry ≡ false → get k now (rewrite (refresh now s.default_ttl) i s) ≡ get k now s
get_refreshed k now s i h e l x =
    let d = rewrite (refresh now s.default_ttl) i s in
    let r = refreshed_row k now s i h e l in
    let a : get k now d ≡ Some (elements (row_at i d.rows).entry.path) = get_some k now d i r.held ∙ rw r.unexpired in
    let b : get k now s ≡ Some (elements (row_at i s.rows).entry.path) = get_some k now s i e ∙ rw x in
    a ∙ ap (λ (p : Path). Some (elements p)) r.path ∙ sym b

-- a touched key is found as it was, and nothing is found where nothing was
get_touched : (R : ℕ) (k : NodeAddr) (now : ℕ) (s : State) → Sound R s → now ≤ last_time → get k now (touched k now s) ≡ get k now s
unfolding touched
get_touched R k now s h l = by_maybe (λ (d : State). get k now d ≡ get k now s) (find k s.rows) (λ e. refl)
    (λ i e. let g = find_at k s.rows i e in
    by_cond (λ (d : State). get k now d ≡ get k now s) (expired now (row_at i s.rows).entry)
    (λ x. get_none k now (take_out i s) (find_gone k (take_out i s).rows (take_out_gone k i s (rising_unique (cores s.rows) h.rising) g.inside g.key)) ∙ sym (expired_none i e x))
    (λ x. get_refreshed k now s i l e g.inside x))
  where
    expired_none : (i : ℕ) → find k s.rows ≡ Some i → expired now (row_at i s.rows).entry ≡ true → get k now s ≡ None
    expired_none i e x = get_some k now s i e ∙ rw x

-- get and get_and_touch are refused alike
same_refusal : (R : ℕ) (k : NodeAddr) (now : ℕ) (s : State) → refusal R s (Asked (Get k now)) ≡ refusal R s (Asked (GetAndTouch k now))
unfolding refusal reasons path_given draws_stamps verified_write
same_refusal R k now s = refl

get_allowed : (R : ℕ) (k : NodeAddr) (now : ℕ) (s : State) → sound R s ≡ true → refusal R s (Asked (Get k now)) ≡ None
unfolding path_given draws_stamps verified_write
get_allowed R k now s h = refused_only_one R s (Get k now) h refl refl refl

get_answer : (R : ℕ) (k : NodeAddr) (now : ℕ) (s : State) → sound R s ≡ true → (step R s (Get k now)).answer ≡ PathFound (get k now s)
unfolding serve perform_request perform gives
get_answer R k now s h = rw (get_allowed R k now s h)

touch_done : (R : ℕ) (k : NodeAddr) (now : ℕ) (s : State) → refusal R s (Asked (GetAndTouch k now)) ≡ None → step R s (GetAndTouch k now) ≡ gives (PathFound (get k now s)) (touched k now s)
unfolding serve perform_request perform
touch_done R k now s e = rw e

done_state : (m : Answer) (s : State) → (gives m s).state ≡ s
unfolding gives
done_state m s = refl

done_answer : (m : Answer) (s : State) → (gives m s).answer ≡ m
unfolding gives
done_answer m s = refl

touch_refused : (R : ℕ) (k : NodeAddr) (now : ℕ) (s : State) (n : ℕ) → refusal R s (Asked (GetAndTouch k now)) ≡ Some n → (step R (step R s (GetAndTouch k now)).state (Get k now)).answer ≡ (step R s (GetAndTouch k now)).answer
unfolding serve gives
touch_refused R k now s n e = rw (e, same_refusal R k now s ∙ e)

touch_get : (R : ℕ) (k : NodeAddr) (now : ℕ) (s : State) → now ≤ last_time → (step R (step R s (GetAndTouch k now)).state (Get k now)).answer ≡ (step R s (GetAndTouch k now)).answer
touch_get R k now s l = go (refusal R s (Asked (GetAndTouch k now))) refl
  where
    go : (o : Option ℕ) → refusal R s (Asked (GetAndTouch k now)) ≡ o → (step R (step R s (GetAndTouch k now)).state (Get k now)).answer ≡ (step R s (GetAndTouch k now)).answer
    go None e =
        let a = allowed R s (GetAndTouch k now) e in
        let d : step R s (GetAndTouch k now) ≡ gives (PathFound (get k now s)) (touched k now s) = touch_done R k now s e in
        let z : (step R s (GetAndTouch k now)).state ≡ touched k now s = ap (λ (t : Step). t.state) d ∙ done_state (PathFound (get k now s)) (touched k now s) in
        let q : sound R (touched k now s) ≡ true = subst (λ (x : State). sound R x ≡ true) z (step_sound R s (GetAndTouch k now) a.sound) in
        ap (λ (x : State). (step R x (Get k now)).answer) z ∙ get_answer R k now (touched k now s) q ∙ ap PathFound (get_touched R k now s (sound_is R s a.sound) l) ∙ sym (ap (λ (t : Step). t.answer) d ∙ done_answer (PathFound (get k now s)) (touched k now s))
    go (Some n) e = touch_refused R k now s n e

-- what get_and_touch answers, get answers on the memory after it
pub got_after_touch : (l : List ℕ) (k : NodeAddr) (now : ℕ) → Bytes l → Typed (GetAndTouch k now) → (call (call l (GetAndTouch k now)).memory (Get k now)).answer ≡ (call l (GetAndTouch k now)).answer
got_after_touch l k now b g =
    let m = (call l (GetAndTouch k now)).memory in
    let c = lent_request l (Asked (GetAndTouch k now)) b g in
    let r : capacity m ≡ capacity l = capacity_same l m c.size in
    answer_is m (Asked (Get k now)) ∙ ap (λ (s : State). (step (capacity m) s (Get k now)).answer) c.state ∙ ap (λ (n : ℕ). (step n (step (capacity l) (view l) (GetAndTouch k now)).state (Get k now)).answer) r ∙ touch_get (capacity l) k now (view l) (omega (arith, small8_less now g.1)) ∙ sym (answer_is l (Asked (GetAndTouch k now)))

-- GET_AND_TOUCH HANDS BACK THE STORED PATH LIKEWISE, as a part of the memory after it
pub touched_part : (l : List ℕ) (k : NodeAddr) (now : ℕ) → Bytes l → Typed (GetAndTouch k now) → got_part k now (call l (GetAndTouch k now)).memory ≡ answer_bytes (call l (GetAndTouch k now)).answer
touched_part l k now b g =
    let m = (call l (GetAndTouch k now)).memory in
    got_part_lem m k now (lent_request l (Asked (GetAndTouch k now)) b g).bytes ∙ ap answer_bytes (got_after_touch l k now b g)
