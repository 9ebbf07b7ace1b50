-- A row that is refreshed, or leaves where it is expired, is what get_and_touch leaves.
use mathlib.Core.Path.{◌≡◌, refl, sym, ap, ◌∙◌}
use Prim.Native.Nat.{ℕ}
use mathlib.Core.List.{List}
use Rattle.std.specs.Prelude.{Option, None, Some, option_map, Result, Ok, Err, IsErrAnd}
use mathlib.Core.Bool.{Bool, true, false, cond}
use lib.ListN.{length}
use Rattle.types.specs.declared.node_addr.NodeAddr.{NodeAddr}
use Rattle.types.specs.declared.coord.CoordEntry.{CoordEntry}
use Rattle.types.specs.Paths.{elements}
use Rattle.types.specs.declared.refusal.Refusal.{Refusal}
use Rattle.types.specs.declared.refusal.Refusal.TheVariants.{UnsoundState}
use Rattle.types.specs.Values.{refusal_code, says, refuses}
use Rattle.rules.specs.Cases.{maybe}
use Rattle.rules.specs.Records.{State, with_times}
use Rattle.rules.specs.Rows.{row_at, find}
use Rattle.rules.specs.Sound.{sound}
use Rattle.rules.specs.Entries.{add_times, expired, refresh}
use Rattle.rules.specs.Room.{take_out}
use Rattle.rules.specs.Lookups.{rewrite, unexpired_row, get, touched}
use Rattle.rules.specs.Calls.{Refused, PathFound, GetAndTouch, path_given, verified_write, draws_stamps}
use Rattle.rules.specs.Refusals.{refusal, Asked, perform_request, perform, gives, serve}
use Rattle.rules.specs.Answers.{numbered, refusal_of, touch_answer, touch_reply}
use Rattle.rules.specs.Commands.{reply}
use Rattle.rules.specs.Memory.{capacity, view_rows, view}
use Rattle.rules.specs.Lent.{Bytes, lent, call}
use Rattle.refusals.proofs.RefusalsSaid.{one_said, err_is, unsound_kept}
use Rattle.memory.proofs.RowLaws.{view_length}
use Rattle.memory.proofs.Fields.{row_at_lem}
use Rattle.entries.proofs.PathElements.{elements_length}
use Rattle.refusals.proofs.SoundCalls.{Answered, done_rows, not_refused}
use Rattle.refusals.proofs.SearchedKeys.{Found, inside}
use Rattle.lookups.proofs.FoundRows.{path_short}
use Rattle.lookups.specs.Steps.{touched_at, touch_says}

-- ---- row i

-- a view of n rows is one of all its rows
all_shown : (n : ℕ) (m : List ℕ) (s : State) → view_rows n m ≡ s → view_rows (length s.rows) m ≡ s
all_shown n m s e = ap (λ (j : ℕ). view_rows j m) (ap (λ (x : State). length x.rows) (sym e) ∙ view_length n m) ∙ e

-- what a touch of row i tells, and leaves in memory m
abbrev pub Touched : List ℕ → ℕ → ℕ → ℕ → Option ℕ → List ℕ → Type 0
Touched l n i time r m = (r ≡ touch_says i time (view_rows n l)) × (view_rows (length (touched_at i time (view_rows n l)).rows) m ≡ touched_at i time (view_rows n l))

module _ (i time : ℕ) (s : State) where
  pub says_none : expired time (row_at i s.rows).entry ≡ true → None ≡ touch_says i time s
  unfolding touch_says
  says_none x = rw x

  pub says_length : (len : ℕ) → expired time (row_at i s.rows).entry ≡ false → len ≡ (row_at i s.rows).entry.path.len → Some len ≡ touch_says i time s
  unfolding touch_says
  says_length len x e = rw x (ap Some e)

  pub left_out : (n : ℕ) (m : List ℕ) → expired time (row_at i s.rows).entry ≡ true → view_rows n m ≡ take_out i s
      → view_rows (length (touched_at i time s).rows) m ≡ touched_at i time s
  unfolding touched_at
  left_out n m x v = rw x (all_shown n m _ v)

  pub left_kept : (n : ℕ) (m : List ℕ) → expired time (row_at i s.rows).entry ≡ false → view_rows n m ≡ rewrite (refresh time s.default_ttl) i s
      → view_rows (length (touched_at i time s).rows) m ≡ touched_at i time s
  unfolding touched_at
  left_kept n m x v = rw x (all_shown n m _ v)

pub ruleset touched_row = (says_none, says_length, left_out, left_kept)

-- ---- the call

touch_says_lem : (k : NodeAddr) (time : ℕ) (s : State) (i : ℕ) → find k s.rows ≡ Some i → length (elements (row_at i s.rows).entry.path) ≡ (row_at i s.rows).entry.path.len
    → touch_answer (perform s (GetAndTouch k time)).answer ≡ Ok (touch_says i time s)
unfolding perform gives get unexpired_row touch_answer touch_says
touch_says_lem k time s i e f = rw e (go (expired time (row_at i s.rows).entry))
  where
    go : (b : Bool) → ◌≡◌ {A = Result (Option ℕ) ℕ} (Ok (option_map length (maybe (cond b None (Some i)) None (λ j. Some (elements (row_at j s.rows).entry.path)))))
        (Ok (cond b None (Some (row_at i s.rows).entry.path.len)))
    go true = refl
    go false = ap (λ (n : ℕ). Ok (Some n)) f

touch_allowed : (l : List ℕ) (k : NodeAddr) (time : ℕ) → sound (capacity l) (view l) ≡ true → refusal (capacity l) (view l) (Asked (GetAndTouch k time)) ≡ None
unfolding path_given verified_write draws_stamps
touch_allowed l k time h = not_refused l (GetAndTouch k time) h refl refl refl

-- what touch tells: 01's number and values, the rules' answer, the memory
pub record Told (l : List ℕ) (k : NodeAddr) (time : ℕ) (r : Result (Option ℕ) Refusal) (m : List ℕ) : Type 0 where
  pub replied : touch_reply r ≡ reply (call l (GetAndTouch k time)).answer
  pub answered : numbered r ≡ touch_answer (call l (GetAndTouch k time)).answer
  pub left : m ≡ (call l (GetAndTouch k time)).memory

-- what touch tells of an answer is said by the number and the values that the rules give for it
replied : (R : ℕ) (s : State) (k : NodeAddr) (time : ℕ) (r : Result (Option ℕ) Refusal) → numbered r ≡ touch_answer (serve R s (Asked (GetAndTouch k time))).answer
    → touch_reply r ≡ reply (serve R s (Asked (GetAndTouch k time))).answer
unfolding serve perform_request perform gives touch_reply touch_answer reply
replied R s k time r e = go r (refusal R s (Asked (GetAndTouch k time))) (get k time s) e
  where
    go : (r : Result (Option ℕ) Refusal) (o : Option ℕ) (p : Option (List CoordEntry)) → numbered r ≡ touch_answer (maybe o (gives (PathFound p) (touched k time s)) (λ n. gives (Refused n) s)).answer
        → touch_reply r ≡ reply (maybe o (gives (PathFound p) (touched k time s)) (λ n. gives (Refused n) s)).answer
    go (Ok None) None None h = refl
    go (Ok None) None (Some es) h = absurd (cc)
    go (Ok (Some n)) None None h = absurd (cc)
    go (Ok (Some n)) None (Some es) h = let e : n ≡ length es = cc in ap (λ (x : ℕ). says 1 x 0 0 0) e
    go (Ok v) (Some n) p h = absurd (cc)
    go (Err x) None p h = absurd (cc)
    go (Err x) (Some n) p h = let e : refusal_code x ≡ n = cc in ap refuses e

told : (l : List ℕ) (k : NodeAddr) (time : ℕ) (r : Result (Option ℕ) Refusal) (m : List ℕ) → numbered r ≡ touch_answer (call l (GetAndTouch k time)).answer → m ≡ (call l (GetAndTouch k time)).memory → Told l k time r m
unfolding lent
told l k time r m e v = record { replied = replied (capacity l) (view l) k time r e; answered = e; left = v }

module _ {k : NodeAddr} {n : ℕ} {l : List ℕ} (time : ℕ) where
  touch_done : {o : Option ℕ} → Found k n o l → (m : List ℕ) (j : ℕ) → Bytes m → length m ≡ length l
      → view_rows j m ≡ (perform (view_rows n l) (GetAndTouch k time)).state → Answered l n (GetAndTouch k time) m
  touch_done f m j b z v = done_rows f.memory (GetAndTouch k time) m j (touch_allowed l k time f.sound) b z v

  pub touched_at_lem : {i : ℕ} → Found k n (Some i) l → (r : Option ℕ) (m : List ℕ) → Bytes m → length m ≡ length l → Touched l n i time r m → Told l k time (Ok r) m
  unfolding perform gives touched touched_at
  touched_at_lem {i} f r m b z v =
      let d = touch_done f m (length (touched_at i time (view_rows n l)).rows) b z (rw f.row v.1) in
      let a = touch_says_lem k time (view_rows n l) i f.row (elements_length _ _ (sym (row_at_lem n i l (inside f))) (path_short f)) in
      told l k time (Ok r) m (ap (λ (x : Option ℕ). Ok x) v.0 ∙ sym a ∙ ap touch_answer d.answer) d.memory

  pub touched_absent : Found k n None l → Bytes l → Told l k time (Ok None) l
  unfolding perform gives touched get unexpired_row touch_answer
  touched_absent f b =
      let d = touch_done f l n b refl (rw f.row) in
      told l k time (Ok None) l (rw f.row at (ap touch_answer d.answer)) d.memory

-- a touch that is done: number 0
pub touch_zero : (l : List ℕ) (k : NodeAddr) (time : ℕ) → sound (capacity l) (view l) ≡ true → 0 ≡ refusal_of (call l (GetAndTouch k time)).answer
unfolding lent serve perform_request perform gives refusal_of
touch_zero l k time h = rw (touch_allowed l k time h)

-- ---- refresh

pub refreshed : (i time ttl : ℕ) (s : State) → rewrite (with_times time (add_times time ttl)) i s ≡ rewrite (refresh time ttl) i s
unfolding rewrite refresh
refreshed i time ttl s = refl

-- ---- number 1

pub one_touched : (l : List ℕ) (k : NodeAddr) (time : ℕ) {a : Result (Unit {0}) Refusal} {x : Refusal} (r : Result (Option ℕ) Refusal)
    → a ≡ cond (sound (capacity l) (view l)) (Ok tt) (Err UnsoundState) → a ≡ Err x → IsErrAnd r (λ y. y ≡ x) → Told l k time r l
unfolding touch_answer
one_touched l k time (Ok v) e h w = absurd w
one_touched l k time (Err y) e h w =
    let u = one_said l e (GetAndTouch k time) (h ∙ ap (λ (z : Refusal). Err z) (sym w)) in
    told l k time (Err y) l (ap touch_answer u.0) u.1

-- `one_touched`, an equation each, of the refusal that `check_sound` gives
module _ (l : List ℕ) (k : NodeAddr) (time : ℕ) {x : Refusal} {r : Result (Option ℕ) Refusal}
    (e : ◌≡◌ {A = Result (Unit {0}) Refusal} (Err x) (cond (sound (capacity l) (view l)) (Ok tt) (Err UnsoundState))) (w : r ≡ Err x) where
  pub unsound_replied : touch_reply r ≡ reply (call l (GetAndTouch k time)).answer
  unsound_replied = rw w ((one_touched l k time (Err x) e refl refl).replied)

  pub unsound_answered : numbered r ≡ touch_answer (call l (GetAndTouch k time)).answer
  unsound_answered = rw w ((one_touched l k time (Err x) e refl refl).answered)

pub ruleset unsound_touched = (err_is, unsound_replied, unsound_answered, unsound_kept)
