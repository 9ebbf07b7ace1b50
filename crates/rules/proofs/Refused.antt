-- Refusals: each number is given exactly if document 01 says so, and a refusal leaves the state.
use Prim.Native.Nat.{ℕ}
use mathlib.Core.Path.{◌≡◌, refl, sym, ◌∙◌, ap, subst}
use mathlib.Core.List.{List, [], ◌∷◌}
use Rattle.std.specs.Prelude.{Option, None, Some}
use mathlib.Core.Bool.{Bool, true, false, cond, ◌&&◌, ◌||◌, not, or-true}
use lib.Dec.{eqb}
use borrow.Author.Tests.{eq-eqb, eqb-false, eqb-true, not-false, not-true}
use Rattle.rules.specs.Cases.{Every, maybe}
use Rattle.rules.specs.Records.{State}
use Rattle.rules.specs.Sound.{sound}
use Rattle.rules.specs.Calls.{Answer, Call, Clear, ClearPathMtu, Demote, Done, EntryRemoved, ExpiryGiven, Get, GetAndTouch, Hinted, Insert, InsertFunded, InsertStated, InsertVerified, InsertVerifiedWithPathMtu, InsertWithTtl, InvalidateOtherRoots, InvalidateViaNode, KeyHeld, NextExpiry, PathFound, PurgeExpired, Refused, Remove, RowsRemoved, Stats, StatsGiven, VerifiedDone, draws_stamps, path_given, verified_write, was_refused}
use Rattle.rules.specs.Refusals.{Asked, Fresh, Reason, Request, Step, bad_path, bad_size, first_given, gives, hinted, no_place_for, perform, perform_request, reason, reasons, refusal, seq_spent, serve, step, sweeps, verifies}
use Rattle.rules.specs.Answers.{refusal_of}
use Rattle.rules.proofs.Addresses.{contradiction}
use Rattle.rules.proofs.RowLists.{by_maybe, cond_some}

-- ---- what holds of a call that is not refused

pub record Allowed (R : ℕ) (s : State) (q : Call) : Type 0 where
  pub sound : sound R s ≡ true
  pub path : maybe (path_given q) false bad_path ≡ false
  pub stamps : draws_stamps q && seq_spent s ≡ false
  pub place : maybe (verified_write q) false (no_place_for R s) ≡ false

-- ---- the first of a list of reasons that holds

abbrev pub Iff : Type 0 → Type 0 → Type 0
Iff A B = (A → B) × (B → A)

abbrev pub numbers : List Reason → List ℕ
numbers [] = []
numbers (r ∷ rs) = r.number ∷ numbers rs

abbrev pub is_one_of : ℕ → List ℕ → Bool
is_one_of n [] = false
is_one_of n (m ∷ ms) = eqb m n || is_one_of n ms

abbrev pub distinct : List ℕ → Bool
distinct [] = true
distinct (m ∷ ms) = not (is_one_of m ms) && distinct ms

-- the reason of number n holds, and none before it does
abbrev pub GivenFirst : ℕ → List Reason → Type 0
GivenFirst n [] = ⊥
GivenFirst n (r ∷ rs) = cond (eqb r.number n) (r.given ≡ true) ((r.given ≡ false) × GivenFirst n rs)

some_none : {C : Type 0} {m : ℕ} {o : Option ℕ} → o ≡ Some m → o ≡ None → C
some_none p q = contradiction {b = true} refl (cc)

-- a number that is given is one of the list's
given_listed : (n : ℕ) (rs : List Reason) → first_given rs ≡ Some n → is_one_of n (numbers rs) ≡ true
unfolding first_given
given_listed n [] e = some_none {o = None} e refl
given_listed n (r ∷ rs) e = cond_some r.given e (λ g z. rw (eq-eqb r.number n z)) (λ g f. rw (given_listed n rs f, or-true))

first_number_lem : (n : ℕ) (rs : List Reason) → distinct (numbers rs) ≡ true → first_given rs ≡ Some n → GivenFirst n rs
unfolding first_given
first_number_lem n [] d e = some_none {o = None} e refl
first_number_lem n (r ∷ rs) d e = go (is_one_of r.number (numbers rs)) refl d (eqb r.number n) refl r.given refl e (first_number_lem n rs)
  where
    go : (a : Bool) → is_one_of r.number (numbers rs) ≡ a → not a && distinct (numbers rs) ≡ true → (b : Bool) → eqb r.number n ≡ b → (g : Bool) → r.given ≡ g → cond g (Some r.number) (first_given rs) ≡ Some n
        → (distinct (numbers rs) ≡ true → first_given rs ≡ Some n → GivenFirst n rs) → cond b (r.given ≡ true) ((r.given ≡ false) × GivenFirst n rs)
    go true o d b i g h f later = contradiction {b = false} d refl
    go false o d true i true h f later = h
    go false o d true i false h f later = contradiction (given_listed n rs f) (subst (λ (m : ℕ). is_one_of m (numbers rs) ≡ false) (eqb-true r.number n i) o)
    go false o d false i true h f later = absurd (eqb-false r.number n i (cc))
    go false o d false i false h f later = (h, later d f)

number_first : (n : ℕ) (rs : List Reason) → GivenFirst n rs → first_given rs ≡ Some n
unfolding first_given
number_first n [] x = absurd x
number_first n (r ∷ rs) x = go (eqb r.number n) refl x (number_first n rs)
  where
    go : (b : Bool) → eqb r.number n ≡ b → cond b (r.given ≡ true) ((r.given ≡ false) × GivenFirst n rs) → (GivenFirst n rs → first_given rs ≡ Some n) → cond r.given (Some r.number) (first_given rs) ≡ Some n
    go true i h later = rw h (ap Some (eqb-true r.number n i))
    go false i h later = rw h.0 (later h.1)

-- NUMBER n IS GIVEN EXACTLY IF THE REASON OF THAT NUMBER HOLDS AND NONE BEFORE IT DOES
pub given_first : (n : ℕ) (rs : List Reason) → distinct (numbers rs) ≡ true → Iff (first_given rs ≡ Some n) (GivenFirst n rs)
given_first n rs d = (first_number_lem n rs d, number_first n rs)

-- NONE IS GIVEN EXACTLY IF NO REASON HOLDS
pub none_given : (rs : List Reason) → Iff (first_given rs ≡ None) (Every (λ r. r.given ≡ false) rs)
unfolding first_given
none_given [] = (λ e. tt, λ h. refl)
none_given (r ∷ rs) = (λ e. go r.given refl e (none_given rs).0, λ h. rw h.0 ((none_given rs).1 h.1))
  where
    go : (g : Bool) → r.given ≡ g → cond g (Some r.number) (first_given rs) ≡ None → (first_given rs ≡ None → Every (λ x. x.given ≡ false) rs) → (r.given ≡ false) × Every (λ x. x.given ≡ false) rs
    go true h e later = some_none {o = Some r.number} refl e
    go false h e later = (h, later e)

-- ---- the table's reasons

table_distinct : (R : ℕ) (s : State) (x : Request) → distinct (numbers (reasons R s x)) ≡ true
unfolding reasons reason
table_distinct R s (Fresh m ttl) = refl
table_distinct R s (Asked q) = refl

table_given : (R : ℕ) (s : State) (x : Request) (n : ℕ) → Iff (refusal R s x ≡ Some n) (GivenFirst n (reasons R s x))
unfolding refusal
table_given R s x n = given_first n (reasons R s x) (table_distinct R s x)

table_number : (R : ℕ) (s : State) (x : Request) (n : ℕ) → refusal R s x ≡ Some n → is_one_of n (numbers (reasons R s x)) ≡ true
unfolding refusal
table_number R s x n = given_listed n (reasons R s x)

table_none : (R : ℕ) (s : State) (x : Request) → Iff (refusal R s x ≡ None) (Every (λ r. r.given ≡ false) (reasons R s x))
unfolding refusal
table_none R s x = none_given (reasons R s x)

-- THE NUMBERS OF 01, IN ITS ORDER: 1, 2, 3, 4 for a call, and 5 for fresh
pub call_numbers : (R : ℕ) (s : State) (q : Call) → numbers (reasons R s (Asked q)) ≡ 1 ∷ 2 ∷ 3 ∷ 4 ∷ []
unfolding reasons reason
call_numbers R s q = refl

pub fresh_numbers : (R m ttl : ℕ) (s : State) → numbers (reasons R s (Fresh m ttl)) ≡ 5 ∷ []
unfolding reasons reason
fresh_numbers R m ttl s = refl

table_without_six : (R : ℕ) (s : State) (x : Request) → is_one_of 6 (numbers (reasons R s x)) ≡ false
unfolding reasons reason
table_without_six R s (Fresh m ttl) = refl
table_without_six R s (Asked q) = refl

-- 6 is the command stream's alone
pub not_six : (R : ℕ) (s : State) (x : Request) (n : ℕ) → refusal R s x ≡ Some n → n ≡ 6 → ⊥
not_six R s x n e z = contradiction (subst (λ (m : ℕ). is_one_of m (numbers (reasons R s x)) ≡ true) z (table_number R s x n e)) (table_without_six R s x)

pub allowed : (R : ℕ) (s : State) (q : Call) → refusal R s (Asked q) ≡ None → Allowed R s q
unfolding reasons reason
allowed R s q e =
    let unsound = (table_none R s (Asked q)).0 e in
    let path = unsound.1 in
    let stamps = path.1 in
    let place = stamps.1 in
    record { sound = not-false (sound R s) unsound.0; path = path.0; stamps = stamps.0; place = place.0 }

-- ---- a request is refused, or done

pub done_perform : (s : State) (q : Call) → was_refused (perform s q).answer ≡ false
unfolding perform hinted verifies sweeps gives was_refused
done_perform s (Insert k p t) = refl
done_perform s (InsertWithTtl k p t l) = refl
done_perform s (InsertFunded k p t f) = refl
done_perform s (InsertStated k p t f) = refl
done_perform s (InsertVerified k p t) = refl
done_perform s (InsertVerifiedWithPathMtu k p t m) = refl
done_perform s (Get k t) = refl
done_perform s (GetAndTouch k t) = refl
done_perform s (Remove k) = refl
done_perform s (Demote k) = refl
done_perform s (ClearPathMtu k) = refl
done_perform s (PurgeExpired t) = refl
done_perform s Clear = refl
done_perform s (InvalidateViaNode a) = refl
done_perform s (InvalidateOtherRoots a) = refl
done_perform s (Stats t) = refl
done_perform s NextExpiry = refl

done_request : (R : ℕ) (s : State) (x : Request) → was_refused (perform_request R s x).answer ≡ false
unfolding perform_request gives was_refused
done_request R s (Fresh m ttl) = refl
done_request R s (Asked q) = done_perform s q

pub by_serve {κ} : (R : ℕ) (s : State) (x : Request) (P : Step → Type κ) → ((n : ℕ) → refusal R s x ≡ Some n → P (gives (Refused n) s)) → (refusal R s x ≡ None → P (perform_request R s x)) → P (serve R s x)
unfolding serve
by_serve R s x P f g = by_maybe P (refusal R s x) g f

-- a call is refused and leaves the state, or it is allowed and done
pub by_step {κ} : (R : ℕ) (s : State) (q : Call) (P : Step → Type κ) → ((n : ℕ) → P (gives (Refused n) s)) → (Allowed R s q → P (perform s q)) → P (step R s q)
unfolding perform_request
by_step R s q P f g = by_serve R s (Asked q) P (λ n e. f n) (λ e. g (allowed R s q e))

refused_by_lem : (R : ℕ) (s : State) (x : Request) (n : ℕ) → (serve R s x).answer ≡ Refused n → refusal R s x ≡ Some n
unfolding gives was_refused
refused_by_lem R s x n = by_serve R s x (λ (t : Step). t.answer ≡ Refused n → refusal R s x ≡ Some n) (λ m e g. let z : m ≡ n = cc in e ∙ ap Some z) (λ e g. contradiction (let w : was_refused (perform_request R s x).answer ≡ true = rw g in w) (done_request R s x))

gives_number : (R : ℕ) (s : State) (x : Request) (n : ℕ) → refusal R s x ≡ Some n → (serve R s x).answer ≡ Refused n
unfolding serve gives
gives_number R s x n e = rw e

-- A REFUSAL LEAVES THE STATE AS IT WAS
pub refused_left : (R : ℕ) (s : State) (x : Request) → was_refused (serve R s x).answer ≡ true → (serve R s x).state ≡ s
unfolding gives
refused_left R s x = by_serve R s x (λ (t : Step). was_refused t.answer ≡ true → t.state ≡ s) (λ n e g. refl) (λ e g. contradiction g (done_request R s x))

-- A REFUSAL RETURNS ITS NUMBER ALONE
pub refused_alone : (R : ℕ) (s : State) (x : Request) → was_refused (serve R s x).answer ≡ true → serve R s x ≡ gives (Refused (refusal_of (serve R s x).answer)) s
unfolding gives refusal_of
refused_alone R s x = by_serve R s x (λ (t : Step). was_refused t.answer ≡ true → t ≡ gives (Refused (refusal_of t.answer)) s) (λ n e g. refl) (λ e g. contradiction g (done_request R s x))

zero_if_done : (a : Answer) → was_refused a ≡ false → refusal_of a ≡ 0
unfolding was_refused refusal_of
zero_if_done (Refused n) h = contradiction {b = true} refl h
zero_if_done (Hinted p) h = refl
zero_if_done (VerifiedDone v) h = refl
zero_if_done (PathFound o) h = refl
zero_if_done (EntryRemoved o) h = refl
zero_if_done (KeyHeld b) h = refl
zero_if_done Done h = refl
zero_if_done (RowsRemoved n) h = refl
zero_if_done (StatsGiven c) h = refl
zero_if_done (ExpiryGiven o) h = refl

-- THE NUMBER OF AN ANSWER IS THE REFUSAL'S, AND 0 IF DONE
pub refusal_number : (R : ℕ) (s : State) (x : Request) → refusal_of (serve R s x).answer ≡ maybe (refusal R s x) 0 (λ n. n)
unfolding serve gives refusal_of
refusal_number R s x = go (refusal R s x)
  where
    go : (o : Option ℕ) → refusal_of (maybe o (perform_request R s x) (λ n. gives (Refused n) s)).answer ≡ maybe o 0 (λ n. n)
    go None = zero_if_done (perform_request R s x).answer (done_request R s x)
    go (Some n) = refl

-- ---- each number is given exactly if

-- THE TABLE, of any request
pub refused_exactly : (R : ℕ) (s : State) (x : Request) (n : ℕ) → Iff ((serve R s x).answer ≡ Refused n) (GivenFirst n (reasons R s x))
refused_exactly R s x n = (λ e. (table_given R s x n).0 (refused_by_lem R s x n e), λ g. gives_number R s x n ((table_given R s x n).1 g))

-- a call on any state, in the order 1, 2, 3, 4
pub record GivenExactly (R : ℕ) (s : State) (q : Call) (m : Answer) : Type 0 where
  pub one : Iff (m ≡ Refused 1) (sound R s ≡ false)
  pub two : Iff (m ≡ Refused 2) ((sound R s ≡ true) × (maybe (path_given q) false bad_path ≡ true))
  pub three : Iff (m ≡ Refused 3) ((sound R s ≡ true) × (maybe (path_given q) false bad_path ≡ false) × (draws_stamps q && seq_spent s ≡ true))
  pub four : Iff (m ≡ Refused 4) ((sound R s ≡ true) × (maybe (path_given q) false bad_path ≡ false) × (draws_stamps q && seq_spent s ≡ false) × (maybe (verified_write q) false (no_place_for R s) ≡ true))
  pub no_other : (n : ℕ) → m ≡ Refused n → is_one_of n (numbers (reasons R s (Asked q))) ≡ true

pub given_exactly : (R : ℕ) (s : State) (q : Call) → GivenExactly R s q (step R s q).answer
unfolding reasons reason
given_exactly R s q =
    let is = refused_exactly R s (Asked q) in
    record {
      one = (λ e. not-true (sound R s) ((is 1).0 e), λ g. (is 1).1 (ap not g));
      two = (λ e. let g = (is 2).0 e in (not-false (sound R s) g.0, g.1), λ g. (is 2).1 (ap not g.0, g.1));
      three = (λ e. let g = (is 3).0 e in (not-false (sound R s) g.0, g.1.0, g.1.1), λ g. (is 3).1 (ap not g.0, (g.1, g.2)));
      four = (λ e. let g = (is 4).0 e in (not-false (sound R s) g.0, g.1.0, g.1.1.0, g.1.1.1), λ g. (is 4).1 (ap not g.0, (g.1, (g.2, g.3))));
      no_other = λ n e. table_number R s (Asked q) n (refused_by_lem R s (Asked q) n e);
    }

-- fresh, on any state
pub fresh_refusal : (R m ttl : ℕ) (s : State) → refusal R s (Fresh m ttl) ≡ cond (bad_size R m) (Some 5) None
unfolding refusal reasons first_given reason
fresh_refusal R m ttl s = refl

-- fresh is refused by 5 exactly if the size is bad, and by no other number
pub record FiveExactly (R m : ℕ) (a : Answer) : Type 0 where
  pub five : Iff (a ≡ Refused 5) (bad_size R m ≡ true)
  pub no_other : (n : ℕ) → a ≡ Refused n → n ≡ 5

pub five_exactly : (R m ttl : ℕ) (s : State) → FiveExactly R m (serve R s (Fresh m ttl)).answer
unfolding reasons reason
five_exactly R m ttl s =
    record {
      five = refused_exactly R s (Fresh m ttl) 5;
      no_other = λ n e. go n (eqb 5 n) refl (table_number R s (Fresh m ttl) n (refused_by_lem R s (Fresh m ttl) n e));
    }
  where
    go : (n : ℕ) (b : Bool) → eqb 5 n ≡ b → b || false ≡ true → n ≡ 5
    go n true i h = sym (eqb-true 5 n i)
    go n false i h = contradiction {b = false} h refl

pub fresh_allowed : (R m ttl : ℕ) (s : State) → refusal R s (Fresh m ttl) ≡ None → bad_size R m ≡ false
unfolding reasons reason
fresh_allowed R m ttl s e = ((table_none R s (Fresh m ttl)).0 e).0

-- ---- the table's answer, as a call finds it: each number where none before it is given, and none

pub refused_one : (R : ℕ) (s : State) (q : Call) → sound R s ≡ false → refusal R s (Asked q) ≡ Some 1
unfolding reasons reason
refused_one R s q h = (table_given R s (Asked q) 1).1 (ap not h)

pub refused_two : (R : ℕ) (s : State) (q : Call) → sound R s ≡ true → maybe (path_given q) false bad_path ≡ true → refusal R s (Asked q) ≡ Some 2
unfolding reasons reason
refused_two R s q h p = (table_given R s (Asked q) 2).1 (ap not h, p)

pub refused_three : (R : ℕ) (s : State) (q : Call) → sound R s ≡ true → maybe (path_given q) false bad_path ≡ false → draws_stamps q ≡ true → seq_spent s ≡ true → refusal R s (Asked q) ≡ Some 3
unfolding reasons reason
refused_three R s q h p d w = (table_given R s (Asked q) 3).1 (ap not h, (p, rw (d, w)))

unspent : (b : Bool) {c : Bool} → c ≡ false → b && c ≡ false
unspent true h = h
unspent false h = refl

pub refused_four : (R : ℕ) (s : State) (q : Call) → sound R s ≡ true → maybe (path_given q) false bad_path ≡ false → seq_spent s ≡ false → maybe (verified_write q) false (no_place_for R s) ≡ true → refusal R s (Asked q) ≡ Some 4
unfolding reasons reason
refused_four R s q h p w v = (table_given R s (Asked q) 4).1 (ap not h, (p, (unspent (draws_stamps q) w, v)))

pub refused_by_none : (R : ℕ) (s : State) (q : Call) → Allowed R s q → refusal R s (Asked q) ≡ None
unfolding reasons reason
refused_by_none R s q a = (table_none R s (Asked q)).1 (ap not a.sound, (a.path, (a.stamps, (a.place, tt))))

-- a call that takes a path and draws stamps
pub write_allowed : (R : ℕ) (s : State) (q : Call) → sound R s ≡ true → maybe (path_given q) false bad_path ≡ false → seq_spent s ≡ false → maybe (verified_write q) false (no_place_for R s) ≡ false → refusal R s (Asked q) ≡ None
write_allowed R s q h p w v = refused_by_none R s q (record { sound = h; path = p; stamps = unspent (draws_stamps q) w; place = v })

-- a call that takes no path and draws no stamps is refused by 1 alone
pub refused_only_one : (R : ℕ) (s : State) (q : Call) → sound R s ≡ true → path_given q ≡ None → verified_write q ≡ None → draws_stamps q && seq_spent s ≡ false → refusal R s (Asked q) ≡ None
refused_only_one R s q h p v d = refused_by_none R s q (record { sound = h; path = rw p; stamps = d; place = rw v })
