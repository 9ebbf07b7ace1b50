-- The command stream: tables of codes, a run's count is enough, number 6 is given exactly if document 01 says so, and what the sender has
-- after a command.
use Prim.Native.Nat.{ℕ, zero, suc, ◌+◌, ◌≤◌}
use mathlib.Core.Path.{◌≡◌, refl, sym, ◌∙◌, ap, subst}
use mathlib.Core.List.{List, [], ◌∷◌}
use Rattle.std.specs.Prelude.{Option, None, Some, Ok, Err}
use mathlib.Core.Bool.{Bool, true, false, cond, ◌&&◌, ◌||◌}
use native.Mathlib.Omega.{arith}
use lib.Dec.{ltb, leb, eqb}
use lib.ListN.{length, take, drop, set, length-drop}
use borrow.Author.Tests.{eqb-false, eqb-true, le-ltb, leb-false, leb-true, lt-ltb}
use Rattle.types.specs.declared.coord.CoordEntry.{CoordEntry}
use Rattle.types.specs.declared.coord.Path.{Path}
use Rattle.types.specs.declared.sender.Sender.{Sender}
use Rattle.types.specs.declared.refusal.Refusal.TheVariants.{PathLength}
use Rattle.types.specs.Paths.{appended, path_places}
use Rattle.types.specs.Senders.{emptied}
use Rattle.types.specs.declared.placed.Funding.{Funding}
use Rattle.types.specs.declared.placed.Funding.TheVariants.{Uncharged}
use Rattle.types.specs.Values.{placed_reply, refuses, says, stats_reply, verified_reply}
use Rattle.rules.specs.Cases.{Every, maybe}
use Rattle.rules.specs.Records.{State}
use Rattle.rules.specs.Calls.{Answer, Call, Done, EntryRemoved, ExpiryGiven, Hinted, KeyHeld, PathFound, Refused, RowsRemoved, StatsGiven, VerifiedDone}
use Rattle.rules.specs.Refusals.{Asked, Request, refusal, serve}
use Rattle.rules.specs.Answers.{refusal_of}
use Rattle.rules.specs.Commands.{Code, Command, Decoded, Element, Elements, Funds, Line, Operands, Output, Plain, Requests, Session, WithPath, Writes, after_six, code, code_of, codes, decode, decode_in, element_reply, funded, kind_in, line, obey, obeyed, pended, read_as, reads, refused_six, reply, run_commands, takes_path}
use Rattle.rules.proofs.Addresses.{contradiction}
use Rattle.rules.proofs.RowLists.{by_maybe, cond_some}
use Rattle.rules.proofs.SoundTest.{and_case}
use Rattle.rules.proofs.Refused.{Iff, not_six, refusal_number}

-- ---- a table of codes

-- what holds of every code of a table holds of the one that is found
pub code_found : (P : Code → Type 0) (b : ℕ) (cs : List Code) (c : Code) → Every P cs → code_of b cs ≡ Some c → (b ≡ c.byte) × P c
unfolding code_of
code_found P b [] c h e = contradiction {b = true} refl (cc)
code_found P b (x ∷ cs) c h e = cond_some (eqb b x.byte) e (λ t p. subst (λ (y : Code). (b ≡ y.byte) × P y) p (eqb-true b x.byte t, h.0)) (λ t p. code_found P b cs c h.1 p)

-- a test of every code of a table, computed
unfoldable pub all_codes : (Code → Bool) → List Code → Bool
all_codes f [] = true
all_codes f (c ∷ cs) = f c && all_codes f cs

pub tested : (f : Code → Bool) (cs : List Code) → all_codes f cs ≡ true → Every (λ c. f c ≡ true) cs
unfolding all_codes
tested f [] t = tt
tested f (c ∷ cs) t = and_case (f c) (all_codes f cs) t (λ x y. (x, tested f cs y))

-- b is a known code, its operands are there, and they say x
pub record Reads (cs : List Code) (b : ℕ) (bs : List ℕ) (x : Command) : Type 0 where
  pub code : Code
  pub known : code_of b cs ≡ Some code
  pub there : code.width ≤ length bs
  pub says : reads code (take code.width bs) ≡ Some x

-- and what is left stands behind them
pub record Taken (cs : List Code) (b : ℕ) (bs : List ℕ) (d : Decoded) : Type 0 where
  pub operands : Reads cs b bs d.command
  pub left : d.left ≡ drop operands.code.width bs

-- A COMMAND TAKES ITS OPERANDS AND NO MORE
pub taken : (cs : List Code) (b : ℕ) (bs : List ℕ) (d : Decoded) → decode_in cs b bs ≡ Some d → Taken cs b bs d
unfolding decode_in
taken cs b bs d = by_maybe (λ (o : Option Decoded). o ≡ Some d → Taken cs b bs d) (code_of b cs) (λ e h. nothing h) (λ c e h. at c e (leb c.width (length bs)) refl (reads c (take c.width bs)) refl h)
  where
    nothing : None ≡ Some d → Taken cs b bs d
    nothing h = contradiction {b = true} refl (cc)

    at : (c : Code) → code_of b cs ≡ Some c → (a : Bool) → leb c.width (length bs) ≡ a → (o : Option Command) → reads c (take c.width bs) ≡ o
        → cond a (maybe o None (λ q. Some (record { command = q; left = drop c.width bs }))) None ≡ Some d → Taken cs b bs d
    at c e true f None g h = nothing h
    at c e true f (Some q) g h =
        let l : drop c.width bs ≡ d.left = cc in
        let x : q ≡ d.command = cc in
        record { operands = record { code = c; known = e; there = leb-true c.width (length bs) f; says = g ∙ ap Some x }; left = sym l }
    at c e false f o g h = nothing h

pub left_shorter : (cs : List Code) (b : ℕ) (bs : List ℕ) (d : Decoded) → decode_in cs b bs ≡ Some d → length d.left ≤ length bs
left_shorter cs b bs d e = let t = taken cs b bs d e in rw (t.left, length-drop t.operands.code.width bs) (omega arith)

-- ---- a run's count

-- two counts that are at least the number of bytes give the same run
same_run : (n m R : ℕ) (s : Session) (bs : List ℕ) → length bs ≤ n → length bs ≤ m → run_commands n R s bs ≡ run_commands m R s bs
unfolding run_commands
same_run zero zero R s bs h k = refl
same_run zero (suc m) R s [] h k = refl
same_run (suc n) zero R s [] h k = refl
same_run (suc n) (suc m) R s [] h k = refl
same_run zero (suc m) R s (b ∷ bs) h k = absurd (let z : ⊥ = omega arith in z)
same_run (suc n) zero R s (b ∷ bs) h k = absurd (let z : ⊥ = omega arith in z)
same_run (suc n) (suc m) R s (b ∷ bs) h k = go (decode b bs) refl (λ d l. same_run n m R (obey R s d.command).session d.left (omega arith) (omega arith))
  where
    then : ℕ → Decoded → Output
    then i d = let o = obey R s d.command in let later = run_commands i R o.session d.left in record { lines = line b o.reply ∷ later.lines; session = later.session }

    go : (o : Option Decoded) → decode b bs ≡ o → ((d : Decoded) → length d.left ≤ length bs → run_commands n R (obey R s d.command).session d.left ≡ run_commands m R (obey R s d.command).session d.left) → maybe o (record { lines = line b (refused_six b s).reply ∷ []; session = (refused_six b s).session }) (then n) ≡ maybe o (record { lines = line b (refused_six b s).reply ∷ []; session = (refused_six b s).session }) (then m)
    go None e f = refl
    go (Some d) e f = ap (λ (x : Output). record { lines = line b (obey R s d.command).reply ∷ x.lines; session = x.session }) (f d (left_shorter codes b bs d e))

-- THE NUMBER OF BYTES IS ENOUGH
pub fuel_enough : (k R : ℕ) (s : Session) (bs : List ℕ) → run_commands (length bs + k) R s bs ≡ run_commands (length bs) R s bs
fuel_enough k R s bs = same_run (length bs + k) (length bs) R s bs (omega arith) (omega arith)

-- ---- number 6

-- a funding, whose kind may name none, stands among the operands
unfoldable pub has_funding : Operands → Bool
has_funding (Elements f) = false
has_funding (Writes f) = false
has_funding (Funds f) = true
has_funding (Requests f) = false

-- the bytes after b make no command: unknown, cut, or funding kind over 1
unfoldable pub no_command_in : List Code → ℕ → List ℕ → Bool
no_command_in cs b bs = maybe (code_of b cs) true (λ c. ltb (length bs) c.width || (has_funding c.says && ltb 1 (kind_in (take c.width bs))))

abbrev pub no_command : ℕ → List ℕ → Bool
no_command b bs = no_command_in codes b bs

absent : {A : Type 0} → Option A → Bool
absent None = true
absent (Some a) = false

kind_read : (o : List ℕ) (f : Funding → Sender → Call) → absent (funded o f) ≡ ltb 1 (kind_in o)
unfolding funded absent
kind_read o f = go (WithPath (f Uncharged)) _ (kind_in o) (eqb (kind_in o) 0) refl (eqb (kind_in o) 1) refl
  where
    go : (x y : Command) (k : ℕ) (a : Bool) → eqb k 0 ≡ a → (b : Bool) → eqb k 1 ≡ b → absent (cond a (Some x) (cond b (Some y) None)) ≡ ltb 1 k
    go x y k true p b q = let z = eqb-true k 0 p in sym (le-ltb 1 k (omega arith))
    go x y k false p true q = let z = eqb-true k 1 q in sym (le-ltb 1 k (omega arith))
    go x y k false p false q = let u = eqb-false k 0 p in let v = eqb-false k 1 q in sym (lt-ltb 1 k (omega arith))

-- operands are read but for a kind over 1
operands_read : (x : Operands) (o : List ℕ) → absent (read_as x o) ≡ has_funding x && ltb 1 (kind_in o)
unfolding read_as has_funding absent
operands_read (Elements f) o = refl
operands_read (Writes f) o = refl
operands_read (Funds f) o = kind_read o (f o)
operands_read (Requests f) o = refl

absent_decode : (cs : List Code) (b : ℕ) (bs : List ℕ) → absent (decode_in cs b bs) ≡ no_command_in cs b bs
unfolding decode_in no_command_in absent
absent_decode cs b bs = go (code_of b cs)
  where
    read : {A B : Type 0} (f : A → B) (o : Option A) → absent (maybe o None (λ q. Some (f q))) ≡ absent o
    read f None = refl
    read f (Some q) = refl

    whole : (c : Code) (a : Bool) → leb c.width (length bs) ≡ a → absent {A = Decoded} (cond a (maybe (reads c (take c.width bs)) None (λ q. Some (record { command = q; left = drop c.width bs }))) None) ≡ ltb (length bs) c.width || (has_funding c.says && ltb 1 (kind_in (take c.width bs)))
    whole c true h =
        rw (le-ltb (length bs) c.width (leb-true c.width (length bs) h)) (read {B = Decoded} (λ q. record { command = q; left = drop c.width bs }) (reads c (take c.width bs)) ∙ operands_read c.says (take c.width bs))
    whole c false h = rw (lt-ltb (length bs) c.width (leb-false c.width (length bs) h)) refl

    go : (o : Option Code) → absent {A = Decoded} (maybe o None (λ c. cond (leb c.width (length bs)) (maybe (reads c (take c.width bs)) None (λ q. Some (record { command = q; left = drop c.width bs }))) None)) ≡ maybe o true (λ c. ltb (length bs) c.width || (has_funding c.says && ltb 1 (kind_in (take c.width bs))))
    go None = refl
    go (Some c) = whole c (leb c.width (length bs)) refl

-- a line's number is the answer's
pub reply_number : (a : Answer) → (reply a).refusal ≡ refusal_of a
unfolding reply refusal_of refuses says placed_reply verified_reply stats_reply
reply_number (Refused n) = refl
reply_number (Hinted p) = refl
reply_number (VerifiedDone v) = refl
reply_number (PathFound None) = refl
reply_number (PathFound (Some es)) = refl
reply_number (EntryRemoved None) = refl
reply_number (EntryRemoved (Some e)) = refl
reply_number (KeyHeld b) = refl
reply_number Done = refl
reply_number (RowsRemoved n) = refl
reply_number (StatsGiven c) = refl
reply_number (ExpiryGiven None) = refl
reply_number (ExpiryGiven (Some t)) = refl

pub answer_not_six : (R : ℕ) (s : State) (x : Request) → (reply (serve R s x).answer).refusal ≡ 6 → ⊥
answer_not_six R s x = subst (λ (n : ℕ). n ≡ 6 → ⊥) (sym (reply_number (serve R s x).answer ∙ refusal_number R s x)) (by_maybe (λ (n : ℕ). n ≡ 6 → ⊥) (refusal R s x) (λ e h. let z : ⊥ = omega arith in z) (λ n e. not_six R s x n e))

-- an element that is taken, or has no place
pub element_not_six : (p : Path) (e : CoordEntry) → (element_reply (appended p e)).refusal ≡ 6 → ⊥
unfolding appended says refuses
element_not_six p e = go (ltb p.len path_places)
  where
    go : (b : Bool) → (element_reply (cond b (Ok (record { entries = set p.entries p.len e; len = p.len + 1 })) (Err PathLength))).refusal ≡ 6 → ⊥
    go true h = let z : ⊥ = omega arith in z
    go false h = let z : ⊥ = omega arith in z

obeyed_not_six : (R : ℕ) (s : Session) (c : Command) → (obey R s c).reply.refusal ≡ 6 → ⊥
unfolding obey obeyed pended
obeyed_not_six R s (Element e) = element_not_six s.sender.pending e
obeyed_not_six R s (WithPath f) = answer_not_six R s.state (Asked (f s.sender))
obeyed_not_six R s (Plain x) = answer_not_six R s.state x

-- the number of the first line
unfoldable pub first_number : List Line → ℕ
first_number [] = 0
first_number (l ∷ ls) = l.reply.refusal

-- the bytes make no command exactly if the first line's number is 6, and then it is the last
pub record SixExactly (b : ℕ) (bs : List ℕ) (s : Session) (o : Output) : Type 0 where
  pub six : Iff (first_number o.lines ≡ 6) (no_command b bs ≡ true)
  pub stops : no_command b bs ≡ true → o ≡ record { lines = line b (refuses 6) ∷ []; session = (refused_six b s).session }
  pub state : no_command b bs ≡ true → o.session.state ≡ s.state

-- NUMBER 6 IS GIVEN EXACTLY IF THE COMMAND IS UNKNOWN, CUT, OR OF A FUNDING KIND OVER 1
pub six_exactly : (n R : ℕ) (s : Session) (b : ℕ) (bs : List ℕ) → SixExactly b bs s (run_commands (suc n) R s (b ∷ bs))
unfolding run_commands first_number line absent refused_six refuses
six_exactly n R s b bs = go (decode b bs) (absent_decode codes b bs)
  where
    go : (o : Option Decoded) → absent o ≡ no_command b bs → SixExactly b bs s (maybe o (record { lines = line b (refused_six b s).reply ∷ []; session = (refused_six b s).session })
        (λ d. let t = obey R s d.command in let later = run_commands n R t.session d.left in record { lines = line b t.reply ∷ later.lines; session = later.session }))
    go None e = record { six = (λ h. sym e, λ h. refl); stops = λ h. refl; state = λ h. refl }
    go (Some d) e = record {
      six = (λ h. absurd (obeyed_not_six R s d.command h), λ h. contradiction h (sym e));
      stops = λ h. contradiction h (sym e);
      state = λ h. contradiction h (sym e);
    }

-- ---- what the sender has

unfoldable pub sort : Command → ℕ
sort (Element e) = 0
sort (WithPath f) = 1
sort (Plain x) = 2

unfoldable pub operand_sort : Operands → ℕ
operand_sort (Elements f) = 0
operand_sort (Writes f) = 1
operand_sort (Funds f) = 1
operand_sort (Requests f) = 2

-- 01 is the element, 10 to 15 take what the sender has
unfoldable pub code_sort : ℕ → ℕ
code_sort b = cond (eqb b 0x01) 0 (cond (takes_path b) 1 2)

read_sort : (x : Operands) (o : List ℕ) (q : Command) → read_as x o ≡ Some q → sort q ≡ operand_sort x
unfolding read_as funded sort operand_sort
read_sort x o q = go x
  where
    is : (y : Command) → Some y ≡ Some q → sort q ≡ sort y
    is y e = let z : q ≡ y = cc in ap sort z

    kind : (y z : Sender → Call) (a b : Bool) → cond a (Some (WithPath y)) (cond b (Some (WithPath z)) None) ≡ Some q → sort q ≡ 1
    kind y z true b e = is (WithPath y) e
    kind y z false true e = is (WithPath z) e
    kind y z false false e = contradiction {b = true} refl (cc)

    go : (y : Operands) → read_as y o ≡ Some q → sort q ≡ operand_sort y
    go (Elements f) e = is (Element (f o)) e
    go (Writes f) e = is (WithPath (f o)) e
    go (Funds f) e = kind (f o Uncharged) _ (eqb (kind_in o) 0) (eqb (kind_in o) 1) e
    go (Requests f) e = is (Plain (f o)) e

-- what its operands say is what its byte says
unfoldable pub sorted : Code → Bool
sorted c = eqb (operand_sort c.says) (code_sort c.byte)

pub codes_sorted : all_codes sorted codes ≡ true
unfolding all_codes sorted codes code operand_sort code_sort takes_path
codes_sorted = refl

pub decoded_sort : (cs : List Code) → all_codes sorted cs ≡ true → (b : ℕ) (bs : List ℕ) (d : Decoded) → decode_in cs b bs ≡ Some d → sort d.command ≡ code_sort b
unfolding sorted
decoded_sort cs t b bs d e =
    let r = (taken cs b bs d e).operands in
    let k = code_found (λ c. sorted c ≡ true) b cs r.code (tested sorted cs t) r.known in
    read_sort r.code.says (take r.code.width bs) d.command r.says ∙ eqb-true _ _ k.1 ∙ sym (ap code_sort k.0)

obeyed_sender : (R : ℕ) (s : Session) (q : Command) (p : Bool) → sort q ≡ cond p 1 2 → (obey R s q).session.sender ≡ cond p (emptied s.sender) s.sender
unfolding obey obeyed sort
obeyed_sender R s (Element e) true h = absurd (let z : ⊥ = omega arith in z)
obeyed_sender R s (Element e) false h = absurd (let z : ⊥ = omega arith in z)
obeyed_sender R s (WithPath f) true h = refl
obeyed_sender R s (WithPath f) false h = absurd (let z : ⊥ = omega arith in z)
obeyed_sender R s (Plain x) true h = absurd (let z : ⊥ = omega arith in z)
obeyed_sender R s (Plain x) false h = refl

-- CODES 10 TO 15 EMPTY THE PENDING PATH, REFUSED OR NOT, by 6 too; every other code but 01 leaves the sender what it has
pub pending_after_lem : (R : ℕ) (s : Session) (b : ℕ) (bs : List ℕ) → eqb b 0x01 ≡ false → (maybe (decode b bs) (refused_six b s) (λ d. obey R s d.command)).session.sender ≡ cond (takes_path b) (emptied s.sender) s.sender
unfolding refused_six after_six code_sort
pending_after_lem R s b bs h = go (decode b bs) refl
  where
    go : (o : Option Decoded) → decode b bs ≡ o → (maybe o (refused_six b s) (λ d. obey R s d.command)).session.sender ≡ cond (takes_path b) (emptied s.sender) s.sender
    go None e = refl
    go (Some d) e = obeyed_sender R s d.command (takes_path b) (decoded_sort codes codes_sorted b bs d e ∙ rw h)
