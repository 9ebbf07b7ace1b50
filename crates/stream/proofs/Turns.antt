-- A turn of the run: a command and its line; and how the run ends.
use mathlib.Core.Path.{◌≡◌, refl, sym, ◌∙◌, ap, subst}
use Prim.Native.Nat.{ℕ, zero, suc, ◌+◌, ◌-◌, ◌≤◌, ◌<◌}
use native.Mathlib.Omega.{arith}
use native.Mathlib.Numerals.{add-one}
use mathlib.Core.List.{List, [], ◌∷◌, ◌++◌, append-nil, append_assoc}
use mathlib.Core.Bool.{Bool, true, false, cond, not, ◌&&◌}
use lib.Dec.{ltb, eqb}
use lib.ListN.{length, drop, get_or, length-drop, length-append}
use lib.Seq.{sets, drop-drop, drop-cons}
use borrow.Author.Tests.{ltb-false, ne_eqb}
use Rattle.types.specs.declared.sender.Sender.{Sender}
use Rattle.types.specs.declared.reply.Tally.{Tally}
use Rattle.types.specs.Values.{tallied}
use Rattle.rules.specs.Commands.{Line, line, line_text, lines_text, tally_after}
use Rattle.rules.proofs.Addresses.{contradiction}
use Rattle.raw.proofs.StoreLaws.{sets_more}
use Rattle.commands.specs.OnMemory.{Session, session, obey_byte}
use Rattle.commands.specs.declared.command.AfterCommand.{AfterCommand}
use Rattle.commands.specs.After.{Answers}
use Rattle.stream.specs.declared.stop.Stop.{Stop}
use Rattle.stream.specs.Runs.{RunEnd, operands, cut_short, stopped, and_then, run_part}
use Rattle.stream.specs.declared.run.Next.{Next}
use Rattle.stream.specs.declared.run.Next.TheVariants.{Full, Cut, Command}
use Rattle.stream.specs.Running.{next_is, EndsAs, prefixed, SoFar, Going}

-- ---- the run from there on

abbrev pub one_more : (n : ℕ) (last : Bool) (room : ℕ) (h : Session) (b : ℕ) (bs : List ℕ) → RunEnd
one_more n last room h b bs =
    let o = obey_byte h b bs in
    and_then (line b o.reply) (1 + operands b bs) (cond (eqb o.reply.refusal 6) (stopped Stop.Six o.session) (run_part n last (room - length (line_text (line b o.reply))) o.session (drop (operands b bs) bs)))

pub part_full : (n : ℕ) (last : Bool) (room : ℕ) (h : Session) (b : ℕ) (bs : List ℕ) → next_is room last b bs ≡ Full → run_part (suc n) last room h (b ∷ bs) ≡ stopped Stop.Full h
unfolding next_is run_part
part_full n last room h b bs = go (ltb room 129) (not last && cut_short b bs)
  where
    go : (a c : Bool) → cond a Full (cond c Cut (Command (operands b bs))) ≡ Full → cond a (stopped Stop.Full h) (cond c (stopped Stop.Cut h) (one_more n last room h b bs)) ≡ stopped Stop.Full h
    go true c e = refl
    go false true e = contradiction {b = true} refl (cc)
    go false false e = contradiction {b = true} refl (cc)

pub part_cut : (n : ℕ) (last : Bool) (room : ℕ) (h : Session) (b : ℕ) (bs : List ℕ) → next_is room last b bs ≡ Cut → run_part (suc n) last room h (b ∷ bs) ≡ stopped Stop.Cut h
unfolding next_is run_part
part_cut n last room h b bs = go (ltb room 129) (not last && cut_short b bs)
  where
    go : (a c : Bool) → cond a Full (cond c Cut (Command (operands b bs))) ≡ Cut → cond a (stopped Stop.Full h) (cond c (stopped Stop.Cut h) (one_more n last room h b bs)) ≡ stopped Stop.Cut h
    go true c e = contradiction {b = true} refl (cc)
    go false true e = refl
    go false false e = contradiction {b = true} refl (cc)

-- a command: there is room for its line
pub record Goes (n : ℕ) (last : Bool) (room : ℕ) (h : Session) (b : ℕ) (bs : List ℕ) (w : ℕ) : Type 0 where
  pub ample : 129 ≤ room
  pub width : w ≡ operands b bs
  pub run : run_part (suc n) last room h (b ∷ bs) ≡ one_more n last room h b bs

pub part_goes : (n : ℕ) (last : Bool) (room : ℕ) (h : Session) (b : ℕ) (bs : List ℕ) (w : ℕ) → next_is room last b bs ≡ Command w → Goes n last room h b bs w
unfolding next_is run_part
part_goes n last room h b bs w = go (ltb room 129) refl (not last && cut_short b bs) refl
  where
    go : (a : Bool) → ltb room 129 ≡ a → (c : Bool) → not last && cut_short b bs ≡ c → cond a Full (cond c Cut (Command (operands b bs))) ≡ Command w → Goes n last room h b bs w
    go true x c y e = contradiction {b = true} refl (cc)
    go false x true y e = contradiction {b = true} refl (cc)
    go false x false y e = record { ample = ltb-false room 129 x; width = cc; run = rw (x, y) }

-- ---- lists of lines

text_after : (ls : List Line) (l : Line) → lines_text (ls ++ (l ∷ [])) ≡ lines_text ls ++ line_text l
unfolding lines_text
text_after [] l = append-nil (line_text l)
text_after (k ∷ ls) l = ap (λ (x : List ℕ). line_text k ++ x) (text_after ls l) ∙ sym (append_assoc (line_text k) (lines_text ls) (line_text l))

tally_after_lem : (ls : List Line) (l : Line) (t : Tally) → tally_after t (ls ++ (l ∷ [])) ≡ tallied (tally_after t ls) l.reply.refusal
unfolding tally_after
tally_after_lem [] l t = refl
tally_after_lem (k ∷ ls) l t = tally_after_lem ls l (tallied t k.reply.refusal)

-- ---- the loop

none_before : (e : RunEnd) → e ≡ prefixed [] 0 e
unfolding prefixed
none_before e = ap (λ (n : ℕ). record { lines = e.lines; used = n; session = e.session; stop = e.stop }) (let z : e.used ≡ 0 + e.used = omega arith in z)

pub start : (last : Bool) (m i o : List ℕ) (p : Sender) (t : Tally) → Going (run_part (length i) last (length o) (session m p) i) last i o t 0 0 p t m o
unfolding prefixed lines_text tally_after
start last m i o p t = record { turns = length i; enough = omega arith; done = record { lines = []; whole = none_before _ ∙ ap (λ (n : ℕ). prefixed [] 0 (run_part (length i) last n (session m p) i)) (let z : length o ≡ length o - 0 = omega arith in z); text = refl; end = refl; inside = omega arith; counted = refl } }

-- what was done so far is the whole
pub ended : {e : RunEnd} (why : Stop) {m : List ℕ} {p : Sender} {o : List ℕ} {t : Tally} {at put : ℕ} {counts : Tally} {o' : List ℕ} → SoFar e (stopped why (session m p)) o t at put counts o'
    → EndsAs e t (record { used = at; written = put; sender = p; tally = counts; stop = why }) m o o'
unfolding prefixed stopped
ended {e} why {o = o} {t = t} {at = at} s =
    let l : e.lines ≡ s.lines = ap (λ (x : RunEnd). x.lines) s.whole ∙ append-nil s.lines in
    let x : lines_text e.lines ≡ lines_text s.lines = ap lines_text l in
    record {
      used = (let z : at ≡ at + 0 = omega arith in z) ∙ ap (λ (x : RunEnd). x.used) (sym s.whole);
      written = s.end ∙ ap (λ (y : List ℕ). length y) (sym x);
      sender = ap (λ (x : RunEnd). x.session.sender) (sym s.whole);
      tally = s.counted ∙ ap (tally_after t) (sym l);
      stop = ap (λ (x : RunEnd). x.stop) (sym s.whole);
      memory = ap (λ (x : RunEnd). x.session.memory) (sym s.whole);
      output = s.text ∙ ap (sets o 0) (sym x);
    }

-- no byte is left
pub at_end : {e : RunEnd} {last : Bool} {i o : List ℕ} {t : Tally} {at put : ℕ} {p : Sender} {counts : Tally} {m o' : List ℕ} → Going e last i o t at put p counts m o'
    → length i ≤ at → EndsAs e t (record { used = at; written = put; sender = p; tally = counts; stop = Stop.End }) m o o'
unfolding run_part
at_end {e} {last} {i} {o} {t} {at} {put} {p} {counts} {m} {o'} g k =
    ended Stop.End (subst (λ (x : RunEnd). SoFar e x o t at put counts o') (nothing g.turns (length o - put) (drop at i) (omega (arith, length-drop at i))) g.done)
  where
    nothing : (n room : ℕ) (bs : List ℕ) → length bs ≡ 0 → run_part n last room (session m p) bs ≡ stopped Stop.End (session m p)
    nothing zero room bs z = refl
    nothing (suc n) room [] z = refl
    nothing (suc n) room (b ∷ bs) z = absurd (let w : ⊥ = omega arith in w)

-- a line more
pub advanced : (e x : RunEnd) (l : Line) (k : ℕ) (o : List ℕ) (t : Tally) (at put at' put' : ℕ) (counts counts' : Tally) (o' o'' : List ℕ) → SoFar e (and_then l k x) o t at put counts o'
    → at' ≡ at + k → put' ≡ put + length (line_text l) → put + length (line_text l) ≤ length o → o'' ≡ sets o' put (line_text l) → counts' ≡ tallied counts l.reply.refusal → SoFar e x o t at' put' counts' o''
unfolding prefixed and_then
advanced e x l k o t at put at' put' counts counts' o' o'' s ea ep b eo ec =
    record {
      lines = s.lines ++ (l ∷ []);
      whole = s.whole ∙ cc (append_assoc s.lines (l ∷ []) x.lines, ea, (let z : at + (k + x.used) ≡ at + k + x.used = omega arith in z));
      text = eo ∙ cc (s.text, s.end, sets_more (lines_text s.lines) (line_text l) o 0, text_after s.lines l, (let z : 0 + length (lines_text s.lines) ≡ length (lines_text s.lines) = omega arith in z));
      end = ep ∙ (let z : put + length (line_text l) ≡ length (lines_text s.lines) + length (line_text l) = omega (arith, s.end) in z) ∙ sym (length-append (lines_text s.lines) (line_text l)) ∙ ap (λ (y : List ℕ). length y) (sym (text_after s.lines l));
      inside = omega (arith, ep, b);
      counted = ec ∙ ap (λ (y : Tally). tallied y l.reply.refusal) s.counted ∙ sym (tally_after_lem s.lines l t);
    }

-- at least one turn is left
turn_left : (n : ℕ) → 1 ≤ n → (k : ℕ) × (n ≡ suc k)
turn_left zero h = absurd (let z : ⊥ = omega arith in z)
turn_left (suc k) h = (k, refl)

module _ {e : RunEnd} {last : Bool} {i o : List ℕ} {t : Tally} {at put : ℕ} {p : Sender} {counts : Tally} {m o' : List ℕ}
    (g : Going e last i o t at put p counts m o') (h : at < length i) where
  -- the command at `at` is the next one
  pub record Front : Type 0 where
    pub turns : ℕ
    pub enough : length (drop (at + 1) i) ≤ turns
    pub done : SoFar e (run_part (suc turns) last (length o - put) (session m p) (get_or i at 0 ∷ drop (at + 1) i)) o t at put counts o'

  pub front : Front
  front =
      let c : drop at i ≡ get_or i at 0 ∷ drop (at + 1) i = rw add-one (drop-cons i at 0 h) in
      let l : length (drop at i) ≡ suc (length (drop (at + 1) i)) = ap (λ (x : List ℕ). length x) c in
      let k = turn_left g.turns (omega (arith, g.enough, l)) in
      record {
        turns = k.0;
        enough = omega (arith, g.enough, l, k.1);
        done = subst (λ (x : List ℕ). SoFar e (run_part (suc k.0) last (length o - put) (session m p) x) o t at put counts o') c (subst (λ (n : ℕ). SoFar e (run_part n last (length o - put) (session m p) (drop at i)) o t at put counts o') k.1 g.done);
      }

  -- the code reads what is next by the room that is left in the output
  module _ (z : length o' ≡ length o) {n : Next} (f : n ≡ next_is (length o' - put) last (get_or i at 0) (drop (at + 1) i)) where
    next_at : {x : Next} → n ≡ x → next_is (length o - put) last (get_or i at 0) (drop (at + 1) i) ≡ x
    next_at e = rw (← z, ← f) e

    -- no room for a line
    pub at_full : n ≡ Full → EndsAs e t (record { used = at; written = put; sender = p; tally = counts; stop = Stop.Full }) m o o'
    at_full x = ended Stop.Full (subst (λ (x : RunEnd). SoFar e x o t at put counts o') (part_full front.turns last (length o - put) (session m p) (get_or i at 0) (drop (at + 1) i) (next_at x)) front.done)

    -- too few bytes, and more may follow
    pub at_cut : n ≡ Cut → EndsAs e t (record { used = at; written = put; sender = p; tally = counts; stop = Stop.Cut }) m o o'
    at_cut x = ended Stop.Cut (subst (λ (x : RunEnd). SoFar e x o t at put counts o') (part_cut front.turns last (length o - put) (session m p) (get_or i at 0) (drop (at + 1) i) (next_at x)) front.done)

    -- a command, whose operands are w bytes: it was obeyed, its line was put and counted
    module _ {w : ℕ} (k : n ≡ Command w) {r : AfterCommand} {m' : List ℕ} (a : Answers (obey_byte (session m p) (get_or i at 0) (drop (at + 1) i)) r m') {put' : ℕ} {o'' : List ℕ}
        (v : (put' ≡ put + length (line_text (line (get_or i at 0) r.reply))) × (o'' ≡ sets o' put (line_text (line (get_or i at 0) r.reply)))) (short : length (line_text (line (get_or i at 0) r.reply)) ≤ 129)
        {counts' : Tally} (ec : counts' ≡ tallied counts r.reply.refusal) where
      goes : Goes front.turns last (length o - put) (session m p) (get_or i at 0) (drop (at + 1) i) w
      goes = part_goes front.turns last (length o - put) (session m p) (get_or i at 0) (drop (at + 1) i) w (next_at k)

      after_line : SoFar e (cond (eqb r.reply.refusal 6) (stopped Stop.Six (session m' r.sender)) (run_part front.turns last (length o - put - length (line_text (line (get_or i at 0) r.reply))) (session m' r.sender) (drop (operands (get_or i at 0) (drop (at + 1) i)) (drop (at + 1) i)))) o t (at + (1 + w)) put' counts' o''
      unfolding line
      after_line =
          let b = get_or i at 0 in
          let bs = drop (at + 1) i in
          let u : session m' r.sender ≡ (obey_byte (session m p) b bs).session = ap (λ (x : List ℕ). session x r.sender) a.leaves ∙ ap (λ (x : Sender). session (obey_byte (session m p) b bs).session.memory x) a.sends in
          let s : SoFar e (one_more front.turns last (length o - put) (session m p) b bs) o t at put counts o' = subst (λ (x : RunEnd). SoFar e x o t at put counts o') goes.run front.done in
          let q : SoFar e (and_then (line b r.reply) (1 + operands b bs) (cond (eqb r.reply.refusal 6) (stopped Stop.Six (session m' r.sender)) (run_part front.turns last (length o - put - length (line_text (line b r.reply))) (session m' r.sender) (drop (operands b bs) bs)))) o t at put counts o' = rw (u, a.says) s in
          advanced e _ (line b r.reply) (1 + operands b bs) o t at put (at + (1 + w)) put' counts counts' o' o'' q (omega (arith, goes.width)) v.0 (omega (arith, goes.ample, g.done.inside, short)) v.1 ec

      -- refused by 6
      pub at_six : r.reply.refusal ≡ 6 → EndsAs e t (record { used = at + (1 + w); written = put'; sender = r.sender; tally = counts'; stop = Stop.Six }) m' o o''
      at_six x = ended Stop.Six (simp x at after_line)

      pub goes_on : (r.reply.refusal ≡ 6 → ⊥) → Going e last i o t (at + (1 + w)) put' r.sender counts' m' o''
      goes_on x =
          let b = get_or i at 0 in
          let bs = drop (at + 1) i in
          let d : drop (operands b bs) bs ≡ drop (at + (1 + w)) i = drop-drop (operands b bs) (at + 1) i ∙ ap (λ (x : ℕ). drop x i) (let z : at + 1 + operands b bs ≡ at + (1 + w) = omega (arith, goes.width) in z) in
          let n : length o - put - length (line_text (line b r.reply)) ≡ length o - put' = omega (arith, v.0) in
          let s : SoFar e (run_part front.turns last (length o - put - length (line_text (line b r.reply))) (session m' r.sender) (drop (operands b bs) bs)) o t (at + (1 + w)) put' counts' o'' = simp (ne_eqb r.reply.refusal 6 x) at after_line in
          record {
            turns = front.turns;
            enough = omega (arith, front.enough, length-drop (at + 1) i, length-drop (at + (1 + w)) i);
            done = subst (λ (y : ℕ). SoFar e (run_part front.turns last y (session m' r.sender) (drop (at + (1 + w)) i)) o t (at + (1 + w)) put' counts' o'') n (subst (λ (y : List ℕ). SoFar e (run_part front.turns last (length o - put - length (line_text (line b r.reply))) (session m' r.sender) y) o t (at + (1 + w)) put' counts' o'') d s);
          }
