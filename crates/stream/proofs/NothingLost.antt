-- A run over a part of a stream, and then a run over what it left: nothing of the stream is lost, and nothing done twice.
use mathlib.Core.Path.{◌≡◌, refl, sym, ◌∙◌, ap, subst}
use Prim.Native.Nat.{ℕ, zero, suc, ◌+◌, ◌-◌, ◌≤◌, ◌<◌, min}
use native.Mathlib.Omega.{arith}
use mathlib.Core.List.{List, [], ◌∷◌, ◌++◌, append-nil}
use Rattle.std.specs.Prelude.{Option, None, Some}
use mathlib.Core.Bool.{Bool, true, false, not, ◌&&◌}
use lib.Dec.{eqb, ltb}
use lib.ListN.{length, take, drop, length-drop}
use lib.Seq.{drop-drop, drop-length, take-add}
use borrow.Author.Tests.{eqb-false, eqb-true, ltb-true}
use Rattle.rules.specs.Cases.{maybe, Every}
use Rattle.rules.specs.Commands.{Code, Decoded, Line, code, code_of, codes, decode, line, line_text, with_funding_size}
use Rattle.rules.proofs.Addresses.{contradiction}
use Rattle.rules.proofs.CommandRuns.{code_found, left_shorter}
use Rattle.commands.specs.Widths.{width_in}
use Rattle.commands.specs.OnMemory.{Session, Obeyed, obey, obey_byte, refused_six}
use Rattle.stream.specs.declared.stop.Stop.{Stop}
use Rattle.stream.specs.declared.stop.Stop.TheVariants.{Cut, End, Full, Six}
use Rattle.stream.specs.Runs.{Run, RunEnd, and_then, cut_short, cut_short_in, line_room, operands, operands_in, run_all, run_part, stopped}
use Rattle.stream.specs.Streams.{to_end}
use Rattle.stream.proofs.OneCommand.{none_stays, own_bytes, six_exactly, some_stays, takes_operands}
use Rattle.stream.proofs.Counts.{count_enough}

-- lines, and then a run
abbrev pub behind : List Line → Run → Run
behind ls r = record { lines = ls ++ r.lines; session = r.session }

-- a run that is over where a part's is
abbrev pub over : RunEnd → Run
over e = record { lines = e.lines; session = e.session }

-- ---- one command, then the rest

obeyed_none : (h : Session) (b : ℕ) (bs : List ℕ) → decode b bs ≡ None → obey_byte h b bs ≡ refused_six b h
unfolding obey_byte
obeyed_none h b bs e = rw e

obeyed_some : (h : Session) (b : ℕ) (bs : List ℕ) (d : Decoded) → decode b bs ≡ Some d → obey_byte h b bs ≡ obey h d.command
unfolding obey_byte
obeyed_some h b bs d e = rw e

all_none : (h : Session) (b : ℕ) (bs : List ℕ) → decode b bs ≡ None → to_end h (b ∷ bs) ≡ record { lines = line b (refused_six b h).reply ∷ []; session = (refused_six b h).session }
unfolding run_all
all_none h b bs e = rw e

all_some : (h : Session) (b : ℕ) (bs : List ℕ) (d : Decoded) → decode b bs ≡ Some d → to_end h (b ∷ bs) ≡ behind (line b (obey h d.command).reply ∷ []) (to_end (obey h d.command).session d.left)
unfolding run_all
all_some h b bs d e = rw e (ap (behind (line b (obey h d.command).reply ∷ [])) (count_enough (length bs) (obey h d.command).session d.left (left_shorter codes b bs d e)))

-- a 6 ends the stream, whatever follows
six_ends : (h : Session) (b : ℕ) (bs more : List ℕ) → (cut_short b bs ≡ true → more ≡ []) → (obey_byte h b bs).reply.refusal ≡ 6
    → to_end h (b ∷ (bs ++ more)) ≡ record { lines = line b (obey_byte h b bs).reply ∷ []; session = (obey_byte h b bs).session }
six_ends h b bs more c e =
    let n = (six_exactly h b bs).0 e in
    let m : decode b (bs ++ more) ≡ None = go (cut_short b bs) refl n in
    all_none h b (bs ++ more) m ∙ ap (λ (o : Obeyed). record { lines = line b o.reply ∷ []; session = o.session }) (sym (obeyed_none h b bs n))
  where
    go : (a : Bool) → cut_short b bs ≡ a → decode b bs ≡ None → decode b (bs ++ more) ≡ None
    go true f n = subst (λ (l : List ℕ). decode b l ≡ None) (sym (ap (λ (l : List ℕ). bs ++ l) (c f) ∙ append-nil bs)) n
    go false f n = none_stays codes b bs more f n

-- any other command, and then what is left
obeyed_first : (h : Session) (b : ℕ) (bs more : List ℕ) → ((obey_byte h b bs).reply.refusal ≡ 6 → ⊥)
    → to_end h (b ∷ (bs ++ more)) ≡ behind (line b (obey_byte h b bs).reply ∷ []) (to_end (obey_byte h b bs).session (drop (operands b bs) bs ++ more))
obeyed_first h b bs more ne = go (decode b bs) refl
  where
    go : (o : Option Decoded) → decode b bs ≡ o → to_end h (b ∷ (bs ++ more)) ≡ behind (line b (obey_byte h b bs).reply ∷ []) (to_end (obey_byte h b bs).session (drop (operands b bs) bs ++ more))
    go None e = absurd (ne ((six_exactly h b bs).1 e))
    go (Some d) e = rw (obeyed_some h b bs d e, ← (takes_operands codes b bs d e).left) (all_some h b (bs ++ more) (record { command = d.command; left = d.left ++ more }) (some_stays codes b bs more d e))

-- ---- how a part's run goes

abbrev first : Session → ℕ → List ℕ → Line
first h b bs = line b (obey_byte h b bs).reply

abbrev past : ℕ → List ℕ → List ℕ
past b bs = drop (operands b bs) bs

abbrev later : ℕ → Bool → ℕ → Session → ℕ → List ℕ → RunEnd
later n last room h b bs = run_part n last (room - length (line_text (first h b bs))) (obey_byte h b bs).session (past b bs)

-- what a run meets at a command: no room; one cut short while more may follow; a 6; any other
by_way : {Q : Type 0} (last : Bool) (room : ℕ) (h : Session) (b : ℕ) (bs : List ℕ) → let full = ltb room line_room in let waits = not last && cut_short b bs in let n = (obey_byte h b bs).reply.refusal in
    (full ≡ true → Q) → (full ≡ false → last ≡ false → cut_short b bs ≡ true → Q) → (full ≡ false → waits ≡ false → n ≡ 6 → Q) → (full ≡ false → waits ≡ false → eqb n 6 ≡ false → Q) → Q
by_way {Q} last room h b bs f g s o = split (ltb room line_room) f (λ x. two last (cut_short b bs) (g x) (λ y. split (eqb n 6) (λ z. s x y (eqb-true n 6 z)) (o x y)))
  where
    n : ℕ
    n = (obey_byte h b bs).reply.refusal

    split : (a : Bool) → (a ≡ true → Q) → (a ≡ false → Q) → Q
    split true f g = f refl
    split false f g = g refl

    two : (l c : Bool) → (l ≡ false → c ≡ true → Q) → (not l && c ≡ false → Q) → Q
    two true c f g = g refl
    two false true f g = f refl refl
    two false false f g = g refl

past_shorter : (b : ℕ) (bs : List ℕ) → length (past b bs) ≤ length bs
past_shorter b bs = rw (length-drop (operands b bs) bs) (omega arith)

-- ---- the parts

-- after a 6 the stream is over; else what the part left is to be run, with more behind it
abbrev Kept : Stop → Session → List ℕ → List ℕ → RunEnd → Type 0
Kept End h bs more e = to_end h (bs ++ more) ≡ behind e.lines (to_end e.session (drop e.used bs ++ more))
Kept Cut h bs more e = to_end h (bs ++ more) ≡ behind e.lines (to_end e.session (drop e.used bs ++ more))
Kept Full h bs more e = to_end h (bs ++ more) ≡ behind e.lines (to_end e.session (drop e.used bs ++ more))
Kept Six h bs more e = to_end h (bs ++ more) ≡ over e

used_on : (b k u : ℕ) (bs : List ℕ) → drop u (drop k bs) ≡ drop (1 + k + u) (b ∷ bs)
used_on b k u bs = drop-drop u k bs ∙ ap (λ (n : ℕ). drop n (b ∷ bs)) (let z : suc (k + u) ≡ 1 + k + u = omega arith in z)

kept_on : (s : Stop) (h : Session) (b : ℕ) (bs more : List ℕ) (e : RunEnd) → ((obey_byte h b bs).reply.refusal ≡ 6 → ⊥)
    → Kept s (obey_byte h b bs).session (past b bs) more e → Kept s h (b ∷ bs) more (and_then (first h b bs) (1 + operands b bs) e)
unfolding and_then
kept_on s h b bs more e ne = go s
  where
    left : to_end (obey_byte h b bs).session (past b bs ++ more) ≡ behind e.lines (to_end e.session (drop e.used (past b bs) ++ more))
        → to_end h (b ∷ (bs ++ more)) ≡ behind (first h b bs ∷ e.lines) (to_end e.session (drop (1 + operands b bs + e.used) (b ∷ bs) ++ more))
    left k = rw (← used_on b (operands b bs) e.used bs) (obeyed_first h b bs more ne ∙ ap (behind (first h b bs ∷ [])) k)

    go : (t : Stop) → Kept t (obey_byte h b bs).session (past b bs) more e → Kept t h (b ∷ bs) more (and_then (first h b bs) (1 + operands b bs) e)
    go End k = left k
    go Cut k = left k
    go Full k = left k
    go Six k = obeyed_first h b bs more ne ∙ ap (behind (first h b bs ∷ [])) k

-- where nothing follows, a command cut short is refused too
only_last : (last c : Bool) (more : List ℕ) → (last ≡ true → more ≡ []) → not last && c ≡ false → c ≡ true → more ≡ []
only_last true c more f g e = f refl
only_last false c more f g e = contradiction e g

kept : (n : ℕ) (last : Bool) (room : ℕ) (h : Session) (bs more : List ℕ) → length bs ≤ n → (last ≡ true → more ≡ []) → Kept (run_part n last room h bs).stop h bs more (run_part n last room h bs)
unfolding run_part stopped and_then
kept zero last room h [] more i f = refl
kept zero last room h (b ∷ bs) more i f = absurd (let z : ⊥ = omega arith in z)
kept (suc n) last room h [] more i f = refl
kept (suc n) last room h (b ∷ bs) more i f =
    let ih = kept n last (room - length (line_text (first h b bs))) (obey_byte h b bs).session (past b bs) more (omega (arith, past_shorter b bs)) f in
    by_way last room h b bs (λ x. rw x) (λ x l c. rw (x, c, l)) (λ x y z. rw (x, y, z) (six_ends h b bs more (only_last last (cut_short b bs) more f y) z))
    (λ x y z. rw (x, y, z) (kept_on (later n last room h b bs).stop h b bs more (later n last room h b bs) (eqb-false _ 6 z) ih))

-- ---- what a part has done is the stream of the bytes that it used

-- one command out of its own bytes, and then the next ones
own_first : (h : Session) (b : ℕ) (bs more : List ℕ) → ((obey_byte h b bs).reply.refusal ≡ 6 → ⊥) → to_end h (b ∷ (take (operands b bs) bs ++ more)) ≡ behind (first h b bs ∷ []) (to_end (obey_byte h b bs).session more)
own_first h b bs more ne = go (decode b bs) refl
  where
    go : (o : Option Decoded) → decode b bs ≡ o → to_end h (b ∷ (take (operands b bs) bs ++ more)) ≡ behind (first h b bs ∷ []) (to_end (obey_byte h b bs).session more)
    go None e = absurd (ne ((six_exactly h b bs).1 e))
    go (Some d) e = rw (obeyed_some h b bs d e) (all_some h b (take (operands b bs) bs ++ more) (record { command = d.command; left = more }) (some_stays codes b (take (operands b bs) bs) more (record { command = d.command; left = [] }) (own_bytes codes b bs d e)))

front_used : (b k u : ℕ) (bs : List ℕ) → take (1 + k + u) (b ∷ bs) ≡ b ∷ (take k bs ++ take u (drop k bs))
front_used b k u bs = ap (λ (n : ℕ). take n (b ∷ bs)) (let z : 1 + k + u ≡ suc (k + u) = omega arith in z) ∙ ap (λ (l : List ℕ). b ∷ l) (take-add k u bs)

done_so_far : (n : ℕ) (last : Bool) (room : ℕ) (h : Session) (bs : List ℕ) → ((run_part n last room h bs).stop ≡ Six → ⊥) → to_end h (take (run_part n last room h bs).used bs) ≡ over (run_part n last room h bs)
unfolding run_part run_all stopped and_then
done_so_far zero last room h bs = λ x. refl
done_so_far (suc n) last room h [] = λ x. refl
done_so_far (suc n) last room h (b ∷ bs) =
    let ih = done_so_far n last (room - length (line_text (first h b bs))) (obey_byte h b bs).session (past b bs) in
    by_way last room h b bs (λ x. rw x (λ s. refl)) (λ x l c. rw (x, c, l) (λ s. refl)) (λ x y z. rw (x, y, z) (λ s. absurd (s refl)))
    (λ x y z. rw (x, y, z) (λ s. ap (to_end h) (front_used b (operands b bs) (later n last room h b bs).used bs) ∙ own_first h b bs (take (later n last room h b bs).used (past b bs)) (eqb-false _ 6 z) ∙ ap (behind (first h b bs ∷ [])) (ih s)))

-- ---- the bytes used

operands_there : (b : ℕ) (bs : List ℕ) → operands b bs ≤ length bs
unfolding operands_in
operands_there b bs = go (width_in codes b)
  where
    go : (o : Option ℕ) → maybe o 0 (λ w. min w (length bs)) ≤ length bs
    go None = omega arith
    go (Some w) = omega arith

used_there : (n : ℕ) (last : Bool) (room : ℕ) (h : Session) (bs : List ℕ) → (run_part n last room h bs).used ≤ length bs
unfolding run_part stopped and_then
used_there zero last room h bs = omega arith
used_there (suc n) last room h [] = omega arith
used_there (suc n) last room h (b ∷ bs) =
    let ih = used_there n last (room - length (line_text (first h b bs))) (obey_byte h b bs).session (past b bs) in
    let k = operands_there b bs in
    by_way last room h b bs (λ x. rw x (omega arith)) (λ x l c. rw (x, c, l) (omega arith)) (λ x y z. rw (x, y, z) (omega arith)) (λ x y z. rw (x, y, z) (omega (arith, length-drop (operands b bs) bs)))

ends_used : (n : ℕ) (last : Bool) (room : ℕ) (h : Session) (bs : List ℕ) → length bs ≤ n → (run_part n last room h bs).stop ≡ End → (run_part n last room h bs).used ≡ length bs
unfolding run_part stopped and_then
ends_used zero last room h [] i = λ e. refl
ends_used zero last room h (b ∷ bs) i = absurd (let z : ⊥ = omega arith in z)
ends_used (suc n) last room h [] i = λ e. refl
ends_used (suc n) last room h (b ∷ bs) i =
    let ih = ends_used n last (room - length (line_text (first h b bs))) (obey_byte h b bs).session (past b bs) (omega (arith, past_shorter b bs)) in
    by_way last room h b bs (λ x. rw x (λ e. cc)) (λ x l c. rw (x, c, l) (λ e. cc)) (λ x y z. rw (x, y, z) (λ e. cc)) (λ x y z. rw (x, y, z) (λ e. omega (arith, ih e, length-drop (operands b bs) bs, operands_there b bs)))

-- ---- a command cut short

-- the widest operands: those with a funding
abbrev pub most_operands : ℕ
most_operands = with_funding_size

widths : Every (λ c. c.width ≤ most_operands) codes
unfolding codes code
widths = omega arith

cut_short_lem : (b : ℕ) (bs : List ℕ) → cut_short b bs ≡ true → length bs < most_operands
unfolding cut_short_in width_in
cut_short_lem b bs = go (code_of b codes) refl
  where
    go : (o : Option Code) → code_of b codes ≡ o → maybe (maybe o None (λ c. Some c.width)) false (λ w. ltb (length bs) w) ≡ true → length bs < most_operands
    go None e h = contradiction h refl
    go (Some c) e h = let w = (code_found (λ x. x.width ≤ most_operands) b codes c widths e).1 in let k = ltb-true (length bs) c.width h in omega arith

cut_left : (n : ℕ) (last : Bool) (room : ℕ) (h : Session) (bs : List ℕ) → (run_part n last room h bs).stop ≡ Cut → (last ≡ false) × (length bs ≤ (run_part n last room h bs).used + most_operands)
unfolding run_part stopped and_then
cut_left zero last room h bs = λ e. contradiction {b = true} refl (cc)
cut_left (suc n) last room h [] = λ e. contradiction {b = true} refl (cc)
cut_left (suc n) last room h (b ∷ bs) =
    let ih = cut_left n last (room - length (line_text (first h b bs))) (obey_byte h b bs).session (past b bs) in
    by_way last room h b bs (λ x. rw x (λ e. contradiction {b = true} refl (cc))) (λ x l c. rw (x, c, l) (λ e. (refl, omega (arith, cut_short_lem b bs c))))
    (λ x y z. rw (x, y, z) (λ e. contradiction {b = true} refl (cc))) (λ x y z. rw (x, y, z) (λ e. ((ih e).0, omega (arith, (ih e).1, length-drop (operands b bs) bs))))

-- ---- the theorems

-- a run over a part of a stream, of which more may follow: after a 6 the stream is over, whatever follows; else it goes on
-- from the session then, with the bytes that are left and what follows them; those of a command cut short are at most as many as the widest operands
pub record Part (h : Session) (bs : List ℕ) (e : RunEnd) : Type 0 where
  pub on : (e.stop ≡ Six → ⊥) → (more : List ℕ) → to_end h (bs ++ more) ≡ behind e.lines (to_end e.session (drop e.used bs ++ more))
  pub six : e.stop ≡ Six → (more : List ℕ) → to_end h (bs ++ more) ≡ over e
  pub used : e.used ≤ length bs
  pub end : e.stop ≡ End → e.used ≡ length bs
  pub cut : e.stop ≡ Cut → length bs ≤ e.used + most_operands

-- a run over the last part: it is over at its end and after a 6; else it goes on with the bytes that are left
pub record LastPart (h : Session) (bs : List ℕ) (e : RunEnd) : Type 0 where
  pub end : e.stop ≡ End → (e.used ≡ length bs) × (to_end h bs ≡ over e)
  pub six : e.stop ≡ Six → to_end h bs ≡ over e
  pub full : e.stop ≡ Full → to_end h bs ≡ behind e.lines (to_end e.session (drop e.used bs))
  pub cut : e.stop ≡ Cut → ⊥
  pub used : e.used ≤ length bs

goes_on : (s : Stop) (h : Session) (bs more : List ℕ) (e : RunEnd) → (s ≡ Six → ⊥) → Kept s h bs more e → to_end h (bs ++ more) ≡ behind e.lines (to_end e.session (drop e.used bs ++ more))
goes_on End h bs more e n k = k
goes_on Cut h bs more e n k = k
goes_on Full h bs more e n k = k
goes_on Six h bs more e n k = absurd (n refl)

-- NOTHING IS LOST
pub nothing_lost : (room : ℕ) (h : Session) (bs : List ℕ) → Part h bs (run_part (length bs) false room h bs)
nothing_lost room h bs =
    let e = run_part (length bs) false room h bs in
    let k : (more : List ℕ) → Kept e.stop h bs more e = λ more. kept (length bs) false room h bs more (omega arith) (λ x. contradiction {b = true} refl (sym x)) in
    record {
      on = λ n more. goes_on e.stop h bs more e n (k more);
      six = λ s more. subst (λ (t : Stop). Kept t h bs more e) s (k more);
      used = used_there (length bs) false room h bs;
      end = ends_used (length bs) false room h bs (omega arith);
      cut = λ s. (cut_left (length bs) false room h bs s).1;
    }

-- NOTHING IS LOST AT THE END
pub nothing_lost_at_last : (room : ℕ) (h : Session) (bs : List ℕ) → LastPart h bs (run_part (length bs) true room h bs)
unfolding run_all
nothing_lost_at_last room h bs =
    let e = run_part (length bs) true room h bs in
    let k : Kept e.stop h bs [] e = kept (length bs) true room h bs [] (omega arith) (λ x. refl) in
    let whole : to_end h (bs ++ []) ≡ to_end h bs = ap (to_end h) (append-nil bs) in
    let u = ends_used (length bs) true room h bs (omega arith) in
    let to : (s : Stop) → e.stop ≡ s → Kept s h bs [] e = λ s x. subst (λ (t : Stop). Kept t h bs [] e) x k in
    record {
      end = λ s. (u s, sym whole ∙ to End s ∙ ap (behind e.lines) (ap (λ (l : List ℕ). to_end e.session (l ++ [])) (ap (λ (n : ℕ). drop n bs) (u s) ∙ drop-length bs)) ∙ ap (λ (ls : List Line). record { lines = ls; session = e.session }) (append-nil e.lines));
      six = λ s. sym whole ∙ to Six s;
      full = λ s. sym whole ∙ to Full s ∙ ap (λ (l : List ℕ). behind e.lines (to_end e.session l)) (append-nil (drop e.used bs));
      cut = λ s. contradiction {b = true} refl (cut_left (length bs) true room h bs s).0;
      used = used_there (length bs) true room h bs;
    }

-- WHAT A PART HAS DONE IS THE STREAM OF THE BYTES THAT IT USED, run to its end
pub part_done : (last : Bool) (room : ℕ) (h : Session) (bs : List ℕ) → let e = run_part (length bs) last room h bs in (e.stop ≡ Six → ⊥) → to_end h (take e.used bs) ≡ over e
part_done last room h bs = done_so_far (length bs) last room h bs

-- and where a 6 ended the part, the whole stream, whatever bytes stand behind the 6
pub part_done_by_six : (last : Bool) (room : ℕ) (h : Session) (bs : List ℕ) → let e = run_part (length bs) last room h bs in e.stop ≡ Six → to_end h bs ≡ over e
part_done_by_six true room h bs = (nothing_lost_at_last room h bs).six
part_done_by_six false room h bs = λ s. sym (ap (to_end h) (append-nil bs)) ∙ (nothing_lost room h bs).six s []

-- A RUN GETS ON: with room for a line, and a first command that is whole, unknown, or the last, it uses bytes
pub gets_on : (last : Bool) (room : ℕ) (h : Session) (b : ℕ) (bs : List ℕ) → line_room ≤ room → not last && cut_short b bs ≡ false → 1 ≤ (run_part (length (b ∷ bs)) last room h (b ∷ bs)).used
unfolding run_part stopped and_then
gets_on last room h b bs r c = by_way last room h b bs (λ x. absurd (let z : ⊥ = omega (arith, ltb-true room line_room x) in z)) (λ x l y. let z : not last && cut_short b bs ≡ true = rw (l, y) in contradiction z c) (λ x y z. rw (x, y, z) (omega arith)) (λ x y z. rw (x, y, z) (omega arith))
