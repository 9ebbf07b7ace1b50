-- One command of a stream: the bytes that it takes, when it is refused by 6, and what bytes behind it change.
use mathlib.Core.Path.{◌≡◌, refl, sym, ◌∙◌, ap, subst}
use Prim.Native.Nat.{ℕ, ◌≤◌, min}
use native.Mathlib.Omega.{arith}
use mathlib.Core.List.{List, [], ◌++◌}
use Rattle.std.specs.Prelude.{Option, None, Some}
use mathlib.Core.Bool.{Bool, true, false, cond}
use lib.Dec.{leb, ltb}
use lib.ListN.{length, take, drop, length-append}
use lib.Seq.{take-append-le, drop-append-le, take-length, drop-length, length-take-le}
use borrow.Author.Tests.{le-leb, le-ltb, ltb-false}
use Rattle.types.specs.declared.sender.Sender.{Sender}
use Rattle.types.specs.Senders.{emptied}
use Rattle.types.specs.Values.{refuses}
use Rattle.rules.specs.Cases.{maybe}
use Rattle.rules.specs.Memory.{capacity, view}
use Rattle.rules.specs.Refusals.{Request, Asked}
use Rattle.rules.specs.Lent.{lent}
use Rattle.rules.specs.Commands.{Code, Command, Element, WithPath, Plain, Decoded, code_of, decode, decode_in, reads}
use Rattle.rules.proofs.Addresses.{contradiction}
use Rattle.rules.proofs.Refused.{Iff}
use Rattle.rules.proofs.CommandRuns.{Reads, answer_not_six, element_not_six, taken}
use Rattle.commands.specs.Widths.{width_in}
use Rattle.commands.specs.OnMemory.{Session, answered, obey, obey_byte, pended, refused_six}
use Rattle.commands.proofs.Operands.{unknown_none}
use Rattle.stream.specs.Runs.{cut_short_in, operands_in}

-- ---- a known code and an unknown one, of any table cs

-- what a code's operands say, and the bytes past them
abbrev said : Code → List ℕ → Option Decoded
said c bs = maybe (reads c (take c.width bs)) None (λ q. Some (record { command = q; left = drop c.width bs }))

module _ (cs : List Code) (b : ℕ) (bs : List ℕ) where
  decode_at : (c : Code) → code_of b cs ≡ Some c → decode_in cs b bs ≡ cond (leb c.width (length bs)) (said c bs) None
  unfolding decode_in
  decode_at c e = rw e

  operands_at : (c : Code) → code_of b cs ≡ Some c → operands_in cs b bs ≡ min c.width (length bs)
  unfolding operands_in width_in
  operands_at c e = rw e

  cut_at : (c : Code) → code_of b cs ≡ Some c → cut_short_in cs b bs ≡ ltb (length bs) c.width
  unfolding cut_short_in width_in
  cut_at c e = rw e

-- ---- the bytes that a command takes

pub record Takes (cs : List Code) (b : ℕ) (bs : List ℕ) (d : Decoded) : Type 0 where
  pub not_cut : cut_short_in cs b bs ≡ false
  pub left : d.left ≡ drop (operands_in cs b bs) bs
  pub reads : Reads cs b bs d.command

-- A COMMAND TAKES ITS OPERANDS AND NO MORE
pub takes_operands : (cs : List Code) (b : ℕ) (bs : List ℕ) (d : Decoded) → decode_in cs b bs ≡ Some d → Takes cs b bs d
takes_operands cs b bs d e =
    let t = taken cs b bs d e in
    let r = t.operands in
    let w = r.code.width in
    record {
      not_cut = cut_at cs b bs r.code r.known ∙ le-ltb (length bs) w r.there;
      left = t.left ∙ ap (λ (n : ℕ). drop n bs) (let z : w ≡ operands_in cs b bs = omega (arith, operands_at cs b bs r.code r.known, r.there) in z);
      reads = r;
    }

-- A COMMAND CUT SHORT IS NONE
pub cut_none : (cs : List Code) (b : ℕ) (bs : List ℕ) → cut_short_in cs b bs ≡ true → decode_in cs b bs ≡ None
cut_none cs b bs h = go (decode_in cs b bs) refl
  where
    go : (o : Option Decoded) → decode_in cs b bs ≡ o → decode_in cs b bs ≡ None
    go None e = e
    go (Some d) e = contradiction h (takes_operands cs b bs d e).not_cut

-- ---- bytes behind it

-- the same command, with more bytes left
abbrev pub and_more : List ℕ → Option Decoded → Option Decoded
and_more more o = maybe o None (λ d. Some (record { command = d.command; left = d.left ++ more }))

-- BYTES BEHIND A COMMAND THAT IS NOT CUT CHANGE NOTHING, be it unknown or of a kind over 1 too
pub more_same : (cs : List Code) (b : ℕ) (bs more : List ℕ) → cut_short_in cs b bs ≡ false → decode_in cs b (bs ++ more) ≡ and_more more (decode_in cs b bs)
more_same cs b bs more h = go (code_of b cs) refl
  where
    read : (c : Code) (o : Option Command) (l : List ℕ) → maybe o None (λ q. Some (record { command = q; left = l ++ more })) ≡ and_more more (maybe o None (λ q. Some (record { command = q; left = l })))
    read c None l = refl
    read c (Some q) l = refl

    at : (c : Code) → code_of b cs ≡ Some c → c.width ≤ length bs → decode_in cs b (bs ++ more) ≡ and_more more (decode_in cs b bs)
    at c e w =
        let w2 : c.width ≤ length (bs ++ more) = omega (arith, length-append bs more) in
        let x : decode_in cs b (bs ++ more) ≡ said c (bs ++ more) = decode_at cs b (bs ++ more) c e ∙ ap (λ (a : Bool). cond a (said c (bs ++ more)) None) (le-leb c.width (length (bs ++ more)) w2) in
        let y : decode_in cs b bs ≡ said c bs = decode_at cs b bs c e ∙ ap (λ (a : Bool). cond a (said c bs) None) (le-leb c.width (length bs) w) in
        let z : said c (bs ++ more) ≡ and_more more (said c bs) = rw (take-append-le c.width bs more w, drop-append-le c.width bs more w) (read c (reads c (take c.width bs)) (drop c.width bs)) in
        x ∙ z ∙ ap (and_more more) (sym y)

    go : (o : Option Code) → code_of b cs ≡ o → decode_in cs b (bs ++ more) ≡ and_more more (decode_in cs b bs)
    go None e = unknown_none cs b (bs ++ more) e ∙ ap (and_more more) (sym (unknown_none cs b bs e))
    go (Some c) e = at c e (ltb-false (length bs) c.width (sym (cut_at cs b bs c e) ∙ h))

pub none_stays : (cs : List Code) (b : ℕ) (bs more : List ℕ) → cut_short_in cs b bs ≡ false → decode_in cs b bs ≡ None → decode_in cs b (bs ++ more) ≡ None
none_stays cs b bs more h e = more_same cs b bs more h ∙ ap (and_more more) e

pub some_stays : (cs : List Code) (b : ℕ) (bs more : List ℕ) (d : Decoded) → decode_in cs b bs ≡ Some d → decode_in cs b (bs ++ more) ≡ Some (record { command = d.command; left = d.left ++ more })
some_stays cs b bs more d e = more_same cs b bs more (takes_operands cs b bs d e).not_cut ∙ ap (and_more more) e

-- ITS OWN BYTES ARE ENOUGH
pub own_bytes : (cs : List Code) (b : ℕ) (bs : List ℕ) (d : Decoded) → decode_in cs b bs ≡ Some d → decode_in cs b (take (operands_in cs b bs) bs) ≡ Some (record { command = d.command; left = [] })
own_bytes cs b bs d e =
    let r = (takes_operands cs b bs d e).reads in
    let c = r.code in
    let own = take c.width bs in
    let n : length own ≡ c.width = length-take-le c.width bs r.there in
    let x : take c.width own ≡ own = subst (λ (k : ℕ). take k own ≡ own) n (take-length own) in
    let y : drop c.width own ≡ [] = subst (λ (k : ℕ). drop k own ≡ []) n (drop-length own) in
    let z : operands_in cs b bs ≡ c.width = omega (arith, operands_at cs b bs c r.known, r.there) in
    rw (z, decode_at cs b own c r.known, le-leb c.width (length own) (omega (arith, n)), x, y, r.says)

-- ---- number 6

answered_not_six : (l : List ℕ) (x : Request) (k : Sender) → (answered (lent l x) k).reply.refusal ≡ 6 → ⊥
unfolding answered lent
answered_not_six l x k = answer_not_six (capacity l) (view l) x

-- what a command says is not 6
pub obeyed_not_six : (h : Session) (c : Command) → (obey h c).reply.refusal ≡ 6 → ⊥
unfolding obey pended
obeyed_not_six h (Element e) = element_not_six h.sender.pending e
obeyed_not_six h (WithPath f) = answered_not_six h.memory (Asked (f h.sender)) (emptied h.sender)
obeyed_not_six h (Plain x) = answered_not_six h.memory x h.sender

-- NUMBER 6 IS GIVEN EXACTLY IF THE BYTES MAKE NO COMMAND
pub six_exactly : (h : Session) (b : ℕ) (bs : List ℕ) → Iff ((obey_byte h b bs).reply.refusal ≡ 6) (decode b bs ≡ None)
unfolding obey_byte refused_six refuses
six_exactly h b bs = go (decode b bs)
  where
    go : (o : Option Decoded) → Iff ((maybe o (refused_six b h) (λ d. obey h d.command)).reply.refusal ≡ 6) (o ≡ None)
    go None = (λ e. refl, λ e. refl)
    go (Some d) = (λ e. absurd (obeyed_not_six h d.command e), λ e. contradiction {b = true} refl (cc))
