-- The number and the five values that an exported function tells are those of the rules' reply to the call that its operands name.
use mathlib.Core.Path.{◌≡◌, ap, ◌∙◌, subst}
use Prim.Native.Nat.{ℕ}
use mathlib.Core.List.{List}
use Rattle.std.specs.Prelude.{Some}
use mathlib.Core.Bool.{Bool, true, false}
use mir.Val.{bool_byte}
use Rattle.types.specs.declared.placed.Funding.{Funding}
use Rattle.types.specs.declared.reply.Reply.{Reply}
use Rattle.types.specs.Values.{bit}
use Rattle.rules.specs.Calls.{Answer, Call}
use Rattle.rules.specs.Commands.{reply}
use Rattle.rules.specs.Lent.{Lent, call}
use Rattle.boundary.specs.Exported.{Told, funding_from, funded}

-- what is told is the rules' reply
abbrev pub Says : Lent → ℕ → List ℕ → Type 0
Says t n vs = ◌≡◌ {A = Reply} (record { refusal = n; values = vs }) (reply t.answer)

-- a reply r was handed over: its number came back, and its values went out
module _ {r : Reply} {n : ℕ} {vs : List ℕ} (a : n ≡ r.refusal) (b : vs ≡ r.values) where
  pub handed : ◌≡◌ {A = Reply} (record { refusal = n; values = vs }) r
  handed = let w : ◌≡◌ {A = Reply} (record { refusal = n; values = vs }) (record { refusal = r.refusal; values = r.values }) = rw (a, b) in w

  pub told : (t : Lent) {m : List ℕ} → r ≡ reply t.answer → m ≡ t.memory → Told t n vs m
  told t e d = record { says = handed ∙ e; leaves = d }

  -- the call q was made, and q is the call q' that the operands name
  pub told_call : (l : List ℕ) {q q' : Call} {x : Answer} {m : List ℕ} → r ≡ reply x → x ≡ (call l q).answer → m ≡ (call l q).memory → q ≡ q'
      → Told (call l q') n vs m
  told_call l {q} {m = m} e d k f = subst (λ (y : Call). Told (call l y) n vs m) f (told (call l q) (e ∙ ap reply d) k)

-- the call was made with the funding that the kind names
pub told_funded : (l : List ℕ) (kind amount : ℕ) (f : Funding → Call) {q : Call} {y : Funding} {x : Answer} {r : Reply} {n : ℕ} {vs m : List ℕ}
    → funding_from kind amount ≡ Some y → r ≡ reply x → n ≡ r.refusal → vs ≡ r.values → x ≡ (call l q).answer → m ≡ (call l q).memory → q ≡ f y
    → Told (funded l kind amount f) n vs m
unfolding funded
told_funded l kind amount f w e a b d k g = rw w (told_call a b l e d k g)

-- a bool as a number
pub sound_bit : {b s : Bool} → b ≡ s → bool_byte b ≡ bit s
unfolding bit
sound_bit {s = true} e = ap bool_byte e
sound_bit {s = false} e = ap bool_byte e
