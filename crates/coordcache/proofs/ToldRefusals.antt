-- The numbers that an exported function tells before it asks the rules: 1 of a memory that is not sound, 6 of a funding kind over 1.
use mathlib.Core.Path.{◌≡◌, refl, sym, ap, ◌∙◌, subst}
use Prim.Native.Nat.{ℕ, zero, suc, ◌≤◌, ◌<◌}
use native.Mathlib.Omega.{arith}
use mathlib.Core.List.{List}
use mathlib.Core.Bool.{Bool, true, false}
use borrow.Author.Tests.{ne_eqb}
use Rattle.types.specs.declared.node_addr.NodeAddr.{NodeAddr}
use Rattle.types.specs.declared.placed.Funding.{Funding}
use Rattle.types.specs.declared.reply.Reply.{Reply}
use Rattle.types.specs.Values.{refuses}
use Rattle.rules.specs.Sound.{sound}
use Rattle.rules.specs.Calls.{Call, Refused}
use Rattle.rules.specs.Commands.{reply}
use Rattle.rules.specs.Memory.{capacity, view}
use Rattle.rules.specs.Lent.{Lent, call, got_part}
use Rattle.rules.proofs.Public.{unsound_one}
use Rattle.lookups.proofs.UnsoundLookups.{one_got}
use Rattle.boundary.specs.Exported.{PartAt, funding_from, funded, row_taken}
use Rattle.boundary.proofs.Operands.{none_taken}
use Rattle.coordcache.specs.Places.{place_told}
use Rattle.coordcache.proofs.ToldReplies.{Says, handed}

-- ---- the test of soundness

-- it was passed
pub found_sound : {b s : Bool} → b ≡ s → b ≡ true → s ≡ true
found_sound {b} e g = sym e ∙ g

-- it was not: number 1 is told, and nothing else is done
module _ (l : List ℕ) {b : Bool} (e : b ≡ sound (capacity l) (view l)) (g : b ≡ false) where
  found_unsound : sound (capacity l) (view l) ≡ false
  found_unsound = sym e ∙ g

  pub one_leaves : (q : Call) → l ≡ (call l q).memory
  one_leaves q = sym (unsound_one l q found_unsound).memory

  pub one_says : (q : Call) {r : Reply} {n : ℕ} {vs : List ℕ} → r ≡ refuses 1 → n ≡ r.refusal → vs ≡ r.values → Says (call l q) n vs
  unfolding reply
  one_says q w a b = handed a b ∙ w ∙ sym (ap reply (unsound_one l q found_unsound).answer)

  -- with a funding whose kind names one
  pub one_leaves_funded : (kind amount : ℕ) (f : Funding → Call) → kind ≤ 1 → l ≡ (funded l kind amount f).memory
  unfolding funded funding_from
  one_leaves_funded zero amount f z = one_leaves (f _)
  one_leaves_funded (suc zero) amount f z = one_leaves (f _)
  one_leaves_funded (suc (suc k)) amount f z = let y : ⊥ = omega arith in absurd y

  pub one_says_funded : (kind amount : ℕ) (f : Funding → Call) {r : Reply} {n : ℕ} {vs : List ℕ}
      → kind ≤ 1 → r ≡ refuses 1 → n ≡ r.refusal → vs ≡ r.values → Says (funded l kind amount f) n vs
  unfolding funded funding_from
  one_says_funded zero amount f z w a b = one_says (f _) w a b
  one_says_funded (suc zero) amount f z w a b = one_says (f _) w a b
  one_says_funded (suc (suc k)) amount f z w a b = let y : ⊥ = omega arith in absurd y

  -- a lookup finds no part
  pub no_part : (k : NodeAddr) (time at : ℕ) → PartAt at l (got_part k time l)
  no_part k time at = subst (λ (x : List ℕ). PartAt at l x) (one_got l k time found_unsound) refl

  -- remove takes no row
  pub no_row : (k : NodeAddr) (row : List ℕ) → row ≡ row_taken k l row
  no_row k row = none_taken l k row found_unsound

-- with number 1 a lookup leaves what stood in `at`
pub place_kept : (l : List ℕ) (k : NodeAddr) (time at : ℕ) {n : ℕ} {r : Reply} → r ≡ refuses 1 → n ≡ r.refusal → at ≡ place_told n at k time l
unfolding place_told refuses
place_kept l k time at {n} w a =
    let one : n ≡ 1 = a ∙ ap (λ (x : Reply). x.refusal) w in
    rw (ne_eqb n 0 (λ z. let y : ⊥ = omega arith in y))

-- ---- a funding kind over 1

module _ (l : List ℕ) (kind amount : ℕ) (f : Funding → Call) (z : 1 < kind) where
  six : funded l kind amount f ≡ record { answer = Refused 6; memory = l }
  unfolding funded funding_from
  six = rw (ne_eqb kind 0 (λ q. let y : ⊥ = omega arith in y), ne_eqb kind 1 (λ q. let y : ⊥ = omega arith in y))

  pub six_leaves : l ≡ (funded l kind amount f).memory
  six_leaves = ap (λ (t : Lent). t.memory) (sym six)

  pub six_says : {r : Reply} {n : ℕ} {vs : List ℕ} → r ≡ refuses 6 → n ≡ r.refusal → vs ≡ r.values → Says (funded l kind amount f) n vs
  unfolding reply
  six_says w a b = handed a b ∙ w ∙ ap (λ (t : Lent). reply t.answer) (sym six)

pub ruleset refused = (found_sound, one_leaves, one_says, one_leaves_funded, one_says_funded, no_part, no_row, place_kept, six_leaves, six_says)
