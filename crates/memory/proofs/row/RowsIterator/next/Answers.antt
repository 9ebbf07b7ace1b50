-- The row that is given is the first of those to come, and the others come after it.
use mathlib.Core.Path.{◌≡◌, ap, sym, ◌∙◌}
use Prim.Native.Nat.{ℕ}
use native.Mathlib.Omega.{arith}
use mathlib.Core.List.{[]}
use lib.ListN.{length}
use borrow.Author.Rules.{rules}
use Rattle.rules.specs.Memory.{rows_of}
use Rattle.memory.proofs.Fields.{first_row}
use Rattle.memory.proofs.row.RowsIterator.next.Goals as goal

pub returns-then-self-eq0-clause-steps : goal.returns-then-self-eq0-clause-steps
unfolding rows_of
returns-then-self-eq0-clause-steps c =
    let e : c.args.self.now ≡ [] = sym c.self.view_is ∙ ap (λ (n : ℕ). rows_of n c.self.inside.bytes.now) c.if-self-eq0.true in
    (e, e)

pub returns-clause-steps : goal.returns-clause-steps
returns-clause-steps c = sym c.self.view_is ∙ first_row _ _ (omega (arith, c.if-self-eq0.false)) ∙ rw (← c.split_at.ensures.front, ← c.split_at.ensures.back)

pub returns-clause-goes : goal.returns-clause-goes
returns-clause-goes c =
    let e = ap length (returns-clause-steps c) in
    record { on = λ _. search (rules, e); keeps = search rules; rests = search rules }
