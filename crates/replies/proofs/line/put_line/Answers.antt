-- Six numbers of at most 20 digits keep the text within 129 bytes, and by `line_written` the stores in order are one run.
use mathlib.Core.Path.{◌≡◌}
use Prim.Native.Nat.{ℕ, ◌+◌, ◌≤◌, ◌<◌}
use native.Mathlib.Omega.{arith}
use lib.ListN.{length, length-set}
use Rattle.replies.proofs.Texts.{line_fits, line_written}
use Rattle.replies.proofs.line.put_line.Goals as goal

five : (c : goal.After-slice_known-3-1) → length c.args.reply.values ≡ 5
five c = omega arith

fits : (c : goal.After-slice_known-3-1) → (n : ℕ) → c.args.at + 129 ≤ n → c.put_values-end.result < n
fits c n h = line_fits _ _ _ _ _ _ c.put_number-first.ensures.0 c.put_values-end.ensures.0 (five c) h

pub bounds-out-end : goal.bounds-out-end
bounds-out-end c = fits c _ (omega (arith, c.put_values-end.auto.out, simp length-set at c.put_number-first.auto.out, c.requires))

pub overflow_add-result : goal.overflow_add-result
overflow_add-result c =
    let h = fits c _ c.requires in omega arith

pub returns-clause-value : goal.returns-clause-value
returns-clause-value c = line_written _ _ _ _ _ _ _ _ _ _ c.hex_digit.ensures c.hex_digit-2.ensures c.put_number-first.ensures.0 c.put_number-first.ensures.1 c.put_values-end.ensures.0 c.put_values-end.ensures.1
