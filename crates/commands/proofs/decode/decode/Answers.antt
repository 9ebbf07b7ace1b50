-- Fewer bytes than the width: a command that is cut.
use mathlib.Core.Path.{sym, ◌∙◌}
use native.Mathlib.Omega.{arith}
use lib.ListN.{length-drop}
use Rattle.commands.specs.Reading.{named}
use Rattle.commands.proofs.Operands.{cut_read}
use Rattle.commands.proofs.decode.decode.Goals as goal

pub returns-then-input-at : goal.returns-then-input-at
unfolding named
returns-then-input-at c = cut_read c.args.code _ (sym c.width_of.ensures ∙ c.in_ok-width.was) (omega (arith, length-drop c.args.at c.args.input.now))
