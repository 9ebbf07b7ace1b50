-- Each turn compares one row of those of which it is not known whether they stand before the key or behind it.
use mathlib.Core.Path.{sym, ◌∙◌}
use native.Mathlib.Omega.{arith}
use Rattle.rules.proofs.Foreign.{view_length}
use Rattle.search.proofs.RisingRows.{halved_start, halved_less, halved_equal, halved_greater, halved_end}
use Rattle.search.proofs.keys.search.Goals as goal

pub loop-lo-init : goal.loop-lo-init
loop-lo-init c = (omega arith, halved_start _ _ c.args.n (view_length c.args.n c.args.state.now))

pub loop-lo-preserved-in-Less : goal.loop-lo-preserved-in-Less
loop-lo-preserved-in-Less c = (c.loop-lo.invariant.0, halved_less c.loop-lo.invariant.1 c.requires.0 _ c.probe-mid.ensures.0 c.probe-mid.ensures.1 c.row_at-row.ensures (sym c.in-Less.is ∙ c.order_to-order.ensures))

pub returns-in-Equal : goal.returns-in-Equal
returns-in-Equal c = halved_equal c.loop-lo.invariant.1 c.requires.0 _ c.probe-mid.ensures.0 c.probe-mid.ensures.1 c.row_at-row.ensures (sym c.in-Equal.is ∙ c.order_to-order.ensures)

pub loop-lo-preserved : goal.loop-lo-preserved
loop-lo-preserved c = (omega arith, halved_greater c.loop-lo.invariant.1 c.requires.0 _ c.probe-mid.ensures.0 c.probe-mid.ensures.1 c.row_at-row.ensures (sym c.in-Greater.is ∙ c.order_to-order.ensures))

pub returns : goal.returns
returns c = halved_end c.loop-lo.invariant.1 c.loop-lo-test.false
