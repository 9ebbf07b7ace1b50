-- The parts that a shift leaves are the rows but row i, with a place at j: by `opened_down` where i < j, else by `opened_up`.
use Rattle.rows.proofs.ExchangeLaws.{opened_down, opened_up}
use Rattle.rows.proofs.exchange.open_place.Goals as goal

pub returns-then-i-j : goal.returns-then-i-j
returns-then-i-j c = rw c.shift_down.ensures (opened_down c.args.state.now c.args.n c.args.i c.args.j c.requires.2 c.if-i-j.true c.requires.1)

pub returns-else-i-j : goal.returns-else-i-j
returns-else-i-j c = rw c.shift_up.ensures (opened_up c.args.state.now c.args.n c.args.i c.args.j c.requires.2 c.if-i-j.false c.requires.0)
