-- By `gap_closed`, what `shift_down` leaves has row i missing from the rows, and the same head and rest.
use Rattle.memory.proofs.RowLaws.{gap_closed}
use Rattle.memory.proofs.rows.close_gap.Goals as goal

pub returns : goal.returns
returns c = gap_closed c.args.state.now _ c.args.n c.args.i c.requires.0 c.requires.1 c.shift_down.auto.s c.shift_down.ensures
