-- Exchanging row i for the new one is take_out, then file_new: the row count stays n, and the zero row that take_out adds is the one file_new drops.
use mathlib.Core.Path.{refl}
use Rattle.rows.specs.Insertions.{row_from}
use Rattle.entries.specs.NewEntries.{entry_from}
use Rattle.filing.proofs.FiledOverVictim.{filed_over}
use Rattle.filing.proofs.file.file_over_victim.Goals as goal

pub returns : goal.returns
unfolding row_from entry_from
returns c =
    filed_over c.requires.0 c.index_without-j.ensures c.weight_with.ensures
    c.set_stored_weight.ensures c.next_key-next.ensures.0 c.next_key-next.ensures.1 c.set_row_count.ensures refl c.exchange_row.ensures
