-- The search's index is where insert_in_order puts the row, and stored_weight, the sum over main rows, grows by the weight of a main row.
use mathlib.Core.Path.{refl}
use Rattle.rows.specs.Insertions.{row_from}
use Rattle.entries.specs.NewEntries.{entry_from}
use Rattle.filing.proofs.FiledRows.{filed}
use Rattle.filing.proofs.file.file_new.Goals as goal

pub returns : goal.returns
unfolding row_from entry_from
returns c =
    filed c.requires.0 c.index_for-i.ensures c.stored_with-stored.ensures
    c.set_stored_weight.ensures c.next_key-seq.ensures.0 c.next_key-seq.ensures.1 refl c.insert_row.ensures
