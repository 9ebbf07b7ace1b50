-- Stamping row i after its insertion is inserting it stamped, so the steps are file_new with the saved entry and weight (filed_unchanged).
use mathlib.Core.Path.{ap, ◌∙◌}
use Rattle.rules.specs.Records.{Row}
use Rattle.rules.specs.Memory.{row_of}
use Rattle.filing.proofs.FiledRows.{Standing, filed_unchanged}
use Rattle.filing.proofs.file.file_unchanged.Goals as goal

pub returns : goal.returns
returns c =
    let standing : Standing c.args.key c.args.n c.index_for-i.result (row_of c.args.row) c.args.state.now c.insert_saved.new.state = record { free = c.requires.0; at = c.index_for-i.ensures; key = c.requires.1; size = c.insert_saved.auto.state; state = c.insert_saved.ensures } in
    filed_unchanged standing (c.weight-weight.ensures ∙ ap (λ (r : Row). r.weight) c.row_at.ensures) c.stored_with-stored.ensures
    c.set_stored_weight.ensures (c.last_used-used.ensures ∙ ap (λ (r : Row). r.entry.last_used) c.row_at-2.ensures) c.draw_stamp.ensures
