-- Shift and store leave the rows before i, the new row's bytes and the rows from i on; `row_view` reads the bytes as the row.
use mathlib.Core.Path.{ap, ◌∙◌}
use Rattle.rules.specs.Records.{Row}
use Rattle.rules.specs.Memory.{row_bytes, view_rows}
use Rattle.rules.proofs.ViewLaws.{row_length, row_view}
use Rattle.rows.specs.Insertions.{row_from, inserted}
use Rattle.rows.proofs.InsertLaws.{insert_view}
use Rattle.rows.proofs.insert.insert_row.Goals as goal

pub returns : goal.returns
returns c =
    let l = c.args.state.now in
    let r = row_from c.args.r in
    let f = c.write_row.ensures.row_fits in
    c.set_row_count.ensures ∙ rw c.write_row.ensures.s_after
    (insert_view l _ (row_bytes r) c.args.n c.args.i c.requires.0 c.requires.1 (row_length r f) c.shift_up.auto.s c.shift_up.ensures
    ∙ ap (λ (x : Row). inserted c.args.i x (view_rows c.args.n l)) (row_view r f))
