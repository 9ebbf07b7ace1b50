-- With the place open, the store at j changes row j alone, and by `row_view` the bytes of the new row are read as that row.
use mathlib.Core.Path.{ap, ◌∙◌}
use native.Mathlib.Omega.{arith}
use Rattle.rules.specs.Records.{Row}
use Rattle.rules.specs.Memory.{row_bytes, view_rows}
use Rattle.rules.proofs.ViewLaws.{row_length, row_view}
use Rattle.rows.specs.Insertions.{row_from, exchanged}
use Rattle.rows.proofs.ExchangeLaws.{exchange_view}
use Rattle.rows.proofs.exchange.exchange_row.Goals as goal

pub returns : goal.returns
returns c =
    let l = c.args.state.now in
    let r = row_from c.args.r in
    let f = c.write_row.ensures.row_fits in
    rw c.write_row.ensures.s_after
    (exchange_view (view_rows c.args.n l) c.open_place.new.state (row_bytes r) c.args.n c.args.i c.args.j c.requires.1
    (omega (arith, c.open_place.auto.state, c.requires.2)) (row_length r f) c.open_place.ensures
    ∙ ap (λ (x : Row). exchanged c.args.i c.args.j x (view_rows c.args.n l)) (row_view r f))
