-- Each part's contract says that its values fit.
use Rattle.rows.proofs.RowImage.{new_row_fits}
use Rattle.rows.proofs.row.write_row.Goals as goal

pub returns-clause-row_fits : goal.returns-clause-row_fits
returns-clause-row_fits c =
    new_row_fits c.args.r c.store_addr.ensures.addr_fits c.store_path.ensures.path_fits c.requires.1 c.write_times.ensures.small c.write_marks.ensures.small c.write_stamp.ensures.small
