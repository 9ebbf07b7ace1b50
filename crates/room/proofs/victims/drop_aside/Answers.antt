-- A row leaves where it is aside, so the sweep keeps exactly the others.
use Rattle.std.proofs.Common.{rules, tests}
use Rattle.rules.specs.Records.{aside}
use Rattle.rules.specs.Rows.{at_place}
use Rattle.retention.specs.Sweep.{kept_rows}
use Rattle.room.proofs.victims.drop_aside.Goals as goal

pub returns : goal.returns
unfolding kept_rows at_place
returns c =
    let r = c.retain_rows.ensures in
    (r.few, (r.swept (at_place aside) (λ x b f k. search (rules, tests))).1)
