-- The weight is summed over the rows kept, so what shrink leaves is the state with only these rows.
use Rattle.retention.proofs.KeptRows.{swept}
use Rattle.retention.proofs.rows.retain_rows.Goals as goal

pub returns-clause-swept : goal.returns-clause-swept
returns-clause-swept g c = swept _ c.keep_rows-kept.ensures c.weight_of-stored.ensures c.shrink.ensures
