-- Where no row leaves, the rows kept are all rows, and the head's count and weight are theirs already.
use Rattle.retention.proofs.KeptRows.{unswept}
use Rattle.retention.proofs.rows.retain_entries.Goals as goal

pub returns-clause-swept : goal.returns-clause-swept
returns-clause-swept g c = λ test t. unswept test _ _ c.requires.rows.3 c.requires.rows.4 (c.any_leaves.ensures c.if-any_leaves.false test t)
