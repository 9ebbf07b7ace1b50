-- without_key has the search's two cases: take_out of row i where it was found, the state itself where it was not.
use Rattle.verification.proofs.VerifiedRows.{out_held}
use Rattle.verification.proofs.insert.take_out.Goals as goal

pub returns-in-Ok : goal.returns-in-Ok
returns-in-Ok c = λ k e. out_held k _ e c.in-Ok.is c.remove_row.ensures
