-- A touch that tells a length left the row where it was, so its path stands where it stood.
use Rattle.lookups.proofs.PathPlaces.{placed}
use Rattle.lookups.proofs.touch.touch_row.Goals as goal

pub returns-in-Some-clause-place : goal.returns-in-Some-clause-place
returns-in-Some-clause-place c = search placed
