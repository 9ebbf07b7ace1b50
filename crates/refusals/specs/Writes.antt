-- The refusals of a call that takes a path and draws stamps.
use Rattle.std.specs.Prelude.{cond, Result, Ok, Err}
use Rattle.types.specs.declared.coord.Path.{Path}
use Rattle.types.specs.declared.refusal.Refusal.{Refusal}
use Rattle.types.specs.declared.refusal.Refusal.TheVariants.{PathLength, StampsSpent}
use Rattle.rules.specs.Records.{State}
use Rattle.rules.specs.Refusals.{bad_path, seq_spent}

-- 2, else 3, else none
unfoldable pub write_refusal : Path → State → Result (Unit {0}) Refusal
write_refusal p s = cond (bad_path p) (Err PathLength) (cond (seq_spent s) (Err StampsSpent) (Ok tt))
