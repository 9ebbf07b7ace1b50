-- Which entries a call sweeps.
use Rattle.std.specs.Prelude.{ℕ, ◌≡◌, List, Bool, true, None}
use Rattle.rules.specs.Records.{Entry, State}
use Rattle.rules.specs.Sound.{sound}
use Rattle.rules.specs.Calls.{Call}
use Rattle.rules.specs.Refusals.{refusal, Asked, perform, sweeps}
use Rattle.rules.specs.Memory.{capacity, view}

-- call q sweeps the entries of test p
pub record Sweeps (q : Call) (p : Entry → Bool) : Type 0 where
  pub does : (s : State) → perform s q ≡ sweeps p s
  pub allowed : (l : List ℕ) → sound (capacity l) (view l) ≡ true → refusal (capacity l) (view l) (Asked q) ≡ None
