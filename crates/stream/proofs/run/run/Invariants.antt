-- Where the loop stands the whole run is the lines so far and the run from there on; a command found is one turn more, and the others end it.
use mathlib.Core.Path.{◌≡◌}
use Prim.Native.Nat.{◌-◌, ◌≤◌}
use lib.ListN.{length}
use Rattle.rules.specs.Sound.{sound}
use Rattle.rules.specs.Memory.{capacity, view}
use Rattle.commands.specs.OnMemory.{session}
use Rattle.stream.specs.Runs.{run_part}
use Rattle.stream.specs.Running.{Going}
use Rattle.stream.proofs.run.run.Given as goal

abbrev pub invariant-loop-at : goal.invariant-loop-at
invariant-loop-at l =
    record {
      used : l.at ≤ length l.input;
      written : l.put ≤ length l.output;
      sounds : l.is_sound ≡ sound (capacity l.state) (view l.state);
      going : Going (run_part (length l.input) l.last (length l.initial.output) (session l.initial.state l.initial.from) l.input) l.last l.input l.initial.output l.initial.counts l.at l.put l.from l.counts l.state l.output;
    }

abbrev pub decreases-loop-at : goal.decreases-loop-at
decreases-loop-at l = length l.input - l.at
