-- Each victim set aside takes 1 from the count and its weight from main's sum; what is still to choose stays the same.
use mathlib.Core.Path.{◌≡◌}
use mathlib.Core.Bool.{false}
use Rattle.rules.specs.Memory.{view_rows}
use Rattle.stamps.specs.Walked.{MainIs}
use Rattle.room.proofs.ChosenVictims.{Call, fits, Choice}
use Rattle.room.proofs.victims.choose_victims.Given as goal

abbrev pub invariant-loop-i : goal.invariant-loop-i
invariant-loop-i l = let q : Call = record { now = l.time; w = l.w; n = l.n; memory = l.initial.state; max = l.max; mains = l.initial.left } in
    Choice q l.left l.stored l.examined l.state × MainIs l.main (view_rows l.n l.state).rows × (fits q l.left l.stored ≡ false)

abbrev pub decreases-loop-i : goal.decreases-loop-i
decreases-loop-i l = l.left
