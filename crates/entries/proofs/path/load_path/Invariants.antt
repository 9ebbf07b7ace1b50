-- The loop has copied the places before `place`.
use mathlib.Core.Path.{◌≡◌}
use mathlib.Core.List.{◌++◌}
use lib.ListN.{length, take, drop}
use Rattle.types.specs.Paths.{path_places}
use Rattle.entries.proofs.path.load_path.Given as goal

abbrev pub invariant-loop-place : goal.invariant-loop-place
invariant-loop-place l = (length l.initial.entries ≡ path_places) × (l.entries ≡ take l.place l.row.entry.path.entries ++ drop l.place l.initial.entries) × (length l.entries ≡ path_places)
