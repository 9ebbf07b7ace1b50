-- The rules' branches, at the operands of a hint.
use Rattle.std.specs.Prelude.{ℕ, Bool, false}
use Rattle.types.specs.declared.placed.Segment.{Segment}
use Rattle.types.specs.declared.placed.Segment.TheVariants.{Main}
use Rattle.types.specs.declared.placed.HintOutcome.{HintOutcome}
use Rattle.types.specs.declared.placed.HintOutcome.TheVariants.{Inserted}
use Rattle.types.specs.Paths.{path_weight}
use Rattle.rules.specs.Records.{Entry, Row, State, by_use}
use Rattle.rules.specs.Rows.{row_at}
use Rattle.rules.specs.Room.{Room, file_new, refile}
use Rattle.rules.specs.Placement.{PlaceResult, place_result}
use Rattle.rules.specs.Entries as entry
use Rattle.rules.specs.Placement as rule
use Rattle.placement.specs.declared.operands.Hint.{Hint}

unfoldable pub new_entry : Hint → Entry
new_entry h = entry.new_entry h.path.now h.time h.ttl

unfoldable pub update : Hint → Entry → Entry
update h e = entry.update h.path.now h.time h.ttl e

-- ---- a new key

unfoldable pub new_in_probation : Hint → Bool → ℕ → State → PlaceResult
new_in_probation h unfunded n s = rule.new_in_probation h.key (new_entry h) (path_weight h.path.now) unfunded n s

-- s is without the victim
unfoldable pub new_in_main : Hint → ℕ → State → PlaceResult
new_in_main h examined s = place_result Inserted (path_weight h.path.now) Main false examined (file_new h.key (new_entry h) (path_weight h.path.now) by_use s)

unfoldable pub new_without_room : Hint → Room → PlaceResult
new_without_room h m = rule.new_without_room h.funding h.key (new_entry h) (path_weight h.path.now) m

unfoldable pub place_new : Hint → State → PlaceResult
place_new h s = rule.place_new h.key h.path.now h.time h.ttl h.funding s

-- ---- a held key, that of row i

unfoldable pub held_outcome : Hint → Row → HintOutcome
held_outcome h r = rule.held_outcome h.path.now r

-- updated and refiled at weight w, with nothing added
unfoldable pub refile_held : Hint → ℕ → Segment → ℕ → State → PlaceResult
refile_held h w g i s = place_result (held_outcome h (row_at i s.rows)) 0 g false 0 (refile (update h (row_at i s.rows).entry) w i s)

unfoldable pub promote : Hint → ℕ → ℕ → State → PlaceResult
promote h charge i s = rule.promote h.key h.path.now h.time h.ttl charge i s

unfoldable pub place_probation : Hint → ℕ → State → PlaceResult
place_probation h i s = rule.place_probation h.key h.path.now h.time h.ttl h.funding i s

unfoldable pub grow : Hint → ℕ → ℕ → State → PlaceResult
grow h w i s = rule.grow h.key h.path.now h.time h.ttl h.stated w i s

unfoldable pub place_main : Hint → ℕ → State → PlaceResult
place_main h i s = rule.place_main h.key h.path.now h.time h.ttl h.funding h.stated i s

unfoldable pub place_held : Hint → ℕ → State → PlaceResult
place_held h i s = rule.place_held h.key h.path.now h.time h.ttl h.funding h.stated i s

unfoldable pub place_hint : Hint → State → PlaceResult
place_hint h s = rule.place_hint h.key h.path.now h.time h.ttl h.funding h.stated s
