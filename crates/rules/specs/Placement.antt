-- Placement of document 01 (place_hint), in its five steps, and insert_verified.
-- A branch that goes on stands in a `let` before the question that chooses it.
use Rattle.std.specs.Prelude.{ℕ, ◌+◌, ◌-◌, max, Bool, true, false, cond, ◌&&◌, ◌||◌, not, leb, Option}
use Rattle.types.specs.declared.node_addr.NodeAddr.{NodeAddr}
use Rattle.types.specs.declared.coord.Path.{Path}
use Rattle.types.specs.Paths.{same_path, path_weight}
use Rattle.types.specs.declared.placed.Funding.{Funding}
use Rattle.types.specs.declared.placed.Funding.TheVariants.{Upto, Uncharged}
use Rattle.types.specs.declared.placed.Segment.{Segment}
use Rattle.types.specs.declared.placed.Segment.TheVariants.{Main, Probation}
use Rattle.types.specs.declared.placed.HintOutcome.{HintOutcome}
use Rattle.types.specs.declared.placed.HintOutcome.TheVariants.{Inserted, Changed, Unchanged, Rejected}
use Rattle.types.specs.declared.placed.Placed.{Placed}
use Rattle.types.specs.Values.{covers}
use Rattle.rules.specs.Cases.{maybe}
use Rattle.rules.specs.Records.{Entry, Row, State, by_use, probation}
use Rattle.rules.specs.Rows.{row_at, in_main, find}
use Rattle.rules.specs.Entries.{expired, verified, new_entry, update, mark_verified, set_mtu}
use Rattle.rules.specs.Room.{refile, file_new, take_out, Walk, Room, make_room, make_probation_room}

pub record PlaceResult : Type 0 where
  pub placed : Placed
  pub state : State

unfoldable pub place_result : HintOutcome → ℕ → Segment → Bool → ℕ → State → PlaceResult
place_result o a g u n s = record { placed = record { outcome = o; added_weight = a; segment = g; unfunded = u; examined = n }; state = s }

-- Rejected: added 0, segment Main
unfoldable pub rejected : Bool → ℕ → State → PlaceResult
rejected unfunded n s = place_result Rejected 0 Main unfunded n s

-- ---- 2. a new key

-- to probation, with room made there; n were examined before
unfoldable pub new_in_probation : NodeAddr → Entry → ℕ → Bool → ℕ → State → PlaceResult
new_in_probation k e w unfunded n s = let q = make_probation_room s in place_result Inserted 0 Probation unfunded (n + q.examined) (file_new k e w probation q.state)

-- no room: Upto to probation likewise, but not unfunded; Uncharged is Rejected
unfoldable pub new_without_room : Funding → NodeAddr → Entry → ℕ → Room → PlaceResult
new_without_room Uncharged k e w m = rejected false m.examined m.state
new_without_room (Upto n) k e w m = new_in_probation k e w false m.examined m.state

-- not covered, to probation, unfunded; covered and room made, to main, added weight = weight
unfoldable pub place_new : NodeAddr → Path → ℕ → ℕ → Funding → State → PlaceResult
place_new k p now ttl f s =
    let w = path_weight p in
    let e = new_entry p now ttl in
    let m = make_room now w s in
    let in_main_segment = place_result Inserted w Main false m.examined (file_new k e w by_use m.state) in
    let covered = cond m.made in_main_segment (new_without_room f k e w m) in
    let uncovered = new_in_probation k e w true 0 s in
    cond (covers f w) covered uncovered

-- ---- a held key

-- Changed where its path differs from the new one, else Unchanged
unfoldable pub held_outcome : Path → Row → HintOutcome
held_outcome p r = cond (same_path r.entry.path p) Unchanged Changed

-- 3. a verified key is Rejected, unless stated and differing
unfoldable pub stays_verified : Path → ℕ → Bool → Row → Bool
stays_verified p now stated r = verified now r.entry && not (stated && not (same_path r.entry.path p))

-- 4. in probation. Covered at this charge: taken out, updated, and with room made filed in main at that charge, which is the added
-- weight, or without room back in probation at that weight with 0 added
unfoldable pub promote : NodeAddr → Path → ℕ → ℕ → ℕ → ℕ → State → PlaceResult
promote k p now ttl charge i s =
    let r = row_at i s.rows in
    let e = update p now ttl r.entry in
    let o = held_outcome p r in
    let m = make_room now charge (take_out i s) in
    let promoted = place_result o charge Main false m.examined (file_new k e charge by_use m.state) in
    let stays = place_result o 0 Probation false m.examined (file_new k e charge probation m.state) in
    cond m.made promoted stays

-- max(weight, old) covered: promoted; not covered: updated, weight the larger, refiled
unfoldable pub place_probation : NodeAddr → Path → ℕ → ℕ → Funding → ℕ → State → PlaceResult
place_probation k p now ttl f i s =
    let r = row_at i s.rows in
    let w = max (path_weight p) r.weight in
    let covered = promote k p now ttl w i s in
    let uncovered = place_result (held_outcome p r) 0 Probation false 0 (refile (update p now ttl r.entry) w i s) in
    cond (covers f w) covered uncovered

-- 5. in main. Growth to this weight: row out, room sought; without room an unstated one goes back unchanged but newly stamped,
-- Rejected; otherwise updated and filed at the new weight, added = weight − old
unfoldable pub grow : NodeAddr → Path → ℕ → ℕ → Bool → ℕ → ℕ → State → PlaceResult
grow k p now ttl stated w i s =
    let r = row_at i s.rows in
    let m = make_room now w (take_out i s) in
    let goes_back = rejected false m.examined (file_new k r.entry r.weight by_use m.state) in
    let grows = place_result (held_outcome p r) (w - r.weight) Main false m.examined (file_new k (update p now ttl r.entry) w by_use m.state) in
    cond (m.made || stated) grows goes_back

-- weight ≤ old: updated, old weight kept, refiled; growth not covered: Rejected, unfunded; covered: grown
unfoldable pub place_main : NodeAddr → Path → ℕ → ℕ → Funding → Bool → ℕ → State → PlaceResult
place_main k p now ttl f stated i s =
    let r = row_at i s.rows in
    let w = path_weight p in
    let no_growth = place_result (held_outcome p r) 0 Main false 0 (refile (update p now ttl r.entry) r.weight i s) in
    let covered = grow k p now ttl stated w i s in
    let uncovered = rejected true 0 s in
    cond (leb w r.weight) no_growth (cond (covers f (w - r.weight)) covered uncovered)

unfoldable pub place_held : NodeAddr → Path → ℕ → ℕ → Funding → Bool → ℕ → State → PlaceResult
place_held k p now ttl f stated i s =
    let step4 = place_probation k p now ttl f i s in
    let step5 = place_main k p now ttl f stated i s in
    cond (stays_verified p now stated (row_at i s.rows)) (rejected false 0 s)
    (cond (in_main (row_at i s.rows)) step5 step4)

-- 1. an expired row of the key is removed, and the key is new; it stays removed if the outcome is Rejected
unfoldable pub place_hint : NodeAddr → Path → ℕ → ℕ → Funding → Bool → State → PlaceResult
place_hint k p now ttl f stated s =
    maybe (find k s.rows) (place_new k p now ttl f s) (λ i.
    let anew = place_new k p now ttl f (take_out i s) in
    let held = place_held k p now ttl f stated i s in
    cond (expired now (row_at i s.rows).entry) anew held)

-- ---- insert_verified

-- the key's row taken out
unfoldable pub without_key : NodeAddr → State → State
without_key k s = maybe (find k s.rows) s (λ i. take_out i s)

-- the key's entry (expired too, keeping created_at and MTU) updated, or a new one; marked Verified;
-- the _with_path_mtu form then sets the MTU
unfoldable pub verified_entry : NodeAddr → Path → ℕ → Option ℕ → State → Entry
verified_entry k p now mtu s =
    let e = mark_verified now (maybe (find k s.rows) (new_entry p now s.default_ttl) (λ i. update p now s.default_ttl (row_at i s.rows).entry)) in
    maybe mtu e (λ m. set_mtu m e)

-- takes out the key's row, seeks room, files in main either way at the path weight
unfoldable pub insert_verified : NodeAddr → Path → ℕ → Option ℕ → State → Walk
insert_verified k p now mtu s =
    let m = make_room now (path_weight p) (without_key k s) in
    record { state = file_new k (verified_entry k p now mtu s) (path_weight p) by_use m.state; examined = m.examined }
