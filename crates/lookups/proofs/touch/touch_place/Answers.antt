-- A refreshed row keeps index and path, so its path stands where it stood; a row that is taken out leaves its key without one.
use Rattle.rules.specs.Lent.{Bytes}
use Rattle.rules.proofs.Sizes.{small8}
use Rattle.rules.proofs.MemoryLaws.{all_bytes}
use Rattle.memory.proofs.OwnedValues.{owned_addr}
use Rattle.refusals.proofs.SearchedKeys.{Searched, held, absent}
use Rattle.lookups.proofs.PathPlaces.{placed_at, placed_absent}
use Rattle.lookups.proofs.touch.touch_place.Goals as goal

pub returns-in-Ok : goal.returns-in-Ok
returns-in-Ok c =
    let key_searched : Searched c.args.key c.row_count-n.result c.search-at.result c.args.state.now = record { sound = c.requires; counted = c.row_count-n.ensures; outcome = c.search-at.ensures } in
    let bytes : Bytes c.args.state.now = all_bytes c.args.state.now (λ i. (c.slice_known-1.given i).fits) in
    let r = c.touch_row in
    placed_at _ (held key_searched c.in-Ok.is) _ _
    bytes (owned_addr c.args.key _ c.well_formed.1.0, small8 c.args.time c.ranges.time.fits)
    (all_bytes r.new.state (λ i. (c.slice_known-in-Ok-1.given i).fits)) r.auto.state r.ensures.place r.ensures.left

pub returns-in-Err : goal.returns-in-Err
returns-in-Err c =
    let key_searched : Searched c.args.key c.row_count-n.result c.search-at.result c.args.state.now = record { sound = c.requires; counted = c.row_count-n.ensures; outcome = c.search-at.ensures } in
    let bytes : Bytes c.args.state.now = all_bytes c.args.state.now (λ i. (c.slice_known-1.given i).fits) in
    placed_absent _ (absent key_searched c.in-Err.is) bytes
