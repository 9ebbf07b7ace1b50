-- StandsAt in three cases: without a row, or with an expired one, the part is empty and at 0; else it is row i's path, inside the memory.
use mathlib.Core.Path.{sym, ◌∙◌, ap}
use Rattle.rules.specs.Lent.{Bytes}
use Rattle.rules.proofs.MemoryLaws.{all_bytes}
use Rattle.refusals.proofs.SearchedKeys.{Searched, held, absent}
use Rattle.lookups.proofs.FoundRows.{absent_stands, expired_stands, path_stands, get_left}
use Rattle.rules.specs.Records.{Row}
use Rattle.rules.specs.Entries.{expired}
use Rattle.lookups.proofs.get.get_place.Goals as goal

pub returns-then-is_expired : goal.returns-then-is_expired
returns-then-is_expired c =
    let key_searched : Searched c.args.key c.row_count-n.result c.search-at.result c.args.state.now = record { sound = c.requires; counted = c.row_count-n.ensures; outcome = c.search-at.ensures } in
    let bytes : Bytes c.args.state.now = all_bytes c.args.state.now (λ i. (c.shared_slice_known-1.given i).fits) in
    let f = held key_searched c.in-Ok.is in
    (expired_stands _ f (sym (c.is_expired.ensures ∙ ap (λ (r : Row). expired c.args.time r.entry) c.row_at.ensures) ∙ c.if-is_expired.true), get_left f _ bytes)

pub returns-else-is_expired : goal.returns-else-is_expired
returns-else-is_expired c =
    let key_searched : Searched c.args.key c.row_count-n.result c.search-at.result c.args.state.now = record { sound = c.requires; counted = c.row_count-n.ensures; outcome = c.search-at.ensures } in
    let bytes : Bytes c.args.state.now = all_bytes c.args.state.now (λ i. (c.shared_slice_known-1.given i).fits) in
    let f = held key_searched c.in-Ok.is in
    (path_stands _ f (sym (c.is_expired.ensures ∙ ap (λ (r : Row). expired c.args.time r.entry) c.row_at.ensures) ∙ c.if-is_expired.false) c.path_place.ensures.starts c.path_place.ensures.ends, get_left f _ bytes)

pub returns-in-Err : goal.returns-in-Err
returns-in-Err c =
    let key_searched : Searched c.args.key c.row_count-n.result c.search-at.result c.args.state.now = record { sound = c.requires; counted = c.row_count-n.ensures; outcome = c.search-at.ensures } in
    let bytes : Bytes c.args.state.now = all_bytes c.args.state.now (λ i. (c.shared_slice_known-1.given i).fits) in
    let f = absent key_searched c.in-Err.is in
    (absent_stands _ f, get_left f _ bytes)
