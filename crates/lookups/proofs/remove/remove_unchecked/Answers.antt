-- The search agrees with find; Removed says answer and memory, for a row taken out and for a key that has none.
use Rattle.rules.proofs.MemoryLaws.{all_bytes}
use Rattle.refusals.proofs.SearchedKeys.{Searched, held, absent}
use Rattle.lookups.proofs.RemovedRows.{removed_at, removed_absent}
use mathlib.Core.Path.{ap, ◌∙◌}
use Rattle.rules.specs.Records.{Row, entry_value}
use Rattle.lookups.proofs.remove.remove_unchecked.Goals as goal

pub returns-in-Ok : goal.returns-in-Ok
returns-in-Ok c =
    let key_searched : Searched c.args.key c.row_count-n.result c.search-at.result c.args.state.now = record { sound = c.requires; counted = c.row_count-n.ensures; outcome = c.search-at.ensures } in
    let bytes = all_bytes c.remove_row.new.state (λ i. (c.slice_known-in-Ok-1.given i).fits) in
    removed_at (held key_searched c.in-Ok.is) _ _ bytes c.remove_row.auto.state (c.load_entry-entry.ensures ∙ ap (λ (r : Row). entry_value r.entry) c.row_at.ensures) c.remove_row.ensures

pub returns-in-Err : goal.returns-in-Err
returns-in-Err c =
    let key_searched : Searched c.args.key c.row_count-n.result c.search-at.result c.args.state.now = record { sound = c.requires; counted = c.row_count-n.ensures; outcome = c.search-at.ensures } in
    let bytes = all_bytes c.args.state.now (λ i. (c.slice_known-1.given i).fits) in
    removed_absent (absent key_searched c.in-Err.is) bytes
