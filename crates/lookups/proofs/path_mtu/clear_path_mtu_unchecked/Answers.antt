-- A call without path or stamps is not refused on a sound memory; drop_mtu rewrites the row that find gives, or nothing where it gives none.
use Rattle.rules.proofs.MemoryLaws.{all_bytes}
use Rattle.refusals.proofs.SearchedKeys.{Searched, held, absent}
use Rattle.lookups.proofs.ClearedMtu.{clear_at, clear_absent}
use Rattle.lookups.proofs.path_mtu.clear_path_mtu_unchecked.Goals as goal

pub returns-in-Ok : goal.returns-in-Ok
returns-in-Ok c =
    let key_searched : Searched c.args.key c.row_count-n.result c.search-at.result c.args.state.now = record { sound = c.requires; counted = c.row_count-n.ensures; outcome = c.search-at.ensures } in
    let bytes = all_bytes c.drop_mtu.new.state (λ i. (c.slice_known-in-Ok-1.given i).fits) in
    clear_at (held key_searched c.in-Ok.is) _ bytes c.drop_mtu.auto.state c.drop_mtu.ensures

pub returns-in-Err : goal.returns-in-Err
returns-in-Err c =
    let key_searched : Searched c.args.key c.row_count-n.result c.search-at.result c.args.state.now = record { sound = c.requires; counted = c.row_count-n.ensures; outcome = c.search-at.ensures } in
    let bytes = all_bytes c.args.state.now (λ i. (c.slice_known-1.given i).fits) in
    clear_absent (absent key_searched c.in-Err.is) bytes
