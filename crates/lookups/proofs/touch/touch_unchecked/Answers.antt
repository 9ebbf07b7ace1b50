-- Where find gives i, the call's state is touched_at i and its answer touch_says i; where it gives none, Absent and the same state.
use Rattle.rules.proofs.MemoryLaws.{all_bytes}
use Rattle.refusals.proofs.SearchedKeys.{Searched, held, absent}
use Rattle.lookups.proofs.TouchedRows.{touched_at_lem, touched_absent}
use Rattle.lookups.proofs.touch.touch_unchecked.Goals as goal

pub returns-in-Ok : goal.returns-in-Ok
returns-in-Ok c =
    let key_searched : Searched c.args.key c.row_count-n.result c.search-at.result c.args.state.now = record { sound = c.requires; counted = c.row_count-n.ensures; outcome = c.search-at.ensures } in
    let bytes = all_bytes c.touch_at.new.state (λ i. (c.slice_known-in-Ok-1.given i).fits) in
    let t = touched_at_lem _ (held key_searched c.in-Ok.is) _ _ bytes c.touch_at.auto.state (c.touch_at.ensures.says, c.touch_at.ensures.left) in
    record { replied = t.replied; answered = t.answered; left = t.left }

pub returns-in-Err : goal.returns-in-Err
returns-in-Err c =
    let key_searched : Searched c.args.key c.row_count-n.result c.search-at.result c.args.state.now = record { sound = c.requires; counted = c.row_count-n.ensures; outcome = c.search-at.ensures } in
    let bytes = all_bytes c.args.state.now (λ i. (c.slice_known-1.given i).fits) in
    let t = touched_absent _ (absent key_searched c.in-Err.is) bytes in
    record { replied = t.replied; answered = t.answered; left = t.left }
