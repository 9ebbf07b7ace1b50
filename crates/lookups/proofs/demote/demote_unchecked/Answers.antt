-- A seq over LAST_SEQ is refusal 3; up to it the call is not refused, and its state is demoted_at i where find gives i, else the same state.
use Rattle.rules.proofs.MemoryLaws.{all_bytes}
use Rattle.refusals.proofs.SearchedKeys.{Searched, held, absent}
use Rattle.lookups.proofs.DemotedRows.{demote_refused, demoted_at_lem, demoted_absent}
use Rattle.lookups.proofs.demote.demote_unchecked.Goals as goal

pub returns-then-seq-gt-LAST_SEQ : goal.returns-then-seq-gt-LAST_SEQ
returns-then-seq-gt-LAST_SEQ c = demote_refused _ _ c.requires c.seq.ensures c.if-seq-gt-LAST_SEQ.true

pub returns-in-Ok : goal.returns-in-Ok
returns-in-Ok c =
    let key_searched : Searched c.args.key c.row_count-n.result c.search-at.result c.args.state.now = record { sound = c.requires; counted = c.row_count-n.ensures; outcome = c.search-at.ensures } in
    let bytes = all_bytes c.demote_at.new.state (λ i. (c.slice_known-in-Ok-1.given i).fits) in
    demoted_at_lem c.seq.ensures c.if-seq-gt-LAST_SEQ.false
    (held key_searched c.in-Ok.is) _ bytes c.demote_at.auto.state c.demote_at.ensures

pub returns-in-Err : goal.returns-in-Err
returns-in-Err c =
    let key_searched : Searched c.args.key c.row_count-n.result c.search-at.result c.args.state.now = record { sound = c.requires; counted = c.row_count-n.ensures; outcome = c.search-at.ensures } in
    let bytes = all_bytes c.args.state.now (λ i. (c.slice_known-1.given i).fits) in
    demoted_absent c.seq.ensures c.if-seq-gt-LAST_SEQ.false (absent key_searched c.in-Err.is) bytes
