-- Where the loop stands the whole run is the lines so far and the run from there on; a command found is one turn more, and the others end it.
use Rattle.std.proofs.Common.{rules}
use Rattle.stream.proofs.Turns.{at_end, at_full, at_cut, at_six, goes_on}
use Rattle.stream.proofs.run.run.Goals as goal

pub returns-in-Full-clause-ends_as : goal.returns-in-Full-clause-ends_as
returns-in-Full-clause-ends_as c = at_full c.loop-at.invariant.going c.loop-at-test.true c.loop-at.auto.output c.next_command-found.ensures.next c.in-Full.is

pub returns-in-Cut-clause-ends_as : goal.returns-in-Cut-clause-ends_as
returns-in-Cut-clause-ends_as c = at_cut c.loop-at.invariant.going c.loop-at-test.true c.loop-at.auto.output c.next_command-found.ensures.next c.in-Cut.is

pub returns-then-refusal-eq6-clause-ends_as : goal.returns-then-refusal-eq6-clause-ends_as
returns-then-refusal-eq6-clause-ends_as c =
    let l = c.put_line-put.ensures in
    at_six c.loop-at.invariant.going c.loop-at-test.true c.loop-at.auto.output c.next_command-found.ensures.next c.in-Command.is c.command_at-done.ensures l.value l.reply_len_bound c.count_held-counts.ensures c.if-refusal-eq6.true

pub loop-at-preserved : goal.loop-at-preserved
loop-at-preserved c =
    let l = c.put_line-put.ensures in
    record {
      used = search rules;
      written = search rules;
      sounds = search rules;
      going = goes_on c.loop-at.invariant.going c.loop-at-test.true c.loop-at.auto.output c.next_command-found.ensures.next c.in-Command.is c.command_at-done.ensures l.value l.reply_len_bound c.count_held-counts.ensures c.if-refusal-eq6.false;
    }

pub returns-clause-ends_as : goal.returns-clause-ends_as
returns-clause-ends_as c = at_end c.loop-at.invariant.going c.loop-at-test.false
