-- What was read is what the rules read: a call is refused by 1 on an unsound state, else done.
use Rattle.commands.specs.Reading.{command_named}
use Rattle.commands.proofs.CommandLaws.{Given, given_by, made, made_with_path, plain, read_obeyed}
use Rattle.commands.proofs.command.command_at.Goals as goal

pub returns-in-Some-Fresh : goal.returns-in-Some-Fresh
unfolding command_named
returns-in-Some-Fresh c = read_obeyed c.args.code _ _ c.in-Some-Fresh.field-0-is c.in-Some-Fresh.ensures c.fresh.ensures

pub returns-in-Some-Write : goal.returns-in-Some-Write
unfolding command_named
returns-in-Some-Write c =
    let given : Given c.args.state.now c.args.is_sound c.args.sender c.args.input.now c.args.at = given_by c.requires.0 c.slice_known-1.given c.type_inv.input c.well_formed.1.1.0 in
    made c.args.code given c.in-Some-Write.field-0-is c.in-Some-Write.ensures made_with_path c.written.ensures

pub returns-in-Some-Call : goal.returns-in-Some-Call
unfolding command_named
returns-in-Some-Call c =
    let given : Given c.args.state.now c.args.is_sound c.args.sender c.args.input.now c.args.at = given_by c.requires.0 c.slice_known-1.given c.type_inv.input c.well_formed.1.1.0 in
    made c.args.code given c.in-Some-Call.field-0-is c.in-Some-Call.ensures plain c.called.ensures
