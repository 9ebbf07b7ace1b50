-- What takes the pending path is equal under a λ, where `grind` does not look: each operand is read as the table of codes reads it. Commands 0x12 and 0x13 have laws in `FundingKind`.
use Rattle.rules.specs.Commands.{code, codes, code_of, read_as}
use Rattle.commands.specs.Reading.{named, command_named, write_named, command_in}
use Rattle.commands.proofs.decode.read.Goals as goal

pub returns-in-16 : goal.returns-in-16
unfolding named command_named write_named command_in code_of codes code read_as
returns-in-16 c = rw (c.in-16.is, c.key.ensures, c.time.ensures)

pub returns-in-17 : goal.returns-in-17
unfolding named command_named write_named command_in code_of codes code read_as
returns-in-17 c = rw (c.in-17.is, c.key-in-17.ensures, c.time-in-17.ensures, c.read_u64-in-17.ensures)

pub returns-in-20 : goal.returns-in-20
unfolding named command_named write_named command_in code_of codes code read_as
returns-in-20 c = rw (c.in-20.is, c.key-in-20.ensures, c.time-in-20.ensures)

pub returns-in-21 : goal.returns-in-21
unfolding named command_named write_named command_in code_of codes code read_as
returns-in-21 c = rw (c.in-21.is, c.key-in-21.ensures, c.time-in-21.ensures, c.read_u16-in-21.ensures)
