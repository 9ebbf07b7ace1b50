-- What a sender of commands has: its pending path.
use Rattle.std.specs.Prelude.{Result, Ok, Err}
use Rattle.types.specs.declared.coord.Path.{Path}
use Rattle.types.specs.declared.refusal.Refusal.{Refusal}
use Rattle.types.specs.declared.sender.Sender.{Sender}
use Rattle.types.specs.Paths.{empty_path}

-- before its first command
abbrev pub new_sender : Sender
new_sender = record { pending = empty_path }

-- the same sender with another pending path
abbrev pub with_pending : Path → Sender → Sender
with_pending p s = record { pending = p }

-- after an element onto the pending path: a refused one leaves the sender as it was
abbrev pub with_element : Result Path Refusal → Sender → Sender
with_element (Ok p) s = with_pending p s
with_element (Err r) s = s

-- codes 10 to 15 empty the pending path
abbrev pub emptied : Sender → Sender
emptied s = with_pending empty_path s
