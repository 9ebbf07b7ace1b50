-- What one command leaves.
use Rattle.std.specs.Prelude.{ℕ, ◌≡◌, List, Bool, true, false, Result}
use Rattle.types.specs.declared.sender.Sender.{Sender}
use Rattle.types.specs.declared.coord.Path.{Path}
use Rattle.types.specs.declared.refusal.Refusal.{Refusal}
use Rattle.types.specs.declared.reply.Reply.{Reply}
use Rattle.types.specs.Values.{refuses}
use Rattle.types.specs.Senders.{with_element}
use Rattle.rules.specs.Commands.{element_reply, reply}
use Rattle.rules.specs.Sound.{sound}
use Rattle.rules.specs.Memory.{capacity, view}
use Rattle.rules.specs.Calls.{Call}
use Rattle.rules.specs.Lent.{call}
use Rattle.commands.specs.OnMemory.{Obeyed}
use Rattle.commands.specs.declared.command.AfterCommand.{AfterCommand}

-- a command's reply, what the sender then has, the memory, and whether that memory is sound
pub record Answers (o : Obeyed) (r : AfterCommand) (m : List ℕ) : Type 0 where
  pub says : r.reply ≡ o.reply
  pub sends : r.sender ≡ o.session.sender
  pub leaves : m ≡ o.session.memory
  pub sounds : r.sound ≡ sound (capacity m) (view m)

-- a call's reply, and the memory
pub record Does (l : List ℕ) (q : Call) (r : Reply) (m : List ℕ) : Type 0 where
  pub says : r ≡ reply (call l q).answer
  pub leaves : m ≡ (call l q).memory

-- refused by n, and this is left to the sender
abbrev pub refused_by : ℕ → Bool → Sender → AfterCommand
refused_by n f k = record { reply = refuses n; sender = k; sound = f }

-- 01: the path after an element, or why it takes none
abbrev pub after_element : Result Path Refusal → Bool → Sender → AfterCommand
after_element a f k = record { reply = element_reply a; sender = with_element a k; sound = f }

-- a call is refused by 1 where the state is not sound, else made; this is left to the sender
pub record Made (f : Bool) (l : List ℕ) (q : Call) (k : Sender) (r : AfterCommand) (m : List ℕ) : Type 0 where
  pub sends : r.sender ≡ k
  pub sounds : r.sound ≡ f
  pub unsound : f ≡ false → (r.reply ≡ refuses 1) × (m ≡ l)
  pub sound : f ≡ true → Does l q r.reply m
