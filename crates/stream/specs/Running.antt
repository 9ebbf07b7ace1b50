-- What a run of commands leaves, as the code answers it.
use Rattle.std.specs.Prelude.{ℕ, ◌+◌, ◌-◌, ◌≤◌, ◌≡◌, List, ◌++◌, Bool, cond, not, ◌&&◌, ltb, length, drop}
use Rattle.std.proofs.lemmas.List.Edits.{sets}
use Rattle.types.specs.declared.sender.Sender.{Sender}
use Rattle.types.specs.declared.reply.Tally.{Tally}
use Rattle.rules.specs.Commands.{Line, lines_text, tally_after}
use Rattle.commands.specs.OnMemory.{session}
use Rattle.stream.specs.Runs.{RunEnd, line_room, operands, cut_short, run_part}
use Rattle.stream.specs.declared.run.Next.{Next}
use Rattle.stream.specs.declared.run.Next.TheVariants.{Full, Cut, Command}
use Rattle.stream.specs.declared.run.Ran.{Ran}

-- what stands at the front of the input
unfoldable pub next_is : ℕ → Bool → ℕ → List ℕ → Next
next_is room last b bs = cond (ltb room line_room) Full (cond (not last && cut_short b bs) Cut (Command (operands b bs)))

-- a command at `at` of n bytes has room for its line, and its operands are there
abbrev pub Holds : ℕ → ℕ → ℕ → Next → Type 0
Holds room at n Full = Unit {0}
Holds room at n Cut = Unit {0}
Holds room at n (Command w) = (line_room ≤ room) × (at + (1 + w) ≤ n)

-- the run's end, with the lines as text at the start of the output, and each command counted
pub record EndsAs (e : RunEnd) (t : Tally) (r : Ran) (m o o' : List ℕ) : Type 0 where
  pub used : r.used ≡ e.used
  pub written : r.written ≡ length (lines_text e.lines)
  pub sender : r.sender ≡ e.session.sender
  pub tally : r.tally ≡ tally_after t e.lines
  pub stop : r.stop ≡ e.stop
  pub memory : m ≡ e.session.memory
  pub output : o' ≡ sets o 0 (lines_text e.lines)

-- ---- the loop

-- lines before, and the bytes of their commands
unfoldable pub prefixed : List Line → ℕ → RunEnd → RunEnd
prefixed ls k e = record { lines = ls ++ e.lines; used = k + e.used; session = e.session; stop = e.stop }

-- x is still to do: the whole is the lines so far, with the bytes of their commands, and x
pub record SoFar (e x : RunEnd) (o : List ℕ) (t : Tally) (at put : ℕ) (counts : Tally) (o' : List ℕ) : Type 0 where
  pub lines : List Line
  pub whole : e ≡ prefixed lines at x
  pub text : o' ≡ sets o 0 (lines_text lines)
  pub end : put ≡ length (lines_text lines)
  pub inside : put ≤ length o
  pub counted : counts ≡ tally_after t lines

-- before the command at `at`
pub record Going (e : RunEnd) (last : Bool) (i o : List ℕ) (t : Tally) (at put : ℕ) (k : Sender) (counts : Tally) (m o' : List ℕ) : Type 0 where
  pub turns : ℕ
  pub enough : length (drop at i) ≤ turns
  pub done : SoFar e (run_part turns last (length o - put) (session m k) (drop at i)) o t at put counts o'
