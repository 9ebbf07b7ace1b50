-- A run over a stream of commands on the lent memory.
use Rattle.std.specs.Prelude.{ℕ, zero, suc, ◌+◌, ◌-◌, min, List, [], ◌∷◌, Bool, false, cond, not, ◌&&◌, ltb, eqb, length, drop}
use Rattle.rules.specs.Cases.{maybe}
use Rattle.rules.specs.Commands.{Code, Line, codes, line, line_text, decode}
use Rattle.commands.specs.Widths.{width_in}
use Rattle.commands.specs.OnMemory.{Session, obey_byte, obey, refused_six}
use Rattle.stream.specs.declared.stop.Stop.{Stop}
use Rattle.stream.specs.declared.stop.Stop.TheVariants.{End, Cut, Full, Six}

-- ---- the whole stream, to its end or to a 6

pub record Run : Type 0 where
  pub lines : List Line
  pub session : Session

-- as run_commands of the rules, on the memory; n is enough where it is at least the number of bytes
unfoldable pub run_all : ℕ → Session → List ℕ → Run
run_all zero h bs = record { lines = []; session = h }
run_all (suc n) h bs =
    elim bs [
      | [] ↦ record { lines = []; session = h }
      | b ∷ rest ↦
          maybe (decode b rest) (record { lines = line b (refused_six b h).reply ∷ []; session = (refused_six b h).session }) (λ d.
          let o = obey h d.command in
          let later = run_all n o.session d.left in
          record { lines = line b o.reply ∷ later.lines; session = later.session })
    ]

-- ---- a part of the stream, with lines into a buffer: what is not done is left for a later run

-- the lines, how many bytes of the input were used, the session then, and why it stopped
pub record RunEnd : Type 0 where
  pub lines : List Line
  pub used : ℕ
  pub session : Session
  pub stop : Stop

-- room for any line
abbrev pub line_room : ℕ
line_room = 129

-- by a table of codes: the operands of a code that are there; none of an unknown code
unfoldable pub operands_in : List Code → ℕ → List ℕ → ℕ
operands_in cs b bs = maybe (width_in cs b) 0 (λ w. min w (length bs))

-- more operands are to come
unfoldable pub cut_short_in : List Code → ℕ → List ℕ → Bool
cut_short_in cs b bs = maybe (width_in cs b) false (λ w. ltb (length bs) w)

abbrev pub operands : ℕ → List ℕ → ℕ
operands b bs = operands_in codes b bs

abbrev pub cut_short : ℕ → List ℕ → Bool
cut_short b bs = cut_short_in codes b bs

unfoldable pub stopped : Stop → Session → RunEnd
stopped why h = record { lines = []; used = 0; session = h; stop = why }

-- a line and the bytes of its command, then the rest
unfoldable pub and_then : Line → ℕ → RunEnd → RunEnd
and_then l n e = record { lines = l ∷ e.lines; used = n + e.used; session = e.session; stop = e.stop }

-- last: no bytes follow these, so that a command cut short is refused by 6; it stops after a 6
unfoldable pub run_part : ℕ → Bool → ℕ → Session → List ℕ → RunEnd
run_part zero last room h bs = stopped End h
run_part (suc n) last room h bs =
    elim bs [
      | [] ↦ stopped End h
      | b ∷ rest ↦
          let o = obey_byte h b rest in
          let l = line b o.reply in
          let later = run_part n last (room - length (line_text l)) o.session (drop (operands b rest) rest) in
          cond (ltb room line_room) (stopped Full h)
          (cond (not last && cut_short b rest) (stopped Cut h)
          (and_then l (1 + operands b rest) (cond (eqb o.reply.refusal 6) (stopped Six o.session) later)))
    ]
