-- Small runs over parts of streams, computed.
use mathlib.Core.Path.{◌≡◌, refl}
use Prim.Native.Nat.{ℕ}
use mathlib.Core.List.{List, [], ◌∷◌, ◌++◌}
use mathlib.Core.Bool.{true, false}
use lib.ListN.{replicate}
use Rattle.types.specs.Paths.{appended, empty_path}
use Rattle.types.specs.Senders.{new_sender, with_element}
use Rattle.types.specs.Values.{refuses, says}
use Rattle.rules.specs.Memory.{coord_entry_of}
use Rattle.rules.specs.Commands.{after_six, code, code_of, codes, decimal, decimal_digits, decode_in, line, line_text, read_as, spaced, takes_path}
use Rattle.commands.specs.Widths.{width_in}
use Rattle.commands.specs.OnMemory.{Session, session, obey, obey_byte, pended, refused_six}
use Rattle.stream.specs.declared.stop.Stop.TheVariants.{Cut, Full, Six}
use Rattle.stream.specs.Runs.{and_then, cut_short_in, operands_in, run_part, stopped}

-- a purge without its time is left for when more bytes are there
more_to_come : (h : Session) → run_part 1 false 129 h (0x30 ∷ []) ≡ stopped Cut h
unfolding run_part cut_short_in width_in code_of codes code
more_to_come h = refl

-- and is refused where no more bytes are to come
none_to_come : (h : Session) → run_part 1 true 129 h (0x30 ∷ []) ≡ record { lines = line 0x30 (refuses 6) ∷ []; used = 1; session = h; stop = Six }
unfolding run_part stopped and_then cut_short_in operands_in width_in code_of codes code decode_in read_as obey_byte refused_six refuses after_six takes_path
none_to_come h = refl

-- after an unknown code nothing is done
over_after_six : (h : Session) → run_part 2 false 500 h (0xff ∷ 0x31 ∷ []) ≡ record { lines = line 0xff (refuses 6) ∷ []; used = 1; session = h; stop = Six }
unfolding run_part stopped and_then cut_short_in operands_in width_in code_of codes code decode_in read_as obey_byte refused_six refuses after_six takes_path
over_after_six h = refl

-- a path element's line takes 15 bytes, and the 115 that are left are no room for another
one_line : (l : List ℕ) → run_part 34 false 130 (session l new_sender) (0x01 ∷ (replicate 32 0 ++ (0x31 ∷ []))) ≡ record { lines = line 0x01 (says 1 0 0 0 0) ∷ []; used = 33; session = session l (with_element (appended empty_path (coord_entry_of (replicate 32 0))) new_sender); stop = Full }
unfolding run_part stopped and_then cut_short_in operands_in width_in code_of codes code decode_in read_as obey_byte obey pended appended empty_path says line line_text spaced decimal decimal_digits
one_line l = refl
