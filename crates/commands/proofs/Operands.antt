-- A command's operands: whether they are all there, and the command that they say.
use mathlib.Core.Path.{◌≡◌, refl}
use Prim.Native.Nat.{ℕ, ◌+◌, ◌≤◌, ◌<◌}
use native.Mathlib.Omega.{arith}
use mathlib.Core.List.{List, [], ◌∷◌}
use Rattle.std.specs.Prelude.{Option, None, Some}
use mathlib.Core.Bool.{true, cond}
use lib.Dec.{leb}
use lib.ListN.{length, take, drop}
use borrow.Author.Tests.{le-leb, lt-leb}
use Rattle.rules.specs.Cases.{Every, maybe}
use Rattle.rules.specs.Memory.{cut, coord_entry_of}
use Rattle.rules.specs.Layout.{address_size, number_size, coord_entry_size}
use Rattle.rules.specs.Commands.{Code, Command, Decoded, code, codes, code_of, decode_in, reads}
use Rattle.rules.proofs.Addresses.{contradiction}
use Rattle.rules.proofs.CommandRuns.{Reads}
use Rattle.raw.proofs.StoreLaws.{cut_cut}
use Rattle.commands.specs.Widths.{HoldsOperands, width_in, width_of}
use Rattle.commands.specs.Reading.{command_in, command_read}

-- what a table of codes reads
pub decoded : {cs : List Code} {b : ℕ} {bs : List ℕ} {x : Command} (r : Reads cs b bs x) → decode_in cs b bs ≡ Some (record { command = x; left = drop r.code.width bs })
unfolding decode_in
decoded {bs = bs} r = rw (r.known, le-leb r.code.width (length bs) r.there, r.says)

pub unknown_none : (cs : List Code) (b : ℕ) (bs : List ℕ) → code_of b cs ≡ None → decode_in cs b bs ≡ None
unfolding decode_in
unknown_none cs b bs e = rw e

-- cut, or what the operands say is no command
module _ (cs : List Code) (b : ℕ) (bs : List ℕ) (c : Code) (k : code_of b cs ≡ Some c) where
  pub cut_none : length bs < c.width → decode_in cs b bs ≡ None
  unfolding decode_in
  cut_none h = rw (k, lt-leb c.width (length bs) h)

  pub bad_none : c.width ≤ length bs → reads c (take c.width bs) ≡ None → decode_in cs b bs ≡ None
  unfolding decode_in
  bad_none h e = rw (k, le-leb c.width (length bs) h, e)

-- an element is read of its own bytes
pub element_in : (o : List ℕ) → coord_entry_of (cut 0 coord_entry_size o) ≡ coord_entry_of o
unfolding coord_entry_of
element_in o = rw (cut_cut 0 coord_entry_size 0 address_size o (omega arith), cut_cut 0 coord_entry_size address_size number_size o (omega arith), cut_cut 0 coord_entry_size (address_size + number_size) number_size o (omega arith))

-- ---- the width that was found holds the operands

module _ (b w : ℕ) (h : width_of b ≡ Some w) where
  each : (cs : List Code) → Every (λ c. width_of c.byte ≡ Some c.width) cs → Every (λ c. b ≡ c.byte → c.width ≤ w) cs
  each [] k = tt
  each (c ∷ cs) k = ((λ e. let z : c.width ≡ w = cc in omega arith), each cs k.1)

  pub held : HoldsOperands b w
  unfolding width_in code_of codes code
  held = each codes (refl, (refl, (refl, (refl, (refl, (refl, (refl, (refl, (refl, (refl, (refl, (refl, (refl, (refl, (refl, (refl, (refl, (refl, (refl, tt)))))))))))))))))))

-- ---- what is read of the bytes behind b

module _ (b : ℕ) (bs : List ℕ) where
  -- of a command, if there is one, the command
  taken_in : Option Code → Option Command
  taken_in o = maybe (maybe o None (λ c. cond (leb c.width (length bs)) (maybe (reads c (take c.width bs)) None (λ q. Some (record { command = q; left = drop c.width bs }))) None)) None (λ (d : Decoded). Some d.command)

  -- UNKNOWN
  pub unknown_read : width_of b ≡ None → None ≡ command_read b bs
  unfolding command_read decode_in width_in taken_in
  unknown_read = go (code_of b codes)
    where
      go : (o : Option Code) → maybe o None (λ c. Some c.width) ≡ None → None ≡ taken_in o
      go None e = refl
      go (Some c) e = contradiction {b = true} refl (cc)

  module _ {w : ℕ} (k : width_of b ≡ Some w) where
    -- CUT
    pub cut_read : length bs < w → None ≡ command_read b bs
    unfolding command_read decode_in width_in taken_in
    cut_read h = go (code_of b codes) k
      where
        go : (o : Option Code) → maybe o None (λ c. Some c.width) ≡ Some w → None ≡ taken_in o
        go None e = contradiction {b = true} refl (cc)
        go (Some c) e = let z : c.width ≡ w = cc in rw (z, lt-leb w (length bs) h)

    -- THERE
    pub whole_read : w ≤ length bs → command_in b (take w bs) ≡ command_read b bs
    unfolding command_read command_in decode_in width_in taken_in
    whole_read h = go (code_of b codes) k
      where
        whole : (q : Option Command) (l : List ℕ) → q ≡ maybe (maybe q None (λ x. Some (record { command = x; left = l }))) None (λ (d : Decoded). Some d.command)
        whole None l = refl
        whole (Some x) l = refl

        go : (o : Option Code) → maybe o None (λ c. Some c.width) ≡ Some w → maybe o None (λ c. reads c (take w bs)) ≡ taken_in o
        go None e = contradiction {b = true} refl (cc)
        go (Some c) e = let z : c.width ≡ w = cc in rw (z, le-leb w (length bs) h) (whole (reads c (take w bs)) (drop w bs))
