-- Behind the length stand the bytes of the first i elements; the zeros stored past the last are those of zero elements.
use mathlib.Core.Path.{◌≡◌}
use Prim.Native.Nat.{◌+◌}
use native.Mathlib.Omega.{arith}
use borrow.Author.Rules.{rules}
use Rattle.rules.specs.Memory.{coord_entries_bytes}
use Rattle.memory.proofs.OwnedValues.{owned_path}
use Rattle.rows.proofs.PathLaws.{entries_turn, path_stored}
use Rattle.rows.proofs.values.store_path.Goals as goal

pub loop-i-init : goal.loop-i-init
unfolding coord_entries_bytes
loop-i-init c = search rules

pub loop-i-preserved : goal.loop-i-preserved
loop-i-preserved c = entries_turn _ _ _ (c.args.at + 1) c.loop-i.i c.args.p (owned_path c.args.p _ c.well_formed.1.1.0) (omega arith) c.requires.1 c.loop-i.invariant c.store_coord_entry.ensures.s_after

pub returns : goal.returns
returns c =
    let f = owned_path c.args.p _ c.well_formed.1.1.0 in
    let e : c.loop-i.i ≡ c.args.p.len = omega arith in
    record { s_after = rw (c.fill_zero.ensures, c.loop-i.invariant, e, c.write_u8.ensures) (path_stored c.args.s.now c.args.at c.args.p f c.requires.1); path_fits = f }
