-- Little-endian numbers, as the code reads and writes them, are those of the rules.
use mathlib.Core.Path.{◌≡◌, refl, sym}
use Prim.Native.Nat.{ℕ, ◌+◌, ◌*◌, ◌%◌, ◌≤◌, ◌<◌}
use native.Mathlib.Nat.{div-div-eq-div-mul}
use native.Mathlib.Omega.{arith}
use mathlib.Core.List.{List, [], ◌∷◌}
use lib.ListN.{length, get_or, set}
use lib.Seq.{sets}
use Rattle.std.specs.Int.{w16, w64, from_le_bytes, to_le_bytes}
use Rattle.types.proofs.PathLaws.{uncons}
use Rattle.rules.specs.Memory.{cut, le_number, le_bytes}

horner : (r0 r1 r2 r3 r4 r5 r6 r7 : ℕ) → r0 + (r1 + (r2 + (r3 + (r4 + (r5 + (r6 + (r7 + 0 * 256) * 256) * 256) * 256) * 256) * 256) * 256) * 256
    ≡ r0 + r1 * 0x100 + r2 * 0x1_0000 + r3 * 0x100_0000 + r4 * 0x1_0000_0000 + r5 * 0x100_0000_0000 + r6 * 0x1_0000_0000_0000 + r7 * 0x100_0000_0000_0000
horner r0 r1 r2 r3 r4 r5 r6 r7 = omega arith

pub byte_number : (l : List ℕ) (at : ℕ) → at + 1 ≤ length l → get_or l at 0 ≡ le_number (cut at 1 l)
unfolding le_number
byte_number l at h = rw (uncons l at 0 (omega arith)) (omega arith)

-- std's numbers from bytes, and bytes of numbers, are those of the rules
pub pair_number : (l : List ℕ) (at : ℕ) → at + 2 ≤ length l → from_le_bytes w16 (cut at 2 l) ≡ le_number (cut at 2 l)
unfolding le_number
pair_number l at h = rw (uncons l at 0 (omega arith), uncons l (at + 1) 0 (omega arith)) (omega arith)

-- eight bytes, one by one
pub eight_bytes : (l : List ℕ) (at : ℕ) → at + 8 ≤ length l
    → cut at 8 l ≡ get_or l at 0 ∷ get_or l (at + 1) 0 ∷ get_or l (at + 2) 0 ∷ get_or l (at + 3) 0 ∷ get_or l (at + 4) 0 ∷ get_or l (at + 5) 0 ∷ get_or l (at + 6) 0 ∷ get_or l (at + 7) 0 ∷ []
eight_bytes l at h =
    let e2 : at + 1 + 1 ≡ at + 2 = omega arith in
    let e3 : at + 2 + 1 ≡ at + 3 = omega arith in
    let e4 : at + 3 + 1 ≡ at + 4 = omega arith in
    let e5 : at + 4 + 1 ≡ at + 5 = omega arith in
    let e6 : at + 5 + 1 ≡ at + 6 = omega arith in
    let e7 : at + 6 + 1 ≡ at + 7 = omega arith in
    rw (uncons l at 0 (omega arith), uncons l (at + 1) 0 (omega arith), e2, uncons l (at + 2) 0 (omega arith), e3, uncons l (at + 3) 0 (omega arith), e4, uncons l (at + 4) 0 (omega arith), e5, uncons l (at + 5) 0 (omega arith), e6, uncons l (at + 6) 0 (omega arith), e7, uncons l (at + 7) 0 (omega arith))

pub word_number : (l : List ℕ) (at : ℕ) → at + 8 ≤ length l → from_le_bytes w64 (cut at 8 l) ≡ le_number (cut at 8 l)
unfolding le_number
word_number l at h = rw (eight_bytes l at h) (sym (horner _ _ _ _ _ _ _ _))

pub pair_bytes : (v : ℕ) → to_le_bytes w16 v ≡ le_bytes 2 v
unfolding le_bytes
pair_bytes v = refl

pub word_bytes : (v : ℕ) → to_le_bytes w64 v ≡ le_bytes 8 v
unfolding le_bytes
word_bytes v = simp div-div-eq-div-mul

pub byte_store : (l : List ℕ) (at v : ℕ) → v < 256 → set l at v ≡ sets l at (le_bytes 1 v)
unfolding le_bytes
byte_store l at v h = let e : v % 256 ≡ v = omega arith in rw e
