-- A count of at least the number of bytes is enough.
use mathlib.Core.Path.{◌≡◌, refl, ap}
use Prim.Native.Nat.{ℕ, zero, suc, ◌-◌, ◌≤◌}
use native.Mathlib.Omega.{arith}
use mathlib.Core.List.{List, [], ◌∷◌}
use Rattle.std.specs.Prelude.{Option, None, Some}
use mathlib.Core.Bool.{Bool}
use lib.ListN.{length, drop, length-drop}
use Rattle.rules.specs.Cases.{maybe}
use Rattle.rules.specs.Commands.{Decoded, codes, decode, line, line_text}
use Rattle.rules.proofs.CommandRuns.{left_shorter}
use Rattle.commands.specs.OnMemory.{Session, obey, obey_byte, refused_six}
use Rattle.stream.specs.Runs.{Run, operands, run_all, run_part}

-- ---- the whole stream

-- two counts that are at least the number of bytes give the same run
pub same_run : (n m : ℕ) (h : Session) (bs : List ℕ) → length bs ≤ n → length bs ≤ m → run_all n h bs ≡ run_all m h bs
unfolding run_all
same_run zero zero h bs i j = refl
same_run zero (suc m) h [] i j = refl
same_run (suc n) zero h [] i j = refl
same_run (suc n) (suc m) h [] i j = refl
same_run zero (suc m) h (b ∷ bs) i j = absurd (let z : ⊥ = omega arith in z)
same_run (suc n) zero h (b ∷ bs) i j = absurd (let z : ⊥ = omega arith in z)
same_run (suc n) (suc m) h (b ∷ bs) i j = go (decode b bs) refl (λ d l. same_run n m (obey h d.command).session d.left (omega arith) (omega arith))
  where
    six : Run
    six = record { lines = line b (refused_six b h).reply ∷ []; session = (refused_six b h).session }

    then : Decoded → Run → Run
    then d r = record { lines = line b (obey h d.command).reply ∷ r.lines; session = r.session }

    go : (o : Option Decoded) → decode b bs ≡ o → ((d : Decoded) → length d.left ≤ length bs → run_all n (obey h d.command).session d.left ≡ run_all m (obey h d.command).session d.left)
        → maybe o six (λ d. then d (run_all n (obey h d.command).session d.left)) ≡ maybe o six (λ d. then d (run_all m (obey h d.command).session d.left))
    go None e f = refl
    go (Some d) e f = ap (then d) (f d (left_shorter codes b bs d e))

-- THE NUMBER OF BYTES IS ENOUGH
pub count_enough : (n : ℕ) (h : Session) (bs : List ℕ) → length bs ≤ n → run_all n h bs ≡ run_all (length bs) h bs
count_enough n h bs i = same_run n (length bs) h bs i (omega arith)

-- ---- a part of it

pub same_part : (n m : ℕ) (last : Bool) (room : ℕ) (h : Session) (bs : List ℕ) → length bs ≤ n → length bs ≤ m → run_part n last room h bs ≡ run_part m last room h bs
unfolding run_part
same_part zero zero last room h bs i j = refl
same_part zero (suc m) last room h [] i j = refl
same_part (suc n) zero last room h [] i j = refl
same_part (suc n) (suc m) last room h [] i j = refl
same_part zero (suc m) last room h (b ∷ bs) i j = absurd (let z : ⊥ = omega arith in z)
same_part (suc n) zero last room h (b ∷ bs) i j = absurd (let z : ⊥ = omega arith in z)
same_part (suc n) (suc m) last room h (b ∷ bs) i j =
    let o = obey_byte h b bs in
    let rest = drop (operands b bs) bs in
    let k : length rest ≤ length bs = rw (length-drop (operands b bs) bs) (omega arith) in
    rw (same_part n m last (room - length (line_text (line b o.reply))) o.session rest (omega arith) (omega arith))

-- THE NUMBER OF BYTES IS ENOUGH for a part of a stream too
pub part_count_enough : (n : ℕ) (last : Bool) (room : ℕ) (h : Session) (bs : List ℕ) → length bs ≤ n → run_part n last room h bs ≡ run_part (length bs) last room h bs
part_count_enough n last room h bs i = same_part n (length bs) last room h bs i (omega arith)
