-- Table P of document 01, as closed theorems: max 2 and ttl 300000 unless given.
use Prim.Native.Nat.{ℕ}
use mathlib.Core.Path.{◌≡◌, refl}
use mathlib.Core.List.{List, [], ◌∷◌, ◌++◌, map}
use mathlib.Core.Bool.{true, false}
use lib.ListN.{replicate}
use Rattle.types.specs.Paths.{path_weight}
use Rattle.types.specs.declared.placed.Funding.TheVariants.{Uncharged, Upto}
use Rattle.types.specs.declared.placed.HintOutcome.TheVariants.{Changed, Inserted, Rejected}
use Rattle.types.specs.declared.placed.Segment.TheVariants.{Main, Probation}
use Rattle.types.specs.Values.{says}
use Rattle.rules.specs.Records.{probation_bound}
use Rattle.rules.specs.Entries.{mark_verified, new_entry, verified}
use Rattle.rules.specs.Calls.{Answer, Call, Get, GetAndTouch}
use Rattle.rules.specs.Commands.{line, lines_text}
use Rattle.rules.proofs.Compute.{A, B, C, answers_of, done, found, hint, insert, insert_funded, insert_verified, lines_of, missing, path}

abbrev answers : ℕ → ℕ → List Call → List Answer
answers = answers_of 24

-- 1. Lengths 1, 16, 17 weigh 16, 16, 17.
p1 : map path_weight (path 1 ∷ path 16 ∷ path 17 ∷ []) ≡ 16 ∷ 16 ∷ 17 ∷ []
unfolding answers_of
p1 = refl

-- 2. Q at max 0, 63, 64: 1, 1, 2.
p2 : map probation_bound (0 ∷ 63 ∷ 64 ∷ []) ≡ 1 ∷ 1 ∷ 2 ∷ []
p2 = refl

-- 3. Ttl 10, set at 5: read at 15, gone at 16.
p3 : answers 2 10 (insert A (path 1) 5 ∷ Get A 15 ∷ Get A 16 ∷ []) ≡ hint Inserted 16 Main false 0 ∷ found 1 ∷ missing ∷ []
unfolding answers_of
p3 = refl

-- 4. Verified at 0: so at 300000, not at 300001.
p4 : map (λ t. verified t (mark_verified 0 (new_entry (path 1) 0 300000))) (300000 ∷ 300001 ∷ []) ≡ true ∷ false ∷ []
unfolding answers_of
p4 = refl

p4_by_calls : answers 2 300000 (insert_verified A (path 1) 0 ∷ insert A (path 2) 300000 ∷ GetAndTouch A 300000 ∷ insert A (path 2) 300001 ∷ []) ≡ done 16 0 ∷ hint Rejected 0 Main false 0 ∷ found 1 ∷ hint Changed 0 Main false 0 ∷ []
unfolding answers_of
p4_by_calls = refl

-- 5. Max 0, new: Uncharged Rejected; U16 probation; U15 probation, unfunded.
p5_uncharged : answers 0 300000 (insert_funded A (path 1) 0 Uncharged ∷ []) ≡ hint Rejected 0 Main false 0 ∷ []
unfolding answers_of
p5_uncharged = refl

p5_u16 : answers 0 300000 (insert_funded A (path 1) 0 (Upto 16) ∷ []) ≡ hint Inserted 0 Probation false 0 ∷ []
unfolding answers_of
p5_u16 = refl

p5_u15 : answers 0 300000 (insert_funded A (path 1) 0 (Upto 15) ∷ []) ≡ hint Inserted 0 Probation true 0 ∷ []
unfolding answers_of
p5_u15 = refl

-- 6. Max 1, A verified at 0: B, U16 at 300000 to probation; at 300001 instead, main.
p6_at_300000 : answers 1 300000 (insert_verified A (path 1) 0 ∷ insert_funded B (path 1) 300000 (Upto 16) ∷ []) ≡ done 16 0 ∷ hint Inserted 0 Probation false 1 ∷ []
unfolding answers_of
p6_at_300000 = refl

p6_at_300001 : answers 1 300000 (insert_verified A (path 1) 0 ∷ insert_funded B (path 1) 300001 (Upto 16) ∷ []) ≡ done 16 0 ∷ hint Inserted 16 Main false 1 ∷ []
unfolding answers_of
p6_at_300001 = refl

-- 7. Max 1, empty, length 17, U17: main, added 17.
p7 : answers 1 300000 (insert_funded A (path 17) 0 (Upto 17) ∷ []) ≡ hint Inserted 17 Main false 0 ∷ []
unfolding answers_of
p7 = refl

-- 8. Probation weight 20, length 1: U16 stays, Changed; U20 instead, Changed, added 20.
p8_u16 : answers 2 300000 (insert_funded A (path 20) 0 (Upto 1) ∷ insert_funded A (path 1) 0 (Upto 16) ∷ []) ≡ hint Inserted 0 Probation true 0 ∷ hint Changed 0 Probation false 0 ∷ []
unfolding answers_of
p8_u16 = refl

p8_u20 : answers 2 300000 (insert_funded A (path 20) 0 (Upto 1) ∷ insert_funded A (path 1) 0 (Upto 20) ∷ []) ≡ hint Inserted 0 Probation true 0 ∷ hint Changed 20 Main false 0 ∷ []
unfolding answers_of
p8_u20 = refl

-- 9. Main 16, length 18: U1 Rejected, unfunded; U2 added 2.
p9_u1 : answers 2 300000 (insert_funded A (path 1) 0 (Upto 16) ∷ insert_funded A (path 18) 0 (Upto 1) ∷ []) ≡ hint Inserted 16 Main false 0 ∷ hint Rejected 0 Main true 0 ∷ []
unfolding answers_of
p9_u1 = refl

p9_u2 : answers 2 300000 (insert_funded A (path 1) 0 (Upto 16) ∷ insert_funded A (path 18) 0 (Upto 2) ∷ []) ≡ hint Inserted 16 Main false 0 ∷ hint Changed 2 Main false 0 ∷ []
unfolding answers_of
p9_u2 = refl

-- 10. A at 1, B at 2, touch A at 3, C at 4, all U16: B leaves, examined 2.
p10 : answers 2 300000 (insert_funded A (path 1) 1 (Upto 16) ∷ insert_funded B (path 1) 2 (Upto 16) ∷ GetAndTouch A 3 ∷ insert_funded C (path 1) 4 (Upto 16) ∷ Get A 4 ∷ Get B 4 ∷ Get C 4 ∷ []) ≡ hint Inserted 16 Main false 0 ∷ hint Inserted 16 Main false 0 ∷ found 1 ∷ hint Inserted 16 Main false 2 ∷ found 1 ∷ missing ∷ found 1 ∷ []
unfolding answers_of
p10 = refl

-- ---- the worked stream: 01, sixteen aa, sixteen 00; 12, sixteen aa, time 5, kind 1, amount 15; 20, sixteen aa, time 5

worked : List ℕ
worked =
    0x01 ∷ (replicate 16 0xaa ++ replicate 16 0)
    ++ (0x12 ∷ (replicate 16 0xaa ++ (5 ∷ replicate 7 0) ++ (1 ∷ []) ++ (15 ∷ replicate 7 0))
    ++ (0x20 ∷ (replicate 16 0xaa ++ (5 ∷ replicate 7 0))))

worked_lines : lines_of worked ≡ line 0x01 (says 1 0 0 0 0) ∷ line 0x12 (says 0 0 1 1 0) ∷ line 0x20 (says 1 1 0 0 0) ∷ []
unfolding worked lines_of
worked_lines = refl

-- "01 0 1 0 0 0 0", "12 0 0 0 1 1 0", "20 0 1 1 0 0 0", each with its newline
worked_text : lines_text (lines_of worked) ≡ (48 ∷ 49 ∷ 32 ∷ 48 ∷ 32 ∷ 49 ∷ 32 ∷ 48 ∷ 32 ∷ 48 ∷ 32 ∷ 48 ∷ 32 ∷ 48 ∷ 10 ∷ []) ++ (49 ∷ 50 ∷ 32 ∷ 48 ∷ 32 ∷ 48 ∷ 32 ∷ 48 ∷ 32 ∷ 49 ∷ 32 ∷ 49 ∷ 32 ∷ 48 ∷ 10 ∷ []) ++ (50 ∷ 48 ∷ 32 ∷ 48 ∷ 32 ∷ 49 ∷ 32 ∷ 49 ∷ 32 ∷ 48 ∷ 32 ∷ 48 ∷ 32 ∷ 48 ∷ 10 ∷ [])
unfolding worked lines_of
worked_text = refl
