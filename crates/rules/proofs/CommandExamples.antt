-- Closed examples of the command stream: operands and widths of every code, replies, pending path, runs, lines as text.
use Prim.Native.Nat.{ℕ, zero, suc, ◌-◌}
use mathlib.Core.Path.{◌≡◌, refl}
use mathlib.Core.List.{List, [], ◌∷◌, ◌++◌, map}
use Rattle.std.specs.Prelude.{Option, None, Some}
use mathlib.Core.Bool.{true, false}
use lib.ListN.{length, replicate}
use Rattle.types.specs.declared.sender.Sender.{Sender}
use Rattle.types.specs.declared.node_addr.NodeAddr.{NodeAddr}
use Rattle.types.specs.Senders.{new_sender}
use Rattle.types.specs.declared.placed.Funding.TheVariants.{Uncharged, Upto}
use Rattle.types.specs.declared.placed.HintOutcome.TheVariants.{Changed, Rejected, Unchanged}
use Rattle.types.specs.declared.placed.Segment.TheVariants.{Main, Probation}
use Rattle.types.specs.Values.{refuses, says}
use Rattle.rules.specs.Cases.{maybe}
use Rattle.rules.specs.Calls.{Clear, ClearPathMtu, Demote, Done, EntryRemoved, ExpiryGiven, Get, GetAndTouch, InvalidateOtherRoots, InvalidateViaNode, KeyHeld, NextExpiry, PathFound, PurgeExpired, Refused, Remove, RowsRemoved, Stats, StatsGiven}
use Rattle.rules.specs.Refusals.{Asked, Fresh, Request, fresh}
use Rattle.rules.specs.Commands.{Command, Element, Plain, WithPath, code_of, codes, decimal, decode, line, line_text, reply, run_commands, tally_after}
use Rattle.rules.proofs.Compute.{done, elements_from, hint, insert, insert_funded, insert_stated, insert_verified, insert_verified_with_path_mtu, insert_with_ttl, lines_of, path}

-- ---- operands of every code

-- the request that a command makes with a path of one element pending
request_in : Sender → Command → Option Request
request_in s (Element e) = None
request_in s (WithPath f) = Some (Asked (f s))
request_in s (Plain x) = Some x

asks : ℕ → List ℕ → Option Request
asks b bs = maybe (decode b bs) None (λ d. request_in (record { pending = path 1 }) d.command)

-- the bytes 1, 2, 3 ..
counted : ℕ → ℕ → List ℕ
counted zero from = []
counted (suc n) from = from ∷ counted n (suc from)

-- the key of the bytes 1 to 16, and the time of the bytes 17 to 24
K : NodeAddr
K = record { 0 = counted 16 1 }

abbrev T : ℕ
T = 1735880461161533969

operands_00 : asks 0x00 (counted 10 1) ≡ Some (Fresh 513 723118041428460547)
unfolding asks request_in counted K lines_of
operands_00 = refl

operands_10 : asks 0x10 (counted 24 1) ≡ Some (Asked (insert K (path 1) T))
unfolding asks request_in counted K lines_of
operands_10 = refl

operands_11 : asks 0x11 (counted 32 1) ≡ Some (Asked (insert_with_ttl K (path 1) T 2314601843866147353))
unfolding asks request_in counted K lines_of
operands_11 = refl

operands_12 : asks 0x12 (counted 24 1 ++ (1 ∷ counted 8 26)) ≡ Some (Asked (insert_funded K (path 1) T (Upto 2386942016704224026)))
unfolding asks request_in counted K lines_of
operands_12 = refl

operands_12_uncharged : asks 0x12 (counted 24 1 ++ (0 ∷ counted 8 26)) ≡ Some (Asked (insert_funded K (path 1) T Uncharged))
unfolding asks request_in counted K lines_of
operands_12_uncharged = refl

operands_13 : asks 0x13 (counted 24 1 ++ (1 ∷ counted 8 26)) ≡ Some (Asked (insert_stated K (path 1) T (Upto 2386942016704224026)))
unfolding asks request_in counted K lines_of
operands_13 = refl

operands_14 : asks 0x14 (counted 24 1) ≡ Some (Asked (insert_verified K (path 1) T))
unfolding asks request_in counted K lines_of
operands_14 = refl

operands_15 : asks 0x15 (counted 26 1) ≡ Some (Asked (insert_verified_with_path_mtu K (path 1) T 6681))
unfolding asks request_in counted K lines_of
operands_15 = refl

operands_20 : asks 0x20 (counted 24 1) ≡ Some (Asked (Get K T))
unfolding asks request_in counted K lines_of
operands_20 = refl

operands_21 : asks 0x21 (counted 24 1) ≡ Some (Asked (GetAndTouch K T))
unfolding asks request_in counted K lines_of
operands_21 = refl

operands_22 : asks 0x22 (counted 16 1) ≡ Some (Asked (Remove K))
unfolding asks request_in counted K lines_of
operands_22 = refl

operands_23 : asks 0x23 (counted 16 1) ≡ Some (Asked (Demote K))
unfolding asks request_in counted K lines_of
operands_23 = refl

operands_24 : asks 0x24 (counted 16 1) ≡ Some (Asked (ClearPathMtu K))
unfolding asks request_in counted K lines_of
operands_24 = refl

operands_30 : asks 0x30 (counted 8 1) ≡ Some (Asked (PurgeExpired 578437695752307201))
unfolding asks request_in counted K lines_of
operands_30 = refl

operands_31 : asks 0x31 [] ≡ Some (Asked Clear)
unfolding asks request_in counted K lines_of
operands_31 = refl

operands_32 : asks 0x32 (counted 16 1) ≡ Some (Asked (InvalidateViaNode K))
unfolding asks request_in counted K lines_of
operands_32 = refl

operands_33 : asks 0x33 (counted 16 1) ≡ Some (Asked (InvalidateOtherRoots K))
unfolding asks request_in counted K lines_of
operands_33 = refl

operands_40 : asks 0x40 (counted 8 1) ≡ Some (Asked (Stats 578437695752307201))
unfolding asks request_in counted K lines_of
operands_40 = refl

operands_41 : asks 0x41 [] ≡ Some (Asked NextExpiry)
unfolding asks request_in counted K lines_of
operands_41 = refl

-- ---- widths

left_over : ℕ → List ℕ → Option (List ℕ)
left_over b bs = maybe (decode b bs) None (λ d. Some d.left)

-- each code that has operands, with their width
with_operands : List (ℕ × ℕ)
with_operands = (0x00, 10) ∷ (0x01, 32) ∷ (0x10, 24) ∷ (0x11, 32) ∷ (0x12, 33) ∷ (0x13, 33) ∷ (0x14, 24) ∷ (0x15, 26) ∷ (0x20, 24) ∷ (0x21, 24) ∷ (0x22, 16) ∷ (0x23, 16) ∷ (0x24, 16) ∷ (0x30, 8) ∷ (0x32, 16) ∷ (0x33, 16) ∷ (0x40, 8) ∷ []

-- its whole width is read, and no more
whole : map (λ c. left_over c.0 (replicate c.1 0 ++ (7 ∷ []))) with_operands ≡ replicate 17 (Some (7 ∷ []))
unfolding left_over with_operands lines_of
whole = refl

-- a byte less, and it is cut
short : map (λ c. left_over c.0 (replicate (c.1 - 1) 0)) with_operands ≡ replicate 17 None
unfolding left_over with_operands lines_of
short = refl

-- the two codes without operands
bare : map (λ b. left_over b (7 ∷ [])) (0x31 ∷ 0x41 ∷ []) ≡ replicate 2 (Some (7 ∷ []))
unfolding left_over lines_of
bare = refl

known_of : List ℕ → List ℕ
known_of [] = []
known_of (b ∷ bs) = maybe (code_of b codes) (known_of bs) (λ c. b ∷ known_of bs)

-- every byte that is no code of 01 is unknown
known_codes : known_of (counted 256 0) ≡ 0x00 ∷ 0x01 ∷ 0x10 ∷ 0x11 ∷ 0x12 ∷ 0x13 ∷ 0x14 ∷ 0x15 ∷ 0x20 ∷ 0x21 ∷ 0x22 ∷ 0x23 ∷ 0x24 ∷ 0x30 ∷ 0x31 ∷ 0x32 ∷ 0x33 ∷ 0x40 ∷ 0x41 ∷ []
unfolding known_of counted lines_of
known_codes = refl

-- ---- replies

-- refused, lookups, remove, demote, clear, a sweep, statistics, next expiry, verified, hints
replies : map reply (Refused 3 ∷ PathFound None ∷ PathFound (Some (elements_from 90 2)) ∷ EntryRemoved None ∷ KeyHeld true ∷ KeyHeld false ∷ Done ∷ RowsRemoved 7 ∷ StatsGiven (record { entries = 1; max_entries = 2; expired = 3; avg_age_ms = 4 }) ∷ ExpiryGiven None ∷ ExpiryGiven (Some 9) ∷ done 17 2 ∷ hint Changed 5 Main false 6 ∷ hint Unchanged 0 Probation true 1 ∷ hint Rejected 0 Main true 0 ∷ [])
    ≡ refuses 3 ∷ says 0 0 0 0 0 ∷ says 1 2 0 0 0 ∷ says 0 0 0 0 0 ∷ says 1 0 0 0 0 ∷ says 0 0 0 0 0 ∷ says 0 0 0 0 0 ∷ says 7 0 0 0 0 ∷ says 1 2 3 4 0 ∷ says 0 0 0 0 0 ∷ says 1 9 0 0 0 ∷ says 0 17 0 0 2 ∷ says 1 5 0 0 6 ∷ says 2 0 1 1 1 ∷ says 3 0 0 1 0 ∷ []
unfolding lines_of
replies = refl

-- ---- runs

-- 01: an element of sixteen bytes a
element : ℕ → List ℕ
element a = 0x01 ∷ (replicate 16 a ++ replicate 16 0)

repeated : ℕ → List ℕ → List ℕ
repeated zero bs = []
repeated (suc n) bs = bs ++ repeated n bs

-- 10: key of sixteen bytes a, time 0
insert_at : ℕ → List ℕ
insert_at a = 0x10 ∷ (replicate 16 a ++ replicate 8 0)

-- 00: max, ttl 300000
fresh_to : ℕ → List ℕ
fresh_to m = 0x00 ∷ m ∷ 0 ∷ 0xe0 ∷ 0x93 ∷ 0x04 ∷ replicate 5 0

-- unknown: byte ff, and what follows is not read
unknown_byte : lines_of (0xff ∷ 0x31 ∷ []) ≡ line 0xff (refuses 6) ∷ []
unfolding lines_of
unknown_byte = refl

-- cut: an operand is short
cut_command : lines_of (0x31 ∷ 0x22 ∷ replicate 15 1) ≡ line 0x31 (says 0 0 0 0 0) ∷ line 0x22 (refuses 6) ∷ []
unfolding lines_of
cut_command = refl

-- funding kind over 1
kind_two : map (λ b. lines_of (element 1 ++ (b ∷ (replicate 16 1 ++ replicate 8 0 ++ (2 ∷ []) ++ replicate 8 0)))) (0x12 ∷ 0x13 ∷ [])
    ≡ map (λ b. line 0x01 (says 1 0 0 0 0) ∷ line b (refuses 6) ∷ []) (0x12 ∷ 0x13 ∷ [])
unfolding element lines_of
kind_two = refl

-- a 33rd element is refused by 2 and dropped, and the 32 stay
thirty_third : lines_of (repeated 33 (element 1) ++ insert_at 1 ++ (0x20 ∷ (replicate 16 1 ++ replicate 8 0))) ≡ map (λ n. line 0x01 (says n 0 0 0 0)) (1 ∷ 2 ∷ 3 ∷ 4 ∷ 5 ∷ 6 ∷ 7 ∷ 8 ∷ 9 ∷ 10 ∷ 11 ∷ 12 ∷ 13 ∷ 14 ∷ 15 ∷ 16 ∷ 17 ∷ 18 ∷ 19 ∷ 20 ∷ 21 ∷ 22 ∷ 23 ∷ 24 ∷ 25 ∷ 26 ∷ 27 ∷ 28 ∷ 29 ∷ 30 ∷ 31 ∷ 32 ∷ []) ++ (line 0x01 (refuses 2) ∷ line 0x10 (says 0 32 0 0 0) ∷ line 0x20 (says 1 32 0 0 0) ∷ [])
unfolding element repeated insert_at lines_of
thirty_third = refl

-- 00 and reads keep the pending path; an insert empties it, refused or not
pending_kept_and_emptied : lines_of (element 1 ++ fresh_to 8 ++ (0x41 ∷ []) ++ insert_at 1 ++ insert_at 2 ++ element 1 ++ fresh_to 24 ++ element 1) ≡ line 0x01 (says 1 0 0 0 0) ∷ line 0x00 (says 0 0 0 0 0) ∷ line 0x41 (says 0 0 0 0 0) ∷ line 0x10 (says 0 16 0 0 0) ∷ line 0x10 (refuses 2) ∷ line 0x01 (says 1 0 0 0 0) ∷ line 0x00 (refuses 5) ∷ line 0x01 (says 2 0 0 0 0) ∷ []
unfolding element insert_at fresh_to lines_of
pending_kept_and_emptied = refl

-- the length of the pending path after a run
pending_after : List ℕ → ℕ
unfolding lines_of
pending_after bs = (run_commands (length bs) 24 (record { state = fresh 24 8 300000 []; sender = new_sender }) bs).session.sender.pending.len

-- number 6 empties it for 10 to 15 alone: cut at 10 and 15, kind 2 at 12; cut at 20, and unknown at 0f, 16 and ff
six_and_the_pending_path : map (λ bs. pending_after (element 1 ++ bs)) ((0x10 ∷ []) ∷ (0x15 ∷ []) ∷ (0x12 ∷ (replicate 24 1 ++ (2 ∷ []) ++ replicate 8 0)) ∷ (0x20 ∷ []) ∷ (0x0f ∷ []) ∷ (0x16 ∷ []) ∷ (0xff ∷ []) ∷ []) ≡ 0 ∷ 0 ∷ 0 ∷ 1 ∷ 1 ∷ 1 ∷ 1 ∷ []
unfolding element pending_after
six_and_the_pending_path = refl

-- the tally of a run: three done, one refused
tally_of_a_run : tally_after (record { done = 0; refused = 0 }) (lines_of (element 1 ++ insert_at 1 ++ insert_at 1 ++ (0x41 ∷ []))) ≡ record { done = 3; refused = 1 }
unfolding element insert_at lines_of
tally_of_a_run = refl

-- a line's largest numbers, in text: "ff 6 0 0 0 0 0", and 18446744073709551615 in twenty digits
largest_in_text : decimal 18446744073709551615 ≡ 49 ∷ 56 ∷ 52 ∷ 52 ∷ 54 ∷ 55 ∷ 52 ∷ 52 ∷ 48 ∷ 55 ∷ 51 ∷ 55 ∷ 48 ∷ 57 ∷ 53 ∷ 53 ∷ 49 ∷ 54 ∷ 49 ∷ 53 ∷ []
unfolding lines_of
largest_in_text = refl

hex_in_text : line_text (line 0xff (refuses 6)) ≡ 102 ∷ 102 ∷ 32 ∷ 54 ∷ 32 ∷ 48 ∷ 32 ∷ 48 ∷ 32 ∷ 48 ∷ 32 ∷ 48 ∷ 32 ∷ 48 ∷ 10 ∷ []
unfolding lines_of
hex_in_text = refl

-- it starts at max 8 and ttl 300000 with R 24: fresh at max 23 is done, at 24 and 256 refused
coordrun_start : lines_of ((0x40 ∷ replicate 8 0) ++ element 1 ++ insert_at 1 ++ (0x41 ∷ []) ++ (0x22 ∷ replicate 16 1) ++ (0x22 ∷ replicate 16 1) ++ (0x00 ∷ 23 ∷ replicate 9 0) ++ (0x00 ∷ 24 ∷ replicate 9 0) ++ (0x00 ∷ 0 ∷ 1 ∷ replicate 8 0) ++ (0x40 ∷ replicate 8 0))
    ≡ line 0x40 (says 0 8 0 0 0) ∷ line 0x01 (says 1 0 0 0 0) ∷ line 0x10 (says 0 16 0 0 0) ∷ line 0x41 (says 1 300000 0 0 0) ∷ line 0x22 (says 1 0 0 0 0) ∷ line 0x22 (says 0 0 0 0 0) ∷ line 0x00 (says 0 0 0 0 0) ∷ line 0x00 (refuses 5) ∷ line 0x00 (refuses 5) ∷ line 0x40 (says 0 23 0 0 0) ∷ []
unfolding element insert_at lines_of
coordrun_start = refl

-- a 6 is tallied too
tally_of_a_six : tally_after (record { done = 0; refused = 0 }) (lines_of (0x41 ∷ 0xff ∷ 0x41 ∷ [])) ≡ record { done = 1; refused = 1 }
unfolding lines_of
tally_of_a_six = refl
