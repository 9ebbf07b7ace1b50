-- The command stream of document 01: commands from bytes, replies as numbers, lines as text, a run.
use Rattle.std.specs.Prelude.{ℕ, zero, suc, ◌+◌, ◌/◌, ◌%◌, List, [], ◌∷◌, ◌++◌, Bool, cond, ◌&&◌, ltb, leb, eqb, length, take, drop, Option, None, Some, Result, Ok, Err}
use Rattle.types.specs.declared.node_addr.NodeAddr.{NodeAddr}
use Rattle.types.specs.declared.coord.CoordEntry.{CoordEntry}
use Rattle.types.specs.declared.coord.Path.{Path}
use Rattle.types.specs.declared.sender.Sender.{Sender}
use Rattle.types.specs.declared.refusal.Refusal.{Refusal}
use Rattle.types.specs.Paths.{appended}
use Rattle.types.specs.Senders.{new_sender, with_element, emptied}
use Rattle.types.specs.declared.placed.Funding.{Funding}
use Rattle.types.specs.declared.placed.Funding.TheVariants.{Upto, Uncharged}
use Rattle.types.specs.declared.reply.Reply.{Reply}
use Rattle.types.specs.declared.reply.Tally.{Tally}
use Rattle.types.specs.Values.{bit, refusal_code, says, refuses, placed_reply, verified_reply, stats_reply, tallied}
use Rattle.rules.specs.Cases.{maybe}
use Rattle.rules.specs.Records.{State}
use Rattle.rules.specs.Memory.{cut, le_number, coord_entry_of}
use Rattle.rules.specs.Calls.{Call, Insert, InsertWithTtl, InsertFunded, InsertStated, InsertVerified, InsertVerifiedWithPathMtu, Get, GetAndTouch, Remove, Demote, ClearPathMtu, PurgeExpired, Clear, InvalidateViaNode, InvalidateOtherRoots, Stats, NextExpiry, Answer, Refused, Hinted, VerifiedDone, PathFound, EntryRemoved, KeyHeld, Done, RowsRemoved, StatsGiven, ExpiryGiven}
use Rattle.rules.specs.Refusals.{Request, Fresh, Asked, Step, serve, fresh}
use Rattle.rules.specs.Layout.{byte_size, mtu_size, number_size, address_size, coord_entry_size}

-- ---- replies

-- the refusal or 0, and five numbers; unused ones, and all five of a refused command, are 0
unfoldable pub reply : Answer → Reply
reply (Refused n) = refuses n
reply (Hinted p) = placed_reply p
reply (VerifiedDone v) = verified_reply v
reply (PathFound o) = maybe o (says 0 0 0 0 0) (λ es. says 1 (length es) 0 0 0)
reply (EntryRemoved o) = maybe o (says 0 0 0 0 0) (λ e. says 1 0 0 0 0)
reply (KeyHeld b) = says (bit b) 0 0 0 0
reply Done = says 0 0 0 0 0
reply (RowsRemoved n) = says n 0 0 0 0
reply (StatsGiven c) = stats_reply c
reply (ExpiryGiven o) = maybe o (says 0 0 0 0 0) (λ t. says 1 t 0 0 0)

-- ---- operands: widths, and where each stands

-- a key alone, or an address, has address_size bytes, and a time alone number_size

-- 00: max, ttl
abbrev pub fresh_max_size : ℕ
fresh_max_size = 2

abbrev pub fresh_ttl_at : ℕ
fresh_ttl_at = fresh_max_size

abbrev pub fresh_size : ℕ
fresh_size = fresh_ttl_at + number_size

-- key, time
abbrev pub time_at : ℕ
time_at = address_size

abbrev pub key_time_size : ℕ
key_time_size = time_at + number_size

-- behind them a ttl
abbrev pub ttl_at : ℕ
ttl_at = key_time_size

abbrev pub with_ttl_size : ℕ
with_ttl_size = ttl_at + number_size

-- a funding: kind, amount
abbrev pub kind_at : ℕ
kind_at = key_time_size

abbrev pub amount_at : ℕ
amount_at = kind_at + byte_size

abbrev pub with_funding_size : ℕ
with_funding_size = amount_at + number_size

-- an MTU
abbrev pub mtu_at : ℕ
mtu_at = key_time_size

abbrev pub with_mtu_size : ℕ
with_mtu_size = mtu_at + mtu_size

-- ---- commands from bytes

-- an element onto the pending path; a call that takes what the sender has (codes 10 to 15); any other request
pub data Command : Type 0 where
  Element : CoordEntry → Command
  WithPath : (Sender → Call) → Command
  Plain : Request → Command

-- what operands say: an element; a call that takes what the sender has; such a call with a funding; any other request
pub data Operands : Type 0 where
  Elements : (List ℕ → CoordEntry) → Operands
  Writes : (List ℕ → Sender → Call) → Operands
  Funds : (List ℕ → Funding → Sender → Call) → Operands
  Requests : (List ℕ → Request) → Operands

abbrev pub asks : (List ℕ → Call) → Operands
asks f = Requests (λ o. Asked (f o))

-- a command byte, the width of its operands, and what they say
pub record Code : Type 0 where
  pub byte : ℕ
  pub width : ℕ
  pub says : Operands

unfoldable pub code : ℕ → ℕ → Operands → Code
code b w x = record { byte = b; width = w; says = x }

abbrev pub key_in : List ℕ → NodeAddr
key_in o = record { 0 = cut 0 address_size o }

abbrev pub time_in : List ℕ → ℕ
time_in o = le_number (cut time_at number_size o)

abbrev pub kind_in : List ℕ → ℕ
kind_in o = le_number (cut kind_at byte_size o)

abbrev pub amount_in : List ℕ → ℕ
amount_in o = le_number (cut amount_at number_size o)

-- kind 0 Uncharged, 1 Upto
unfoldable pub funded : List ℕ → (Funding → Sender → Call) → Option Command
funded o f = cond (eqb (kind_in o) 0) (Some (WithPath (f Uncharged))) (cond (eqb (kind_in o) 1) (Some (WithPath (f (Upto (amount_in o))))) None)

-- none for a funding kind over 1
unfoldable pub read_as : Operands → List ℕ → Option Command
read_as (Elements f) o = Some (Element (f o))
read_as (Writes f) o = Some (WithPath (f o))
read_as (Funds f) o = funded o (f o)
read_as (Requests f) o = Some (Plain (f o))

abbrev pub reads : Code → List ℕ → Option Command
reads c o = read_as c.says o

-- the table of codes; in bytes, 01's widths: 10 of 00; 32 of 01; 24 of 10, 14, 20, 21; 32 of 11; 33 of 12, 13; 26 of 15; 16 of 22 to 24, 32,
-- 33; 8 of 30, 40; none of 31, 41
unfoldable pub codes : List Code
codes =
    code 0x00 fresh_size (Requests (λ o. Fresh (le_number (cut 0 fresh_max_size o)) (le_number (cut fresh_ttl_at number_size o))))
    ∷ code 0x01 coord_entry_size (Elements coord_entry_of)
    ∷ code 0x10 key_time_size (Writes (λ o s. Insert (key_in o) s.pending (time_in o)))
    ∷ code 0x11 with_ttl_size (Writes (λ o s. InsertWithTtl (key_in o) s.pending (time_in o) (le_number (cut ttl_at number_size o))))
    ∷ code 0x12 with_funding_size (Funds (λ o f s. InsertFunded (key_in o) s.pending (time_in o) f))
    ∷ code 0x13 with_funding_size (Funds (λ o f s. InsertStated (key_in o) s.pending (time_in o) f))
    ∷ code 0x14 key_time_size (Writes (λ o s. InsertVerified (key_in o) s.pending (time_in o)))
    ∷ code 0x15 with_mtu_size (Writes (λ o s. InsertVerifiedWithPathMtu (key_in o) s.pending (time_in o) (le_number (cut mtu_at mtu_size o))))
    ∷ code 0x20 key_time_size (asks (λ o. Get (key_in o) (time_in o)))
    ∷ code 0x21 key_time_size (asks (λ o. GetAndTouch (key_in o) (time_in o)))
    ∷ code 0x22 address_size (asks (λ o. Remove (key_in o)))
    ∷ code 0x23 address_size (asks (λ o. Demote (key_in o)))
    ∷ code 0x24 address_size (asks (λ o. ClearPathMtu (key_in o)))
    ∷ code 0x30 number_size (asks (λ o. PurgeExpired (le_number (cut 0 number_size o))))
    ∷ code 0x31 0 (asks (λ o. Clear))
    ∷ code 0x32 address_size (asks (λ o. InvalidateViaNode (key_in o)))
    ∷ code 0x33 address_size (asks (λ o. InvalidateOtherRoots (key_in o)))
    ∷ code 0x40 number_size (asks (λ o. Stats (le_number (cut 0 number_size o))))
    ∷ code 0x41 0 (asks (λ o. NextExpiry))
    ∷ []

unfoldable pub code_of : ℕ → List Code → Option Code
code_of b [] = None
code_of b (c ∷ cs) = cond (eqb b c.byte) (Some c) (code_of b cs)

-- the command that starts with the byte b, and the bytes past it
pub record Decoded : Type 0 where
  pub command : Command
  pub left : List ℕ

-- by a table of codes; none is number 6: command unknown, cut, or funding kind over 1
unfoldable pub decode_in : List Code → ℕ → List ℕ → Option Decoded
decode_in cs b bs =
    maybe (code_of b cs) None (λ c.
    let read = maybe (reads c (take c.width bs)) None (λ q. Some (record { command = q; left = drop c.width bs })) in
    cond (leb c.width (length bs)) read None)

abbrev pub decode : ℕ → List ℕ → Option Decoded
decode b bs = decode_in codes b bs

-- ---- one command

-- the state, and what the sender has
pub record Session : Type 0 where
  pub state : State
  pub sender : Sender

pub record Obeyed : Type 0 where
  pub reply : Reply
  pub session : Session

unfoldable pub obeyed : Step → Sender → Obeyed
obeyed t k = record { reply = reply t.answer; session = record { state = t.state; sender = k } }

-- 01: pending; a 33rd element is refused by 2 and dropped
abbrev pub element_reply : Result Path Refusal → Reply
element_reply (Ok p) = says p.len 0 0 0 0
element_reply (Err r) = refuses (refusal_code r)

unfoldable pub pended : Session → Result Path Refusal → Obeyed
pended s a = record { reply = element_reply a; session = record { state = s.state; sender = with_element a s.sender } }

-- codes 10 to 15 empty the pending path, refused or not; every other command keeps it
unfoldable pub obey : ℕ → Session → Command → Obeyed
obey R s (Element e) = pended s (appended s.sender.pending e)
obey R s (WithPath f) = obeyed (serve R s.state (Asked (f s.sender))) (emptied s.sender)
obey R s (Plain x) = obeyed (serve R s.state x) s.sender

-- 10 to 15
unfoldable pub takes_path : ℕ → Bool
takes_path b = leb 0x10 b && leb b 0x15

-- what a command refused by 6 leaves: 10 to 15 empty the pending path here too
unfoldable pub after_six : ℕ → Sender → Sender
after_six b k = cond (takes_path b) (emptied k) k

-- number 6 leaves the state
unfoldable pub refused_six : ℕ → Session → Obeyed
refused_six b s = record { reply = refuses 6; session = record { state = s.state; sender = after_six b s.sender } }

-- ---- a run: one line a command

pub record Line : Type 0 where
  pub byte : ℕ
  pub reply : Reply

unfoldable pub line : ℕ → Reply → Line
line b r = record { byte = b; reply = r }

pub record Output : Type 0 where
  pub lines : List Line
  pub session : Session

-- it stops after a 6; n is enough where it is at least the number of bytes (CommandRuns.fuel_enough)
unfoldable pub run_commands : ℕ → ℕ → Session → List ℕ → Output
run_commands zero R s bs = record { lines = []; session = s }
run_commands (suc n) R s bs =
    elim bs [
      | [] ↦ record { lines = []; session = s }
      | b ∷ rest ↦
          maybe (decode b rest) (record { lines = line b (refused_six b s).reply ∷ []; session = (refused_six b s).session }) (λ d.
          let o = obey R s d.command in
          let later = run_commands n R o.session d.left in
          record { lines = line b o.reply ∷ later.lines; session = later.session })
    ]

-- a run's tally (commands done, commands refused) after its lines
unfoldable pub tally_after : Tally → List Line → Tally
tally_after t [] = t
tally_after t (l ∷ ls) = tally_after (tallied t l.reply.refusal) ls

-- coordrun's R
abbrev pub coordrun_rows : ℕ
coordrun_rows = 24

-- coordrun: on that many rows, starting fresh at max 8, ttl 300000, with a new sender
unfoldable pub coordrun : List ℕ → List Line
coordrun bs = (run_commands (length bs) coordrun_rows (record { state = fresh coordrun_rows 8 300000 []; sender = new_sender }) bs).lines

-- ---- a line as text

-- a digit of the hexadecimal system, lowercase
unfoldable pub hex_digit : ℕ → ℕ
hex_digit d = cond (ltb d 10) (48 + d) (87 + d)

-- n digits are enough for a number below 10^n
unfoldable pub decimal_digits : ℕ → ℕ → List ℕ
decimal_digits zero v = []
decimal_digits (suc n) v = let higher = decimal_digits n (v / 10) in cond (ltb v 10) ((48 + v) ∷ []) (higher ++ ((48 + v % 10) ∷ []))

-- a number below 2^64
unfoldable pub decimal : ℕ → List ℕ
decimal v = decimal_digits 20 v

-- the character between numbers
abbrev pub space : ℕ
space = 32

-- each number after a space
unfoldable pub spaced : List ℕ → List ℕ
spaced [] = []
spaced (v ∷ vs) = space ∷ (decimal v ++ spaced vs)

-- code in two lowercase hex digits, refusal or 0, five decimal numbers
unfoldable pub line_text : Line → List ℕ
line_text l = hex_digit (l.byte / 16) ∷ hex_digit (l.byte % 16) ∷ (spaced (l.reply.refusal ∷ l.reply.values) ++ (10 ∷ []))

unfoldable pub lines_text : List Line → List ℕ
lines_text [] = []
lines_text (l ∷ ls) = line_text l ++ lines_text ls
