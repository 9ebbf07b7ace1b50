-- What the result of each public call says, as an answer of the rules.
use Rattle.std.specs.Prelude.{ℕ, length, Option, None, Some, Result, Ok, Err, option_map}
use Rattle.types.specs.declared.refusal.Refusal.{Refusal}
use Rattle.types.specs.declared.reply.Reply.{Reply}
use Rattle.types.specs.Values.{refusal_code, says, refuses}
use Rattle.rules.specs.Calls.{Answer, Refused, Hinted, VerifiedDone, PathFound, EntryRemoved, KeyHeld, Done, RowsRemoved, StatsGiven, ExpiryGiven}

-- a result whose value the rules have as this answer; a refusal by its number
abbrev pub said : {A : Type 0} → (A → Answer) → Result A Refusal → Answer
said f (Ok a) = f a
said f (Err r) = Refused (refusal_code r)

-- the same where the refusal is a number, which may be any
abbrev pub number_said : {A : Type 0} → (A → Answer) → Result A ℕ → Answer
number_said f (Ok a) = f a
number_said f (Err n) = Refused n

-- fresh, clear and clear_path_mtu say nothing but that they are done
abbrev pub done : Unit {0} → Answer
done u = Done

-- a refusal's number, 0 if done: the number lent beside the state where a lookup hands back a part, and what fresh gives C
unfoldable pub refusal_of : Answer → ℕ
refusal_of (Refused n) = n
refusal_of (Hinted p) = 0
refusal_of (VerifiedDone v) = 0
refusal_of (PathFound o) = 0
refusal_of (EntryRemoved o) = 0
refusal_of (KeyHeld b) = 0
refusal_of Done = 0
refusal_of (RowsRemoved n) = 0
refusal_of (StatsGiven c) = 0
refusal_of (ExpiryGiven o) = 0

-- touch: found, and the length
unfoldable pub touch_reply : Result (Option ℕ) Refusal → Reply
touch_reply (Err r) = refuses (refusal_code r)
touch_reply (Ok (Some len)) = says 1 len 0 0 0
touch_reply (Ok None) = says 0 0 0 0 0

-- the same where the refusal is a number
unfoldable pub touch_number_reply : Result (Option ℕ) ℕ → Reply
touch_number_reply (Err n) = refuses n
touch_number_reply (Ok (Some len)) = says 1 len 0 0 0
touch_number_reply (Ok None) = says 0 0 0 0 0

-- the same result with its refusal's number in place of the refusal
abbrev pub numbered : {A : Type 0} → Result A Refusal → Result A ℕ
numbered (Ok a) = Ok a
numbered (Err r) = Err (refusal_code r)

-- touch says the length of the path that the rules find
unfoldable pub touch_answer : Answer → Result (Option ℕ) ℕ
touch_answer (Refused n) = Err n
touch_answer (PathFound o) = Ok (option_map length o)
touch_answer (Hinted p) = Ok None
touch_answer (VerifiedDone v) = Ok None
touch_answer (EntryRemoved o) = Ok None
touch_answer (KeyHeld b) = Ok None
touch_answer Done = Ok None
touch_answer (RowsRemoved n) = Ok None
touch_answer (StatsGiven c) = Ok None
touch_answer (ExpiryGiven o) = Ok None
