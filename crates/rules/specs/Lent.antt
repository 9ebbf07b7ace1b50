-- Requests on the lent memory: answer, memory, and the part that a lookup hands back.
use Rattle.std.specs.Prelude.{ℕ, zero, suc, ◌+◌, ◌*◌, ◌<◌, ◌/◌, ◌≡◌, List, [], ◌∷◌, cond, length}
use Rattle.types.specs.declared.node_addr.NodeAddr.{NodeAddr}
use Rattle.types.specs.declared.coord.CoordEntry.{CoordEntry}
use Rattle.types.specs.declared.coord.Path.{Path}
use Rattle.types.specs.Paths.{path_places}
use Rattle.rules.specs.Cases.{maybe, Every}
use Rattle.rules.specs.Rows.{row_at}
use Rattle.rules.specs.Memory.{cut, capacity, view, memory}
use Rattle.rules.specs.Lookups.{unexpired_row}
use Rattle.rules.specs.Calls.{Call, Insert, InsertWithTtl, InsertFunded, InsertStated, InsertVerified, InsertVerifiedWithPathMtu, Get, GetAndTouch, Remove, Demote, ClearPathMtu, PurgeExpired, Clear, InvalidateViaNode, InvalidateOtherRoots, Stats, NextExpiry, Answer, was_refused}
use Rattle.rules.specs.Refusals.{Request, Fresh, Asked, refusal, serve}
use Rattle.rules.specs.Lists.{Event, Served}
use Rattle.rules.specs.Layout.{address_size, coord_entry_size, entry_offset, head_size, mtu_size, number_size, places_offset, row_size}

pub record Lent : Type 0 where
  pub answer : Answer
  pub memory : List ℕ

-- the answer by the rules; a refusal leaves the memory, and a done request leaves the memory of the state after it
unfoldable pub lent : List ℕ → Request → Lent
lent l x = let t = serve (capacity l) (view l) x in record { answer = t.answer; memory = cond (was_refused t.answer) l (memory t.state) }

abbrev pub call : List ℕ → Call → Lent
call l q = lent l (Asked q)

pub record LentRun : Type 0 where
  pub events : List Event
  pub memory : List ℕ

unfoldable pub calls : List ℕ → List Call → LentRun
calls l [] = record { events = []; memory = l }
calls l (q ∷ qs) =
    let t = call l q in
    let later = calls t.memory qs in
    record { events = record { call = q; answer = t.answer } ∷ later.events; memory = later.memory }

-- lists of requests, fresh among them
pub record LentServing : Type 0 where
  pub served : List Served
  pub memory : List ℕ

unfoldable pub requests : List ℕ → List Request → LentServing
requests l [] = record { served = []; memory = l }
requests l (x ∷ xs) =
    let t = lent l x in
    let later = requests t.memory xs in
    record { served = record { request = x; answer = t.answer } ∷ later.served; memory = later.memory }

-- ---- what get hands back

-- the first n elements of row i's path, where they stand in the memory
unfoldable pub path_part : ℕ → ℕ → List ℕ → List ℕ
path_part i n l = cut (head_size + i * row_size + (entry_offset + places_offset)) (n * coord_entry_size) l

-- the part of the memory: an unexpired key's stored path, up to its length; empty where nothing is found
unfoldable pub found_part : NodeAddr → ℕ → List ℕ → List ℕ
found_part k now l = maybe (unexpired_row k now (view l)) [] (λ i. path_part i (row_at i (view l).rows).entry.path.len l)

-- the part that a lookup hands back, empty too where the call is refused: get hands back that of its own memory,
-- get_and_touch that of the memory after it
unfoldable pub got_part : NodeAddr → ℕ → List ℕ → List ℕ
got_part k now l = maybe (refusal (capacity l) (view l) (Asked (Get k now))) (found_part k now l) (λ n. [])

-- ---- what the types of the arguments say

-- every element is a byte
abbrev pub Bytes : List ℕ → Type 0
Bytes l = Every (λ b. b < 256) l

-- v has n bytes
abbrev pub Small : ℕ → ℕ → Type 0
Small zero v = v ≡ 0
Small (suc n) v = Small n (v / 256)

pub record AddrFits (a : NodeAddr) : Type 0 where
  pub size : length a.0 ≡ address_size
  pub bytes : Bytes a.0

pub record CoordEntryFits (x : CoordEntry) : Type 0 where
  pub address : AddrFits x.node_addr
  pub sequence : Small number_size x.sequence
  pub timestamp : Small number_size x.timestamp

pub record PathFits (p : Path) : Type 0 where
  pub places : length p.entries ≡ path_places
  pub each : Every CoordEntryFits p.entries

pub record WriteFits (k : NodeAddr) (p : Path) (t : ℕ) : Type 0 where
  pub key : AddrFits k
  pub path : PathFits p
  pub time : Small number_size t

-- a call's arguments are values of their types: an address of 16 bytes, 32 places, numbers of 64 bits, an MTU of 16
abbrev pub Typed : Call → Type 0
Typed (Insert k p t) = WriteFits k p t
Typed (InsertWithTtl k p t l) = WriteFits k p t
Typed (InsertFunded k p t f) = WriteFits k p t
Typed (InsertStated k p t f) = WriteFits k p t
Typed (InsertVerified k p t) = WriteFits k p t
Typed (InsertVerifiedWithPathMtu k p t m) = WriteFits k p t × Small mtu_size m
Typed (Get k t) = Unit {0}
Typed (GetAndTouch k t) = AddrFits k × Small number_size t
Typed (Remove k) = AddrFits k
Typed (Demote k) = AddrFits k
Typed (ClearPathMtu k) = AddrFits k
Typed (PurgeExpired t) = Unit {0}
Typed Clear = Unit {0}
Typed (InvalidateViaNode a) = Unit {0}
Typed (InvalidateOtherRoots a) = Unit {0}
Typed (Stats t) = Unit {0}
Typed NextExpiry = Unit {0}

abbrev pub TypedRequest : Request → Type 0
TypedRequest (Fresh m ttl) = Small number_size m × Small number_size ttl
TypedRequest (Asked q) = Typed q
