-- A command read from bytes is of its types, and so is what the sender has after it.
use mathlib.Core.Path.{◌≡◌, ◌∙◌, subst}
use Prim.Native.Nat.{ℕ, zero, suc, ◌+◌}
use native.Mathlib.Omega.{arith}
use mathlib.Core.List.{List, [], ◌∷◌}
use Rattle.std.specs.Prelude.{Option, Result}
use mathlib.Core.Bool.{true}
use lib.Dec.{eqb, leb, ltb}
use lib.ListN.{length, take, drop, set, length-set, length-replicate}
use lib.Seq.{length-take-le}
use borrow.Author.Tests.{leb-true}
use Rattle.types.specs.declared.coord.CoordEntry.{CoordEntry}
use Rattle.types.specs.declared.coord.Path.{Path}
use Rattle.types.specs.declared.refusal.Refusal.{Refusal}
use Rattle.types.specs.declared.sender.Sender.{Sender}
use Rattle.types.specs.Paths.{zero_entry, empty_path, appended, path_places}
use Rattle.types.specs.Senders.{with_element, new_sender, with_pending, emptied}
use Rattle.types.specs.declared.placed.Funding.{Funding}
use Rattle.types.specs.declared.placed.Funding.TheVariants.{Upto, Uncharged}
use Rattle.rules.specs.Cases.{maybe, Every}
use Rattle.rules.specs.Memory.{cut, le_number}
use Rattle.rules.specs.Lent.{Bytes, Small, AddrFits, CoordEntryFits, PathFits, WriteFits, Typed, TypedRequest}
use Rattle.rules.specs.Layout.{mtu_size, number_size, address_size}
use Rattle.rules.specs.Commands.{Code, Command, Element, WithPath, Plain, Operands, Elements, Writes, Funds, Requests, code, codes, read_as, key_in, time_in, kind_in, amount_in, funded, fresh_max_size, time_at, key_time_size}
use Rattle.rules.proofs.RowLists.{by_cond}
use Rattle.rules.proofs.MemoryLaws.{address_fits, bytes_take, cut_small, element_of_fits}
use Rattle.rules.proofs.EntryLaws.{zeros_fit}
use Rattle.rules.proofs.Sizes.{small8}
use Rattle.rules.proofs.CommandRuns.{Reads, code_found}

-- ---- what stands in operands of w bytes: one law for each kind, whose premise is computed

module _ (o : List ℕ) {w : ℕ} (b : Bytes o) (h : length o ≡ w) where
  -- 00's max
  max_fits : leb fresh_max_size w ≡ true → Small 8 (le_number (cut 0 fresh_max_size o))
  max_fits t = let n = leb-true fresh_max_size w t in let k = cut_small 0 fresh_max_size o (omega arith) b in small8 (le_number (cut 0 fresh_max_size o)) (omega arith)

  number_fits : (k : ℕ) → leb (k + number_size) w ≡ true → Small 8 (le_number (cut k number_size o))
  number_fits k t = let n = leb-true (k + number_size) w t in cut_small k number_size o (omega arith) b

  mtu_fits : (k : ℕ) → leb (k + mtu_size) w ≡ true → Small 2 (le_number (cut k mtu_size o))
  mtu_fits k t = let n = leb-true (k + mtu_size) w t in cut_small k mtu_size o (omega arith) b

  key_fits : leb address_size w ≡ true → AddrFits (key_in o)
  key_fits t = let n = leb-true address_size w t in address_fits 0 o (omega arith) b

  write_fits : {p : Path} → leb key_time_size w ≡ true → PathFits p → WriteFits (key_in o) p (time_in o)
  write_fits t f = let n = leb-true key_time_size w t in record { key = address_fits 0 o (omega arith) b; path = f; time = cut_small time_at number_size o (omega arith) b }

-- ---- what the sender has

pub record SenderFits (k : Sender) : Type 0 where
  pub pending : PathFits k.pending

empty_fits : PathFits empty_path
unfolding empty_path
empty_fits = record { places = length-replicate path_places zero_entry; each = zeros_fit path_places }

pub new_fits : SenderFits new_sender
new_fits = record { pending = empty_fits }

pub with_pending_fits : {p : Path} {k : Sender} → PathFits p → SenderFits k → SenderFits (with_pending p k)
with_pending_fits f g = record { pending = f }

pub emptied_fits : {k : Sender} → SenderFits k → SenderFits (emptied k)
emptied_fits g = with_pending_fits empty_fits g

every_set : (xs : List CoordEntry) (i : ℕ) (e : CoordEntry) → CoordEntryFits e → Every CoordEntryFits xs → Every CoordEntryFits (set xs i e)
every_set [] i e h g = tt
every_set (x ∷ xs) zero e h g = (h, g.1)
every_set (x ∷ xs) (suc i) e h g = (g.0, every_set xs i e h g.1)

-- an element more, or none
pub element_fits : (k : Sender) (e : CoordEntry) → SenderFits k → CoordEntryFits e → SenderFits (with_element (appended k.pending e) k)
unfolding appended
element_fits k e f h =
    let p = k.pending in
    let longer : PathFits (record { entries = set p.entries p.len e; len = p.len + 1 }) = record { places = length-set p.entries p.len e ∙ f.pending.places; each = every_set p.entries p.len e h f.pending.each } in
    by_cond (λ (a : Result Path Refusal). SenderFits (with_element a k)) (ltb p.len path_places) (λ t. record { pending = longer }) (λ t. f)

-- ---- every command is typed

-- with what the sender has
abbrev pub Fitting : Sender → Command → Type 0
Fitting k (Element e) = CoordEntryFits e
Fitting k (WithPath f) = Typed (f k)
Fitting k (Plain x) = TypedRequest x

abbrev FittingIfRead : Sender → Option Command → Type 0
FittingIfRead k o = maybe o (Unit {0}) (Fitting k)

-- what operands o say
abbrev Says : Sender → List ℕ → Operands → Type 0
Says k o (Elements f) = CoordEntryFits (f o)
Says k o (Writes f) = Typed (f o k)
Says k o (Funds f) = (g : Funding) → Typed (f o g k)
Says k o (Requests f) = TypedRequest (f o)

read_fits : (k : Sender) (o : List ℕ) (x : Operands) → Says k o x → FittingIfRead k (read_as x o)
unfolding read_as funded
read_fits k o (Elements f) h = h
read_fits k o (Writes f) h = h
read_fits k o (Funds f) h = by_cond (FittingIfRead k) (eqb (kind_in o) 0) (λ e. h Uncharged) (λ e. by_cond (FittingIfRead k) (eqb (kind_in o) 1) (λ g. h (Upto (amount_in o))) (λ g. tt))
read_fits k o (Requests f) h = h

-- the operands of a code, where they are bytes and all there
abbrev pub Fits : Sender → Code → Type 0
Fits k c = (o : List ℕ) → Bytes o → length o ≡ c.width → Says k o c.says

-- of every code of a table, for a search that goes along it
data Each (P : Code → Type 0) : List Code → Type 0 where
  none_left : Each P []
  one_more : {c : Code} {cs : List Code} → P c → Each P cs → Each P (c ∷ cs)

each_every : {P : Code → Type 0} {cs : List Code} → Each P cs → Every P cs
each_every none_left = tt
each_every (one_more p ps) = (p, each_every ps)

both : {A B : Type 0} → A → B → A × B
both a b = (a, b)

nothing : Unit {0}
nothing = tt

-- one law for each kind of argument serves all codes
ruleset typed = (none_left, one_more, both, nothing, max_fits, number_fits, mtu_fits, key_fits, write_fits, element_of_fits)

-- the search is made part by part of the table
parted : (P : Code → Type 0) (n : ℕ) (cs : List Code) → Every P (take n cs) → Every P (drop n cs) → Every P cs
parted P zero cs a b = b
parted P (suc n) [] a b = tt
parted P (suc n) (c ∷ cs) a b = (a.0, parted P n cs a.1 b)

pub all_fit : (k : Sender) → SenderFits k → Every (Fits k) codes
unfolding codes code
all_fit k f =
    let p = f.pending in
    let first : Each (Fits k) (take 8 codes) = search typed depth 20 in
    let second : Each (Fits k) (take 8 (drop 8 codes)) = search typed depth 20 in
    let rest : Each (Fits k) (drop 16 codes) = search typed depth 20 in
    parted (Fits k) 8 codes (each_every first) (parted (Fits k) 8 (drop 8 codes) (each_every second) (each_every rest))

-- A COMMAND THAT A TABLE OF SUCH CODES READS IS OF ITS TYPES
pub command_fits_in : {cs : List Code} {b : ℕ} {bs : List ℕ} {x : Command} (k : Sender) → Every (Fits k) cs → Reads cs b bs x → Bytes bs → Fitting k x
command_fits_in {cs = cs} {b = b} {bs = bs} k a r y =
    let n = r.code.width in
    let o = take n bs in
    subst (FittingIfRead k) r.says (read_fits k o r.code.says ((code_found (Fits k) b cs r.code a r.known).1 o (bytes_take n bs y) (length-take-le n bs r.there)))

pub command_fits : {b : ℕ} {bs : List ℕ} {x : Command} (k : Sender) → Reads codes b bs x → Bytes bs → SenderFits k → Fitting k x
command_fits k r y f = command_fits_in k (all_fit k f) r y
