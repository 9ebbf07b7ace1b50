-- What the exported lookups and remove tell of a sound memory: beside the reply, where the path stands, or the bytes of the row that left.
use mathlib.Core.Path.{◌≡◌, refl, sym, ap, ◌∙◌, subst}
use Prim.Native.Nat.{ℕ, ◌-◌}
use native.Mathlib.Omega.{arith}
use mathlib.Core.List.{List}
use mathlib.Core.Bool.{true}
use lib.Dec.{eqb}
use lib.ListN.{length}
use borrow.Author.Tests.{eq-eqb}
use Rattle.types.specs.declared.node_addr.NodeAddr.{NodeAddr}
use Rattle.types.specs.declared.reply.Reply.{Reply}
use Rattle.types.specs.Values.{says}
use Rattle.types.specs.declared.entry.CacheEntry.{CacheEntry}
use Rattle.std.specs.Prelude.{Option}
use Rattle.rules.specs.Sound.{sound}
use Rattle.rules.specs.Calls.{EntryRemoved, Get, GetAndTouch, Remove}
use Rattle.rules.specs.Commands.{reply}
use Rattle.rules.specs.Refusals.{Asked}
use Rattle.rules.specs.Memory.{cut, capacity, view}
use Rattle.rules.specs.Lent.{AddrFits, Bytes, Small, call, got_part}
use Rattle.rules.proofs.RowLists.{by_cond}
use Rattle.rules.proofs.MemoryLaws.{length_cut}
use Rattle.rules.proofs.GotPart.{got_after_touch}
use Rattle.rules.proofs.LentSound.{lent_sound}
use Rattle.rules.specs.Layout.{number_size}
use Rattle.lookups.specs.Steps.{StandsAt, place_found}
use Rattle.lookups.proofs.PartReply.{got_reply}
use Rattle.replies.specs.Part.{part_reply}
use Rattle.boundary.specs.Exported.{Told, PartAt, row_taken}
use Rattle.coordcache.specs.Places.{place_told}
use Rattle.coordcache.proofs.ToldReplies.{told_call}

-- a lookup that is done says so
part_done : (bytes : ℕ) → (part_reply bytes).refusal ≡ 0
unfolding part_reply says
part_done bytes = by_cond (λ (r : Reply). r.refusal ≡ 0) (eqb bytes 0) (λ e. refl) (λ e. refl)

part_length : (k : NodeAddr) (time : ℕ) (m : List ℕ) (start end : ℕ) → StandsAt k time m start end → end - start ≡ length (got_part k time m)
part_length k time m start end s = sym (length_cut start (end - start) m (omega (arith, s.ordered, s.inside))) ∙ ap length s.part

-- ---- the part in the memory m after a lookup, by the address k' that the bytes of the key are

module _ (m : List ℕ) (k' : NodeAddr) (time start : ℕ) {k : NodeAddr} {end : ℕ} (s : StandsAt k time m start end) (f : k ≡ k') where
  pub part_there : PartAt start m (got_part k' time m)
  part_there =
      let whole : PartAt start m (got_part k time m) = ap (λ (j : ℕ). cut start j m) (sym (part_length k time m start end s)) ∙ s.part in
      subst (λ (x : NodeAddr). PartAt start m (got_part x time m)) f whole

  pub place_told_lem : (before : ℕ) {n : ℕ} {r : Reply} → r ≡ part_reply (end - start) → n ≡ r.refusal → start ≡ place_told n before k' time m
  unfolding place_told
  place_told_lem before {n} e a =
      let done : n ≡ 0 = a ∙ ap (λ (x : Reply). x.refusal) e ∙ part_done (end - start) in
      s.own ∙ ap (λ (x : NodeAddr). place_found x time m) f ∙ rw (eq-eqb n 0 done)

-- ---- what is told, by the same address

module _ (l : List ℕ) (k' : NodeAddr) {k : NodeAddr} {r : Reply} {n : ℕ} {vs : List ℕ} (f : k ≡ k') (a : n ≡ r.refusal) (b : vs ≡ r.values) where
  pub got_told : (time : ℕ) {start end : ℕ} → StandsAt k time l start end → r ≡ part_reply (end - start) → l ≡ (call l (Get k time)).memory
      → sound (capacity l) (view l) ≡ true → Told (call l (Get k' time)) n vs l
  got_told time {start} {end} s e d o =
      told_call a b l (e ∙ ap part_reply (part_length k time l start end s) ∙ got_reply l k time o) refl d (ap (λ (x : NodeAddr). Get x time) f)

  -- get_and_touch replies what get does on the memory m after it
  pub touched_told : (m : List ℕ) (time : ℕ) {start end : ℕ} → StandsAt k time m start end → r ≡ part_reply (end - start)
      → m ≡ (call l (GetAndTouch k time)).memory → sound (capacity l) (view l) ≡ true → Bytes l → AddrFits k → Small number_size time
      → Told (call l (GetAndTouch k' time)) n vs m
  touched_told m time {start} {end} s e d o g y z =
      let later : sound (capacity m) (view m) ≡ true = rw d (lent_sound l (Asked (GetAndTouch k time)) g (y, z) o) in
      let got = e ∙ ap part_reply (part_length k time m start end s) ∙ got_reply m k time later in
      let touched = ap (λ (x : List ℕ). reply (call x (Get k time)).answer) d ∙ ap reply (got_after_touch l k time g (y, z)) in
      told_call a b l (got ∙ touched) refl d (ap (λ (x : NodeAddr). GetAndTouch x time) f)

  pub removed_told : (x : Option CacheEntry) {m : List ℕ} → r ≡ reply (EntryRemoved x)
      → EntryRemoved x ≡ (call l (Remove k)).answer → m ≡ (call l (Remove k)).memory → Told (call l (Remove k')) n vs m
  removed_told x e d g = told_call a b l e d g (ap Remove f)

pub row_told : (l : List ℕ) (k' : NodeAddr) (row : List ℕ) {k : NodeAddr} {row' : List ℕ}
    → row' ≡ row_taken k l row → k ≡ k' → row' ≡ row_taken k' l row
row_told l k' row e f = e ∙ ap (λ (x : NodeAddr). row_taken x l row) f
