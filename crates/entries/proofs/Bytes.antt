-- Bytes of a cut: compared with an address, and read as a path element.
use mathlib.Core.Path.{◌≡◌, refl, sym, ap, ◌∙◌}
use mathlib.Core.Bool.{Bool, true, false, ◌&&◌, and_assoc}
use mathlib.Core.List.{List}
use Prim.Native.Nat.{ℕ, ◌+◌, ◌≤◌, ◌<◌}
use native.Mathlib.Omega.{arith}
use lib.Dec.{eqb}
use borrow.Author.Tests.{eqb-true, eqb-false}
use lib.ListN.{length, drop, get_or}
use Rattle.types.specs.declared.node_addr.NodeAddr.{NodeAddr}
use Rattle.types.specs.declared.coord.CoordEntry.{CoordEntry}
use Rattle.types.specs.Addresses.{same_addr, same_bytes}
use Rattle.types.specs.Paths.{same_entry}
use Rattle.types.proofs.PathLaws.{same_stop, same_go, same_end}
use Rattle.rules.specs.Memory.{cut, le_number, coord_entry_of}
use Rattle.rules.proofs.Addresses.{same_eq, same_true, same_false, same_ne}
use Rattle.rules.proofs.MemoryLaws.{length_cut}
use Rattle.rules.specs.Layout.{address_size, coord_entry_size, number_size, sequence_offset, timestamp_offset}
use Rattle.raw.proofs.StoreLaws.{cut_cut}
use Rattle.raw.proofs.CopyLaws.{cut_byte}

-- ---- sixteen bytes against an address: a turn of the loop, and its end

module _ (x l : List ℕ) (at i : ℕ) (hx : length x ≡ address_size) (hl : at + address_size ≤ length l) where
  pub addr_turn : i < address_size → same_bytes (drop i x) (drop i (cut at address_size l)) ≡ (eqb (get_or x i 0) (get_or l (at + i) 0) && same_bytes (drop (i + 1) x) (drop (i + 1) (cut at address_size l)))
  addr_turn h = go (eqb (get_or x i 0) (get_or l (at + i) 0)) refl
    where
      go : (b : Bool) → eqb (get_or x i 0) (get_or l (at + i) 0) ≡ b → same_bytes (drop i x) (drop i (cut at address_size l)) ≡ (b && same_bytes (drop (i + 1) x) (drop (i + 1) (cut at address_size l)))
      go true e = same_go x (cut at address_size l) i (omega arith) (omega (arith, length_cut at address_size l hl)) (eqb-true _ _ e ∙ cut_byte at address_size i l h)
      go false e = same_stop x (cut at address_size l) i (omega arith) (omega (arith, length_cut at address_size l hl)) (λ q. eqb-false _ _ e (q ∙ sym (cut_byte at address_size i l h)))

  pub addr_end : address_size ≤ i → same_bytes (drop i x) (drop i (cut at address_size l)) ≡ true
  addr_end h = same_end x (cut at address_size l) i (omega arith) (omega (arith, length_cut at address_size l hl))

pub and_in : (a b c : Bool) → (a && (b && c)) ≡ ((a && b) && c)
and_in a b c = sym (and_assoc a b c)

pub same_sym : (a b : NodeAddr) → same_addr a b ≡ same_addr b a
same_sym a b = go (same_addr a b) refl
  where
    go : (t : Bool) → same_addr a b ≡ t → same_addr a b ≡ same_addr b a
    go true e = e ∙ sym (same_eq b a (sym (same_true a b e)))
    go false e = e ∙ sym (same_ne b a (λ q. same_false a b e (sym q)))

-- ---- a path element

element_bytes : (at : ℕ) (l : List ℕ) → coord_entry_of (cut at coord_entry_size l) ≡ record { node_addr = record { 0 = cut at address_size l }; sequence = le_number (cut (at + sequence_offset) number_size l); timestamp = le_number (cut (at + timestamp_offset) number_size l) }
unfolding coord_entry_of
element_bytes at l =
    let z : at + 0 ≡ at = omega arith in
    rw (cut_cut at coord_entry_size 0 address_size l (omega arith), cut_cut at coord_entry_size sequence_offset number_size l (omega arith), cut_cut at coord_entry_size timestamp_offset number_size l (omega arith), z)

pub element_addr : (at : ℕ) (l : List ℕ) → (coord_entry_of (cut at coord_entry_size l)).node_addr ≡ record { 0 = cut at address_size l }
element_addr at l = ap (λ (x : CoordEntry). x.node_addr) (element_bytes at l)

pub element_made : (at : ℕ) (l : List ℕ) {a : NodeAddr} {s t : ℕ} → a ≡ record { 0 = cut at address_size l } → s ≡ le_number (cut (at + sequence_offset) number_size l) → t ≡ le_number (cut (at + timestamp_offset) number_size l)
    → ◌≡◌ {A = CoordEntry} (record { node_addr = a; sequence = s; timestamp = t }) (coord_entry_of (cut at coord_entry_size l))
element_made at l p q r = rw (p, q, r) (sym (element_bytes at l))

-- every field of an element against another's
pub element_same : (at : ℕ) (l : List ℕ) (e : CoordEntry) {b : Bool} {s t : ℕ} → b ≡ same_addr e.node_addr (record { 0 = cut at address_size l }) → s ≡ le_number (cut (at + sequence_offset) number_size l) → t ≡ le_number (cut (at + timestamp_offset) number_size l)
    → (b && (eqb s e.sequence && eqb t e.timestamp)) ≡ same_entry (coord_entry_of (cut at coord_entry_size l)) e
unfolding same_entry
element_same at l e {b} {s} {t} p q r =
    ap (λ (x : Bool). x && (eqb s e.sequence && eqb t e.timestamp)) (p ∙ same_sym e.node_addr (record { 0 = cut at address_size l }))
    ∙ ap (λ (x : CoordEntry). same_entry x e) (element_made at l refl q r)
