-- Numbers, addresses and path elements as bytes of a memory: what is read is written back, what is written is read, and what is read fits.
use mathlib.Core.Path.{◌≡◌, refl, sym, ap, ◌∙◌, subst}
use Prim.Native.Nat.{ℕ, zero, suc, ◌+◌, ◌*◌, ◌/◌, ◌%◌, ◌≤◌, ◌<◌}
use native.Mathlib.Omega.{arith}
use mathlib.Core.List.{List, [], ◌∷◌, ◌++◌, append_assoc}
use lib.ListN.{length, take, drop, get_or, length-append, length-drop, take-append-drop}
use lib.Seq.{drop_at, drop-drop, length-take-le, take_all, take_at, take-take}
use Rattle.types.specs.declared.coord.CoordEntry.{CoordEntry}
use Rattle.rules.specs.Cases.{Every}
use Rattle.rules.specs.Memory.{addr_bytes, coord_entries_bytes, coord_entries_of, coord_entry_of, cut, le_bytes, le_number}
use Rattle.rules.specs.Layout.{address_size, coord_entry_size, number_size, sequence_offset, timestamp_offset}
use Rattle.rules.specs.Lent.{AddrFits, Bytes, CoordEntryFits, Small}
use Rattle.rules.proofs.RowLists.{every_append, every_drop, every_take}

pub all_bytes : (l : List ℕ) → ((i : ℕ) → get_or l i 0 < 256) → Bytes l
all_bytes [] h = tt
all_bytes (x ∷ xs) h = (h 0, all_bytes xs (λ i. h (suc i)))

pub bytes_drop : (k : ℕ) (l : List ℕ) → Bytes l → Bytes (drop k l)
bytes_drop = every_drop (λ b. b < 256)

pub bytes_take : (k : ℕ) (l : List ℕ) → Bytes l → Bytes (take k l)
bytes_take = every_take (λ b. b < 256)

pub bytes_append : (a b : List ℕ) → Bytes a → Bytes b → Bytes (a ++ b)
bytes_append = every_append (λ b. b < 256)

pub bytes_cut : (k w : ℕ) (l : List ℕ) → Bytes l → Bytes (cut k w l)
bytes_cut k w l b = bytes_take w (drop k l) (bytes_drop k l b)

pub length_cut : (k w : ℕ) (l : List ℕ) → k + w ≤ length l → length (cut k w l) ≡ w
length_cut k w l h = length-take-le w (drop k l) (rw length-drop (omega arith))

-- a part of a front is a part of the whole
pub cut_front : (k m n : ℕ) (l : List ℕ) → k + m ≤ n → cut k m (take n l) ≡ cut k m l
cut_front zero m n l h = take-take m n l (omega arith)
cut_front (suc k) m zero l h = absurd (let z : ⊥ = omega arith in z)
cut_front (suc k) m (suc n) [] h = refl
cut_front (suc k) m (suc n) (x ∷ xs) h = cut_front k m n xs (omega arith)

-- a front without its first k
pub drop_take_add : (k a : ℕ) (l : List ℕ) → drop k (take (k + a) l) ≡ take a (drop k l)
drop_take_add zero a l = let z : 0 + a ≡ a = omega arith in rw z
drop_take_add (suc k) a [] = let e : suc k + a ≡ suc (k + a) = omega arith in rw e (nil a)
  where
    nil : (a : ℕ) → ◌≡◌ {A = List ℕ} [] (take a [])
    nil zero = refl
    nil (suc a) = refl
drop_take_add (suc k) a (x ∷ xs) = let e : suc k + a ≡ suc (k + a) = omega arith in rw e (drop_take_add k a xs)

-- ---- what is read is written back

le_num : (c : List ℕ) → Bytes c → le_bytes (length c) (le_number c) ≡ c
unfolding le_bytes le_number
le_num [] b = refl
le_num (x ∷ xs) b =
    let h = b.0 in
    let m : (x + le_number xs * 256) % 256 ≡ x = omega arith in
    let d : (x + le_number xs * 256) / 256 ≡ le_number xs = omega arith in
    rw (m, d) (ap (λ (t : List ℕ). x ∷ t) (le_num xs b.1))

module _ (c : List ℕ) (b : Bytes c) where
  pub part : (k w : ℕ) (t : List ℕ) → t ≡ drop (k + w) c → cut k w c ++ t ≡ drop k c
  part k w t e = ap (λ (u : List ℕ). cut k w c ++ u) (e ∙ sym (drop-drop w k c)) ∙ take-append-drop w (drop k c)

  pub number_kept : (k w : ℕ) (t : List ℕ) → k + w ≤ length c → t ≡ drop (k + w) c → le_bytes w (le_number (cut k w c)) ++ t ≡ drop k c
  number_kept k w t h e = ap (λ (u : List ℕ). u ++ t) (rw (length_cut k w c h) at (le_num (cut k w c) (bytes_cut k w c b))) ∙ part k w t e

  -- the last field
  pub last_kept : (k w : ℕ) → length c ≡ k + w → le_bytes w (le_number (cut k w c)) ≡ drop k c
  last_kept k w h = (rw (length_cut k w c (omega arith)) at (le_num (cut k w c) (bytes_cut k w c b))) ∙ take_all w (drop k c) (rw length-drop (omega arith))

entry_first : (x : CoordEntry) (xs : List CoordEntry) (t : List ℕ) → coord_entries_bytes (x ∷ xs) ++ t ≡ (addr_bytes x.node_addr ++ (le_bytes number_size x.sequence ++ le_bytes number_size x.timestamp)) ++ (coord_entries_bytes xs ++ t)
unfolding coord_entries_bytes
entry_first x xs t = simp append_assoc

no_entry : (l : List ℕ) → coord_entries_bytes [] ++ l ≡ l
unfolding coord_entries_bytes
no_entry l = refl

pub no_entries : coord_entries_bytes [] ≡ []
unfolding coord_entries_bytes
no_entries = refl

pub entries_cons : (x : CoordEntry) (xs : List CoordEntry) → coord_entries_bytes (x ∷ xs) ≡ (addr_bytes x.node_addr ++ (le_bytes number_size x.sequence ++ le_bytes number_size x.timestamp)) ++ coord_entries_bytes xs
unfolding coord_entries_bytes
entries_cons x xs = simp append_assoc

pub elem_memory : (c : List ℕ) → Bytes c → length c ≡ coord_entry_size → addr_bytes (coord_entry_of c).node_addr ++ (le_bytes number_size (coord_entry_of c).sequence ++ le_bytes number_size (coord_entry_of c).timestamp) ≡ c
unfolding coord_entry_of
elem_memory c b k = part c b 0 address_size _ (number_kept c b sequence_offset number_size _ (omega arith) (last_kept c b timestamp_offset number_size k))

pub elems_memory : (n : ℕ) (l : List ℕ) → n * coord_entry_size ≤ length l → Bytes l → coord_entries_bytes (coord_entries_of n l) ++ drop (n * coord_entry_size) l ≡ l
unfolding coord_entries_of
elems_memory zero l h b = no_entry l
elems_memory (suc n) l h b =
    let c = take coord_entry_size l in
    let xs = coord_entries_of n (drop coord_entry_size l) in
    let k : length c ≡ coord_entry_size = length-take-le coord_entry_size l (omega arith) in
    let e : suc n * coord_entry_size ≡ coord_entry_size + n * coord_entry_size = omega arith in
    let t : drop (suc n * coord_entry_size) l ≡ drop (n * coord_entry_size) (drop coord_entry_size l) = ap (λ (m : ℕ). drop m l) e ∙ sym (drop-drop (n * coord_entry_size) coord_entry_size l) in
    let d : n * coord_entry_size ≤ length (drop coord_entry_size l) = rw length-drop (omega arith) in
    let later : coord_entries_bytes xs ++ drop (suc n * coord_entry_size) l ≡ drop coord_entry_size l = ap (λ (u : List ℕ). coord_entries_bytes xs ++ u) t ∙ elems_memory n (drop coord_entry_size l) d (bytes_drop coord_entry_size l b) in
    entry_first (coord_entry_of c) xs (drop (suc n * coord_entry_size) l)
    ∙ ap (λ (u : List ℕ). u ++ (coord_entries_bytes xs ++ drop (suc n * coord_entry_size) l)) (elem_memory c (bytes_take coord_entry_size l b) k)
    ∙ ap (λ (u : List ℕ). c ++ u) later
    ∙ take-append-drop coord_entry_size l

-- ---- what is written is read

pub num_le : (n v : ℕ) → Small n v → le_number (le_bytes n v) ≡ v
unfolding le_number le_bytes
num_le zero v h = sym h
num_le (suc n) v h = rw (num_le n (v / 256) h) (omega arith)

pub length_le : (n v : ℕ) → length (le_bytes n v) ≡ n
unfolding le_bytes
length_le zero v = refl
length_le (suc n) v = ap suc (length_le n (v / 256))

-- a field at k: f, and t behind it
pub record At (k w : ℕ) (c f t : List ℕ) : Type 0 where
  pub is : cut k w c ≡ f
  pub on : drop (k + w) c ≡ t

pub field : (k w : ℕ) (c f t : List ℕ) → drop k c ≡ f ++ t → length f ≡ w → At k w c f t
field k w c f t e l = record { is = ap (take w) e ∙ take_at f t w l; on = sym (drop-drop w k c) ∙ ap (drop w) e ∙ drop_at f t w l }

pub record Num (k w v : ℕ) (c t : List ℕ) : Type 0 where
  pub is : le_number (cut k w c) ≡ v
  pub on : drop (k + w) c ≡ t

pub number : (k w v : ℕ) (c t : List ℕ) → drop k c ≡ le_bytes w v ++ t → Small w v → Num k w v c t
number k w v c t e s = let f = field k w c (le_bytes w v) t e (length_le w v) in record { is = ap le_number f.is ∙ num_le w v s; on = f.on }

pub last_number : (k w v : ℕ) (c : List ℕ) → drop k c ≡ le_bytes w v → Small w v → le_number (cut k w c) ≡ v
last_number k w v c e s = ap le_number (ap (take w) e ∙ take_all w (le_bytes w v) (omega (arith, length_le w v))) ∙ num_le w v s

element_view : (x : CoordEntry) (c : List ℕ) → c ≡ addr_bytes x.node_addr ++ (le_bytes number_size x.sequence ++ le_bytes number_size x.timestamp) → CoordEntryFits x → coord_entry_of c ≡ x
unfolding coord_entry_of
element_view x c e h =
    let a = field 0 address_size c x.node_addr.0 (le_bytes number_size x.sequence ++ le_bytes number_size x.timestamp) e h.address.size in
    let b = number sequence_offset number_size x.sequence c (le_bytes number_size x.timestamp) a.on h.sequence in
    let d = last_number timestamp_offset number_size x.timestamp c b.on h.timestamp in
    let z : coord_entry_of c ≡ record { node_addr = record { 0 = x.node_addr.0 }; sequence = x.sequence; timestamp = x.timestamp } = cc (a.is, b.is, d) in z

element_length : (x : CoordEntry) → CoordEntryFits x → length (addr_bytes x.node_addr ++ (le_bytes number_size x.sequence ++ le_bytes number_size x.timestamp)) ≡ coord_entry_size
element_length x h = simp (length-append, length_le) (omega (arith, h.address.size))

pub elements_length : (xs : List CoordEntry) → Every CoordEntryFits xs → length (coord_entries_bytes xs) ≡ length xs * coord_entry_size
unfolding coord_entries_bytes
elements_length [] h = refl
elements_length (x ∷ xs) h = simp (length-append, length_le) (omega (arith, h.0.address.size, elements_length xs h.1))

pub elements_view : (n : ℕ) (xs : List CoordEntry) (t : List ℕ) → length xs ≡ n → Every CoordEntryFits xs → coord_entries_of n (coord_entries_bytes xs ++ t) ≡ xs
unfolding coord_entries_of coord_entries_bytes
elements_view zero [] t l h = refl
elements_view zero (x ∷ xs) t l h = absurd (let z : ⊥ = omega arith in z)
elements_view (suc n) [] t l h = absurd (let z : ⊥ = omega arith in z)
elements_view (suc n) (x ∷ xs) t l h =
    let c = addr_bytes x.node_addr ++ (le_bytes number_size x.sequence ++ le_bytes number_size x.timestamp) in
    let e : (addr_bytes x.node_addr ++ (le_bytes number_size x.sequence ++ (le_bytes number_size x.timestamp ++ coord_entries_bytes xs))) ++ t ≡ c ++ (coord_entries_bytes xs ++ t) = simp append_assoc in
    let k = element_length x h.0 in
    rw (e, take_at c (coord_entries_bytes xs ++ t) coord_entry_size k, drop_at c (coord_entries_bytes xs ++ t) coord_entry_size k) (cc (element_view x c refl h.0, elements_view n xs t (omega arith) h.1))

-- ---- what is read from bytes fits

pub number_small : (c : List ℕ) → Bytes c → Small (length c) (le_number c)
unfolding le_number
number_small [] b = refl
number_small (x ∷ xs) b = let h = b.0 in let d : (x + le_number xs * 256) / 256 ≡ le_number xs = omega arith in subst (Small (length xs)) (sym d) (number_small xs b.1)

pub cut_small : (k w : ℕ) (c : List ℕ) → k + w ≤ length c → Bytes c → Small w (le_number (cut k w c))
cut_small k w c h b = subst (λ (n : ℕ). Small n (le_number (cut k w c))) (length_cut k w c h) (number_small (cut k w c) (bytes_cut k w c b))

pub address_fits : (k : ℕ) (c : List ℕ) → k + address_size ≤ length c → Bytes c → AddrFits (record { 0 = cut k address_size c })
address_fits k c h b = record { size = length_cut k address_size c h; bytes = bytes_cut k address_size c b }

pub element_of_fits : (c : List ℕ) → length c ≡ coord_entry_size → Bytes c → CoordEntryFits (coord_entry_of c)
unfolding coord_entry_of
element_of_fits c h b = record { address = address_fits 0 c (omega arith) b; sequence = cut_small sequence_offset number_size c (omega arith) b; timestamp = cut_small timestamp_offset number_size c (omega arith) b }

pub elements_of_length : (n : ℕ) (l : List ℕ) → length (coord_entries_of n l) ≡ n
unfolding coord_entries_of
elements_of_length zero l = refl
elements_of_length (suc n) l = ap suc (elements_of_length n (drop coord_entry_size l))

pub elements_of_fit : (n : ℕ) (l : List ℕ) → n * coord_entry_size ≤ length l → Bytes l → Every CoordEntryFits (coord_entries_of n l)
unfolding coord_entries_of
elements_of_fit zero l h b = tt
elements_of_fit (suc n) l h b =
    let d : n * coord_entry_size ≤ length (drop coord_entry_size l) = rw length-drop (omega arith) in
    (element_of_fits (take coord_entry_size l) (length-take-le coord_entry_size l (omega arith)) (bytes_take coord_entry_size l b), elements_of_fit n (drop coord_entry_size l) d (bytes_drop coord_entry_size l b))

-- ---- what is written is bytes

pub le_bytes_lem : (n v : ℕ) → Bytes (le_bytes n v)
unfolding le_bytes
le_bytes_lem zero v = tt
le_bytes_lem (suc n) v = (omega arith, le_bytes_lem n (v / 256))

-- a number, and bytes behind it
pub number_then : (n v : ℕ) (t : List ℕ) → Bytes t → Bytes (le_bytes n v ++ t)
number_then n v t b = bytes_append (le_bytes n v) t (le_bytes_lem n v) b

pub entries_bytes : (xs : List CoordEntry) → Every CoordEntryFits xs → Bytes (coord_entries_bytes xs)
unfolding coord_entries_bytes
entries_bytes [] h = tt
entries_bytes (x ∷ xs) h = bytes_append x.node_addr.0 _ h.0.address.bytes (number_then number_size x.sequence _ (number_then number_size x.timestamp _ (entries_bytes xs h.1)))
