-- A field of the head or of a row: what is read, and what a store does to the view.
use mathlib.Core.Path.{◌≡◌, refl, sym, ap, ◌∙◌}
use Prim.Native.Nat.{ℕ, zero, suc, ◌+◌, ◌*◌, ◌-◌, ◌^◌, ◌≤◌, ◌<◌}
use native.Mathlib.Nat.{not-suc-le-zero, le_of_suc-le-suc}
use native.Mathlib.Omega.{arith}
use mathlib.Core.Logic.{inl, inr}
use mathlib.Core.List.{List, [], ◌∷◌, append_assoc}
use mathlib.Core.Bool.{Bool, true, false, cond}
use lib.Dec.{eqb, leb}
use borrow.Author.Tests.{eqb-true, leb-true}
use lib.ListN.{length, take, drop, get_or, length-append, length-drop}
use lib.Seq.{sets, sets-eq, drop_at, drop-drop, length-take-le, length-sets}
use Rattle.rules.specs.Records.{Entry, Row, State, empty_entry, with_mtu, with_source, with_times}
use Rattle.rules.specs.Rows.{row_at, change_row, with_rows}
use Rattle.rules.specs.Lookups.{with_entry, rewrite}
use Rattle.rules.specs.Memory.{cut, le_number, le_bytes, path_of, entry_of, mtu_bytes, row_of, rows_of, source_bytes, used_bytes, view_rows}
use Rattle.rules.specs.Cases.{Every}
use Rattle.rules.specs.Lent.{Small}
use Rattle.rules.specs.Layout.{address_size, byte_size, mtu_size, number_size}
use Rattle.rules.specs.Layout.{default_ttl_offset, head_size, max_entries_offset, row_count_offset, seq_offset, stored_weight_offset}
use Rattle.rules.specs.Layout.{created_at_offset, entry_offset, entry_size, expires_at_offset, key_offset, last_used_offset, length_offset, mtu_mark_offset, mtu_offset, place_offset, row_size, source_offset, stamp_first_offset, stamp_seq_offset, verified_until_offset, weight_offset}
use Rattle.rules.specs.Layout.{created_at_in_row, expires_at_in_row, last_used_in_row, mtu_in_row, mtu_mark_in_row, source_in_row, verified_until_in_row}
use Rattle.rules.proofs.MemoryLaws.{num_le, length_le}
use Rattle.rules.proofs.EntryLaws.{Stored, times_read, mtu_read, source_read}
use Rattle.rules.proofs.Sizes.{small}
use Rattle.rules.proofs.RowLists.{change_twice}
use Rattle.raw.proofs.StoreLaws.{take_sets_le, drop_sets_ge, take_sets_in, drop_sets_add, cut_else, cut_same, cut_cut}
use Rattle.memory.proofs.StoreRuns.{two_from}

-- ---- what is read of a row

rows_at : (n i : ℕ) (l : List ℕ) → i < n → row_at i (rows_of n l) ≡ row_of (cut (i * row_size) row_size l)
unfolding rows_of
rows_at zero i l h = absurd (not-suc-le-zero h)
rows_at (suc n) zero l h = refl
rows_at (suc n) (suc i) l h =
    let e : suc i * row_size ≡ row_size + i * row_size = omega arith in
    rows_at n i (drop row_size l) (le_of_suc-le-suc h) ∙ ap (λ (m : List ℕ). row_of (take row_size m)) (drop-drop (i * row_size) row_size l ∙ ap (λ (k : ℕ). drop k l) (sym e))

pub row_at_lem : (n i : ℕ) (l : List ℕ) → i < n → row_at i (view_rows n l).rows ≡ row_of (cut (head_size + i * row_size) row_size l)
unfolding view_rows
row_at_lem n i l h = rows_at n i (drop head_size l) h ∙ ap (λ (m : List ℕ). row_of (take row_size m)) (drop-drop (i * row_size) head_size l)

pub row_key : (n i : ℕ) (l : List ℕ) → i < n → (row_at i (view_rows n l).rows).key.0 ≡ cut (head_size + i * row_size) address_size l
unfolding row_of
row_key n i l h =
    let z : head_size + i * row_size + 0 ≡ head_size + i * row_size = omega arith in
    ap (λ (r : Row). r.key.0) (row_at_lem n i l h) ∙ cut_cut (head_size + i * row_size) row_size key_offset address_size l (omega arith) ∙ ap (λ (k : ℕ). cut k address_size l) z

-- w bytes at o of a row, as a number
abbrev pub number_at : List ℕ → ℕ → ℕ → ℕ
number_at c o w = le_number (cut o w c)

-- a number of an entry, where the row's bytes have it
in_entry : (o w : ℕ) (c : List ℕ) → o + w ≤ entry_size → number_at c (entry_offset + o) w ≡ number_at (cut entry_offset entry_size c) o w
in_entry o w c h = ap le_number (sym (cut_cut entry_offset entry_size o w c h))

-- every number of a row
module _ (c : List ℕ) where
  pub path_len_is : number_at c entry_offset byte_size ≡ (row_of c).entry.path.len
  unfolding row_of entry_of path_of
  path_len_is = in_entry length_offset byte_size c (omega arith)

  pub created_at_is : number_at c created_at_in_row number_size ≡ (row_of c).entry.created_at
  unfolding row_of entry_of
  created_at_is = in_entry created_at_offset number_size c (omega arith)

  pub last_used_is : number_at c last_used_in_row number_size ≡ (row_of c).entry.last_used
  unfolding row_of entry_of
  last_used_is = in_entry last_used_offset number_size c (omega arith)

  pub expires_at_is : number_at c expires_at_in_row number_size ≡ (row_of c).entry.expires_at
  unfolding row_of entry_of
  expires_at_is = in_entry expires_at_offset number_size c (omega arith)

  pub mtu_mark_is : number_at c mtu_mark_in_row byte_size ≡ (row_of c).entry.mtu_mark
  unfolding row_of entry_of
  mtu_mark_is = in_entry mtu_mark_offset byte_size c (omega arith)

  pub mtu_is : number_at c mtu_in_row mtu_size ≡ (row_of c).entry.mtu
  unfolding row_of entry_of
  mtu_is = in_entry mtu_offset mtu_size c (omega arith)

  pub source_is : number_at c source_in_row byte_size ≡ (row_of c).entry.source
  unfolding row_of entry_of
  source_is = in_entry source_offset byte_size c (omega arith)

  pub verified_until_is : number_at c verified_until_in_row number_size ≡ (row_of c).entry.verified_until
  unfolding row_of entry_of
  verified_until_is = in_entry verified_until_offset number_size c (omega arith)

  pub place_is : number_at c place_offset byte_size ≡ (row_of c).place
  unfolding row_of
  place_is = refl

  pub stamp_first_is : number_at c stamp_first_offset number_size ≡ (row_of c).stamp_first
  unfolding row_of
  stamp_first_is = refl

  pub stamp_seq_is : number_at c stamp_seq_offset number_size ≡ (row_of c).stamp_seq
  unfolding row_of
  stamp_seq_is = refl

  pub weight_is : number_at c weight_offset byte_size ≡ (row_of c).weight
  unfolding row_of
  weight_is = refl

-- w bytes at o of row i of a memory, as a number
abbrev number_in : List ℕ → ℕ → ℕ → ℕ → ℕ
number_in l i o w = le_number (cut (head_size + i * row_size + o) w l)

-- every number of row i, where it is read of the memory
pub record Numbers (l : List ℕ) (i : ℕ) (r : Row) : Type 0 where
  pub path_length : number_in l i entry_offset byte_size ≡ r.entry.path.len
  pub created_at : number_in l i created_at_in_row number_size ≡ r.entry.created_at
  pub last_used : number_in l i last_used_in_row number_size ≡ r.entry.last_used
  pub expires_at : number_in l i expires_at_in_row number_size ≡ r.entry.expires_at
  pub mtu_mark : number_in l i mtu_mark_in_row byte_size ≡ r.entry.mtu_mark
  pub mtu : number_in l i mtu_in_row mtu_size ≡ r.entry.mtu
  pub source : number_in l i source_in_row byte_size ≡ r.entry.source
  pub verified_until : number_in l i verified_until_in_row number_size ≡ r.entry.verified_until
  pub place : number_in l i place_offset byte_size ≡ r.place
  pub stamp_first : number_in l i stamp_first_offset number_size ≡ r.stamp_first
  pub stamp_seq : number_in l i stamp_seq_offset number_size ≡ r.stamp_seq
  pub weight : number_in l i weight_offset byte_size ≡ r.weight

module _ (l : List ℕ) (n i : ℕ) (h : i < n) where
  in_memory : (get : Row → ℕ) (o w : ℕ) → ((c : List ℕ) → number_at c o w ≡ get (row_of c)) → o + w ≤ row_size → number_in l i o w ≡ get (row_at i (view_rows n l).rows)
  in_memory get o w law k =
      ap le_number (sym (cut_cut (head_size + i * row_size) row_size o w l k)) ∙ law (cut (head_size + i * row_size) row_size l) ∙ ap get (sym (row_at_lem n i l h))

  pub field_read : Numbers l i (row_at i (view_rows n l).rows)
  field_read =
      record {
        path_length = in_memory (λ r. r.entry.path.len) entry_offset byte_size path_len_is (omega arith);
        created_at = in_memory (λ r. r.entry.created_at) created_at_in_row number_size created_at_is (omega arith);
        last_used = in_memory (λ r. r.entry.last_used) last_used_in_row number_size last_used_is (omega arith);
        expires_at = in_memory (λ r. r.entry.expires_at) expires_at_in_row number_size expires_at_is (omega arith);
        mtu_mark = in_memory (λ r. r.entry.mtu_mark) mtu_mark_in_row byte_size mtu_mark_is (omega arith);
        mtu = in_memory (λ r. r.entry.mtu) mtu_in_row mtu_size mtu_is (omega arith);
        source = in_memory (λ r. r.entry.source) source_in_row byte_size source_is (omega arith);
        verified_until = in_memory (λ r. r.entry.verified_until) verified_until_in_row number_size verified_until_is (omega arith);
        place = in_memory (λ r. r.place) place_offset byte_size place_is (omega arith);
        stamp_first = in_memory (λ r. r.stamp_first) stamp_first_offset number_size stamp_first_is (omega arith);
        stamp_seq = in_memory (λ r. r.stamp_seq) stamp_seq_offset number_size stamp_seq_is (omega arith);
        weight = in_memory (λ r. r.weight) weight_offset byte_size weight_is (omega arith);
      }

-- a row is before the others
pub first_row : (n : ℕ) (l : List ℕ) → 0 < n → rows_of n l ≡ row_of (take row_size l) ∷ rows_of (n - 1) (drop row_size l)
unfolding rows_of
first_row zero l h = absurd (not-suc-le-zero h)
first_row (suc n) l h = let e : suc n - 1 ≡ n = omega arith in rw e

-- ---- stores in a row

row_rows : (f : Row → Row) (o : ℕ) (vs : List ℕ) → o + length vs ≤ row_size → ((c : List ℕ) → length c ≡ row_size → row_of (sets c o vs) ≡ f (row_of c))
    → (n i : ℕ) (l : List ℕ) → i < n → n * row_size ≤ length l → rows_of n (sets l (i * row_size + o) vs) ≡ change_row f i (rows_of n l)
unfolding rows_of change_row
row_rows f o vs w law zero i l h k = absurd (not-suc-le-zero h)
row_rows f o vs w law (suc n) zero l h k =
    let z : 0 * row_size + o ≡ o = omega arith in
    let t : length (take row_size l) ≡ row_size = length-take-le row_size l (omega arith) in
    rw (z, take_sets_in row_size vs l o w, drop_sets_ge row_size vs l o w, law (take row_size l) t)
row_rows f o vs w law (suc n) (suc i) l h k =
    let e : suc i * row_size + o ≡ row_size + (i * row_size + o) = omega arith in
    let d : n * row_size ≤ length (drop row_size l) = rw length-drop (omega arith) in
    rw (e, take_sets_le row_size vs l (row_size + (i * row_size + o)) (omega arith), drop_sets_add row_size vs l (i * row_size + o) (row_size + (i * row_size + o)) refl)
    (ap (λ (rs : List Row). row_of (take row_size l) ∷ rs) (row_rows f o vs w law n i (drop row_size l) (le_of_suc-le-suc h) d))

-- a law of a row's bytes is a law of the view
pub row_store : (f : Row → Row) (o : ℕ) (vs : List ℕ) → o + length vs ≤ row_size → ((c : List ℕ) → length c ≡ row_size → row_of (sets c o vs) ≡ f (row_of c))
    → (n i : ℕ) (l : List ℕ) → i < n → head_size + n * row_size ≤ length l → view_rows n (sets l (head_size + i * row_size + o) vs) ≡ with_rows (change_row f i (view_rows n l).rows) (view_rows n l)
unfolding view_rows with_rows
row_store f o vs w law n i l h k =
    let j : ℕ = head_size + i * row_size + o in
    let b : (a m : ℕ) → a + m ≤ head_size → cut a m (sets l j vs) ≡ cut a m l = λ a m q. cut_else l vs j a m (inl (omega arith)) in
    let d : n * row_size ≤ length (drop head_size l) = rw length-drop (omega arith) in
    let r : rows_of n (drop head_size (sets l j vs)) ≡ change_row f i (rows_of n (drop head_size l)) =
    ap (rows_of n) (drop_sets_add head_size vs l (i * row_size + o) j (omega arith)) ∙ row_rows f o vs w law n i (drop head_size l) h d in
    rw (b max_entries_offset number_size (omega arith), b default_ttl_offset number_size (omega arith), b seq_offset number_size (omega arith), b stored_weight_offset number_size (omega arith), b row_count_offset number_size (omega arith), r, drop_sets_ge (head_size + n * row_size) vs l j (omega arith))

-- ---- bytes stored in an entry

entry_in_row : (f : Entry → Entry) (o : ℕ) (vs : List ℕ) → o + length vs ≤ entry_size → ((e : List ℕ) → length e ≡ entry_size → entry_of (sets e o vs) ≡ f (entry_of e))
    → (c : List ℕ) → length c ≡ row_size → row_of (sets c (entry_offset + o) vs) ≡ with_entry (f (row_of c).entry) (row_of c)
unfolding row_of with_entry
entry_in_row f o vs w law c h =
    let k : length (cut entry_offset entry_size c) ≡ entry_size = length-take-le entry_size (drop entry_offset c) (rw length-drop (omega arith)) in
    let e : cut entry_offset entry_size (sets c (entry_offset + o) vs) ≡ sets (cut entry_offset entry_size c) o vs =
    ap (take entry_size) (drop_sets_add entry_offset vs c o (entry_offset + o) refl) ∙ take_sets_in entry_size vs (drop entry_offset c) o w in
    let b : (a m : ℕ) → place_offset ≤ a → cut a m (sets c (entry_offset + o) vs) ≡ cut a m c = λ a m q. cut_else c vs (entry_offset + o) a m (inr (omega arith)) in
    rw (cut_else c vs (entry_offset + o) key_offset address_size (inl (omega arith)), e, law (cut entry_offset entry_size c) k, b place_offset byte_size (omega arith), b stamp_first_offset number_size (omega arith), b stamp_seq_offset number_size (omega arith), b weight_offset byte_size (omega arith))

-- a law of an entry's bytes is a law of the view
entry_store : (f : Entry → Entry) (o : ℕ) (vs : List ℕ) → o + length vs ≤ entry_size → ((e : List ℕ) → length e ≡ entry_size → entry_of (sets e o vs) ≡ f (entry_of e))
    → (n i : ℕ) (l : List ℕ) → i < n → head_size + n * row_size ≤ length l → view_rows n (sets l (head_size + i * row_size + (entry_offset + o)) vs) ≡ rewrite f i (view_rows n l)
unfolding rewrite
entry_store f o vs w law n i l h k = row_store (λ r. with_entry (f r.entry) r) (entry_offset + o) vs (omega arith) (entry_in_row f o vs w law) n i l h k

stored : (k : ℕ) (vs c : List ℕ) → k + length vs ≤ length c → Stored k vs (sets c k vs) c
stored k vs c h =
    record {
      before = take_sets_le k vs c k (omega arith);
      from = ap (drop k) (sets-eq vs c k h ∙ append_assoc (take k c) vs (drop (k + length vs) c)) ∙ drop_at (take k c) _ k (length-take-le k c (omega arith));
    }

-- the bytes of a group of fields, stored in row i, are that row's entry changed in the view
pub group_store : (f : Entry → Entry) (o : ℕ) (vs : List ℕ) → o + length vs ≤ entry_size → ((c d : List ℕ) → Stored o vs c d → entry_of c ≡ f (entry_of d))
    → (n i : ℕ) (l : List ℕ) → i < n → head_size + n * row_size ≤ length l → view_rows n (sets l (head_size + i * row_size + (entry_offset + o)) vs) ≡ rewrite f i (view_rows n l)
group_store f o vs w law n i l h k = entry_store f o vs w (λ e q. law (sets e o vs) e (stored o vs e (omega arith))) n i l h k

-- last_used and expires_at
pub times_store : (l : List ℕ) (n i used expires : ℕ) → Small number_size used → Small number_size expires → i < n → head_size + n * row_size ≤ length l
    → view_rows n (sets (sets l (head_size + i * row_size + last_used_in_row) (le_bytes number_size used)) (head_size + i * row_size + expires_at_in_row) (le_bytes number_size expires)) ≡ rewrite (with_times used expires) i (view_rows n l)
times_store l n i used expires u x h k =
    let vs : List ℕ = used_bytes (with_times used expires (empty_entry 0)) in
    let w : length vs ≡ number_size + number_size = simp (length-append, length_le) in
    ap (view_rows n) (two_from l (le_bytes number_size used) (le_bytes number_size expires) (head_size + i * row_size) last_used_in_row expires_at_in_row (omega (arith, length_le number_size used)))
    ∙ group_store (with_times used expires) last_used_offset vs (omega arith) (λ c d. times_read c d used expires u x) n i l h k

-- path_mtu
pub mtu_store : (l : List ℕ) (n i mark m : ℕ) → Small byte_size mark → Small mtu_size m → i < n → head_size + n * row_size ≤ length l
    → view_rows n (sets (sets l (head_size + i * row_size + mtu_mark_in_row) (le_bytes byte_size mark)) (head_size + i * row_size + mtu_in_row) (le_bytes mtu_size m)) ≡ rewrite (with_mtu mark m) i (view_rows n l)
mtu_store l n i mark m a b h k =
    let vs : List ℕ = mtu_bytes (with_mtu mark m (empty_entry 0)) in
    let w : length vs ≡ byte_size + mtu_size = simp (length-append, length_le) in
    ap (view_rows n) (two_from l (le_bytes byte_size mark) (le_bytes mtu_size m) (head_size + i * row_size) mtu_mark_in_row mtu_in_row (omega (arith, length_le byte_size mark)))
    ∙ group_store (with_mtu mark m) mtu_mark_offset vs (omega arith) (λ c d. mtu_read c d mark m a b) n i l h k

-- source and verified_until
pub source_store : (l : List ℕ) (n i source until : ℕ) → Small byte_size source → Small number_size until → i < n → head_size + n * row_size ≤ length l
    → view_rows n (sets l (head_size + i * row_size + source_in_row) (source_bytes (with_source source until (empty_entry 0)))) ≡ rewrite (with_source source until) i (view_rows n l)
source_store l n i source until a b h k =
    let w : length (source_bytes (with_source source until (empty_entry 0))) ≡ entry_size - source_offset = simp (length-append, length_le) in
    group_store (with_source source until) source_offset _ (omega arith) (λ c d. source_read c d source until a b) n i l h k

-- ---- a number stored among others

-- w bytes at o are the field of m bytes at k, or lie apart from it
abbrev apart : ℕ → ℕ → ℕ → ℕ → Bool
apart o w k m = cond (eqb o k) (eqb w m) (cond (leb (k + m) o) true (leb (o + w) k))

abbrev all : List Bool → Bool
all [] = true
all (b ∷ bs) = cond b (all bs) false

all_true : (bs : List Bool) → all bs ≡ true → (i : ℕ) → get_or bs i true ≡ true
all_true [] e i = refl
all_true (true ∷ bs) e zero = refl
all_true (true ∷ bs) e (suc i) = all_true bs e i
all_true (false ∷ bs) e i = cc

-- what stands at k, once v stands at o
abbrev put : ℕ → ℕ → ℕ → ℕ → ℕ
put o v k x = cond (eqb o k) v x

-- a field that was the one stored has the number, and any other what it had
field_stored : (o w v : ℕ) (c : List ℕ) → Small w v → o + w ≤ length c → (k m : ℕ) → apart o w k m ≡ true → le_number (cut k m (sets c o (le_bytes w v))) ≡ put o v k (le_number (cut k m c))
field_stored o w v c s h k m = here (eqb o k) refl
  where
    vs : List ℕ
    vs = le_bytes w v

    else : (b : Bool) → leb (k + m) o ≡ b → cond b true (leb (o + w) k) ≡ true → cut k m (sets c o vs) ≡ cut k m c
    else true p q = cut_else c vs o k m (inl (leb-true (k + m) o p))
    else false p q = cut_else c vs o k m (inr (omega (arith, leb-true (o + w) k q, length_le w v)))

    here : (b : Bool) → eqb o k ≡ b → cond b (eqb w m) (cond (leb (k + m) o) true (leb (o + w) k)) ≡ true → le_number (cut k m (sets c o vs)) ≡ cond b v (le_number (cut k m c))
    here true p q = rw (← eqb-true o k p, ← eqb-true w m q) (ap le_number (rw (length_le w v) at (cut_same c vs o (omega (arith, length_le w v)))) ∙ num_le w v s)
    here false p q = ap le_number (else (leb (k + m) o) refl q)

-- ---- numbers stored in a row, behind its entry

-- w bytes at o are a number of a row behind its entry: each such number is at o, or apart from them
abbrev pub is_number : ℕ → ℕ → List Bool
is_number o w =
    leb place_offset o ∷ leb (o + w) row_size ∷ apart o w place_offset byte_size ∷ apart o w stamp_first_offset number_size ∷ apart o w stamp_seq_offset number_size ∷ apart o w weight_offset byte_size ∷ []

-- the row with v as its number at o
unfoldable pub with_number : ℕ → ℕ → Row → Row
with_number o v r =
    let at = put o v in
    record {
      key = r.key;
      entry = r.entry;
      place = at place_offset r.place;
      stamp_first = at stamp_first_offset r.stamp_first;
      stamp_seq = at stamp_seq_offset r.stamp_seq;
      weight = at weight_offset r.weight;
    }

number_row : (o w v : ℕ) → all (is_number o w) ≡ true → Small w v → (c : List ℕ) → length c ≡ row_size → row_of (sets c o (le_bytes w v)) ≡ with_number o v (row_of c)
unfolding row_of with_number
number_row o w v e s c h =
    let t = all_true (is_number o w) e in
    let vs : List ℕ = le_bytes w v in
    let b = leb-true place_offset o (t 0) in
    let x = leb-true (o + w) row_size (t 1) in
    let f = field_stored o w v c s (omega arith) in
    rw (
      cut_else c vs o key_offset address_size (inl (omega arith)),
      cut_else c vs o entry_offset entry_size (inl (omega arith)),
      f place_offset byte_size (t 2),
      f stamp_first_offset number_size (t 3),
      f stamp_seq_offset number_size (t 4),
      f weight_offset byte_size (t 5),
    )

-- an offset, a width and a value
abbrev pub Store : Type 0
Store = ℕ × ℕ × ℕ

abbrev pub stores : ℕ → List Store → List ℕ → List ℕ
stores at [] l = l
stores at (x ∷ xs) l = stores at xs (sets l (at + x.0) (le_bytes x.1 x.2))

abbrev pub with_numbers : List Store → Row → Row
with_numbers [] r = r
with_numbers (x ∷ xs) r = with_numbers xs (with_number x.0 x.2 r)

change_none : (i : ℕ) (rs : List Row) → change_row (λ r. r) i rs ≡ rs
unfolding change_row
change_none i [] = refl
change_none zero (r ∷ rs) = refl
change_none (suc i) (r ∷ rs) = ap (λ (xs : List Row). r ∷ xs) (change_none i rs)

-- numbers stored in row i, one after the other, are that row changed in the view
pub field_store : (xs : List Store) → Every (λ x. (all (is_number x.0 x.1) ≡ true) × (x.2 < 256 ^ x.1)) xs → (l : List ℕ) (n i : ℕ) → i < n → head_size + n * row_size ≤ length l
    → view_rows n (stores (head_size + i * row_size) xs l) ≡ with_rows (change_row (with_numbers xs) i (view_rows n l).rows) (view_rows n l)
unfolding with_rows
field_store [] e l n i h k = rw (change_none i (view_rows n l).rows)
field_store (x ∷ xs) e l n i h k =
    let f = with_number x.0 x.2 in
    let b = length_le x.1 x.2 in
    let t = leb-true (x.0 + x.1) row_size (all_true (is_number x.0 x.1) e.0.0 1) in
    let v = row_store f x.0 (le_bytes x.1 x.2) (omega arith) (number_row x.0 x.1 x.2 e.0.0 (small x.1 x.2 e.0.1)) n i l h k in
    field_store xs e.1 _ n i h (rw length-sets k) ∙ rw v (ap (λ (rs : List Row). with_rows rs (view_rows n l)) (change_twice f (with_numbers xs) i (view_rows n l).rows))

-- ---- a number stored in the head

-- the bytes at o are a number of the head
abbrev pub is_head_number : ℕ → List Bool
is_head_number o = leb (o + number_size) head_size ∷ apart o number_size max_entries_offset number_size ∷ apart o number_size default_ttl_offset number_size ∷ apart o number_size seq_offset number_size ∷ apart o number_size stored_weight_offset number_size ∷ apart o number_size row_count_offset number_size ∷ []

-- the state with v as its number of the head at o
unfoldable pub with_head_number : ℕ → ℕ → State → State
with_head_number o v s =
    let at = put o v in
    record {
      max_entries = at max_entries_offset s.max_entries;
      default_ttl = at default_ttl_offset s.default_ttl;
      seq = at seq_offset s.seq;
      stored_weight = at stored_weight_offset s.stored_weight;
      row_count = at row_count_offset s.row_count;
      rows = s.rows;
      rest = s.rest;
    }

pub head_store : (o v : ℕ) → all (is_head_number o) ≡ true → v < 256 ^ number_size → (n : ℕ) (l : List ℕ) → head_size ≤ length l → view_rows n (sets l o (le_bytes number_size v)) ≡ with_head_number o v (view_rows n l)
unfolding view_rows with_head_number
head_store o v e s n l h =
    let t = all_true (is_head_number o) e in
    let b = leb-true (o + number_size) head_size (t 0) in
    let w = length_le number_size v in
    let f = field_stored o number_size v l (small number_size v s) (omega arith) in
    rw (
      f max_entries_offset number_size (t 1),
      f default_ttl_offset number_size (t 2),
      f seq_offset number_size (t 3),
      f stored_weight_offset number_size (t 4),
      f row_count_offset number_size (t 5),
      drop_sets_ge head_size (le_bytes number_size v) l o (omega arith),
      drop_sets_ge (head_size + n * row_size) (le_bytes number_size v) l o (omega arith),
    )

-- ---- the head's numbers don't depend on how many rows are seen

pub record SameHead (a b : ℕ) (l : List ℕ) : Type 0 where
  pub max_entries : (view_rows a l).max_entries ≡ (view_rows b l).max_entries
  pub default_ttl : (view_rows a l).default_ttl ≡ (view_rows b l).default_ttl
  pub seq : (view_rows a l).seq ≡ (view_rows b l).seq
  pub stored_weight : (view_rows a l).stored_weight ≡ (view_rows b l).stored_weight
  pub row_count : (view_rows a l).row_count ≡ (view_rows b l).row_count

pub same_head : (a b : ℕ) (l : List ℕ) → SameHead a b l
unfolding view_rows
same_head a b l = record { max_entries = refl; default_ttl = refl; seq = refl; stored_weight = refl; row_count = refl }
