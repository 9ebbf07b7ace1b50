-- An entry and its bytes. What an entry's fields ask stands here, field by field; Records has one definition for each group of fields that
-- changes, and here is a law for each that what fits still fits, and one that its bytes, stored, are read as it. (A field read by itself
-- is memory's Fields.)
use mathlib.Core.Path.{◌≡◌, refl, sym, ap, ◌∙◌}
use Prim.Native.Nat.{ℕ, zero, suc, ◌+◌, ◌*◌, ◌-◌, ◌≤◌, ◌<◌}
use native.Mathlib.Omega.{arith}
use mathlib.Core.List.{List, ◌++◌, append_assoc}
use lib.ListN.{length, take, drop, replicate, length-append, length-drop, length-replicate}
use lib.Seq.{drop_at, drop-drop, length-take-le, take-take}
use Rattle.types.specs.declared.coord.Path.{Path}
use Rattle.types.specs.Paths.{as_written, elements, empty_path, path_places, zero_entry}
use Rattle.rules.specs.Cases.{Every}
use Rattle.rules.specs.Records.{Entry, empty_entry, with_mtu, with_path, with_source, with_times}
use Rattle.rules.specs.Layout.{address_size, byte_size, coord_entry_size, created_at_offset, entry_size, expires_at_offset, last_used_offset, length_offset, mtu_mark_offset, mtu_offset, mtu_size, number_size, path_size, places_offset, places_size, source_offset, verified_until_offset}
use Rattle.rules.specs.Memory.{coord_entries_bytes, coord_entries_of, cut, entry_bytes, entry_of, le_bytes, mtu_bytes, path_bytes, path_of, source_bytes, used_bytes}
use Rattle.rules.specs.Lent.{Bytes, CoordEntryFits, PathFits, Small}
use Rattle.rules.proofs.RowLists.{every_append, every_copy, every_take}
use Rattle.rules.proofs.MemoryLaws.{bytes_append, bytes_drop, cut_front, cut_small, drop_take_add, elements_length, elements_of_fit, elements_of_length, elements_view, elems_memory, entries_bytes, field, last_kept, last_number, le_bytes_lem, length_le, number, number_kept, number_then}

pub record EntryFits (e : Entry) : Type 0 where
  pub len : Small byte_size e.path.len
  pub entries : length e.path.entries ≡ path_places
  pub each : Every CoordEntryFits e.path.entries
  pub created_at : Small number_size e.created_at
  pub last_used : Small number_size e.last_used
  pub expires_at : Small number_size e.expires_at
  pub mtu_mark : Small byte_size e.mtu_mark
  pub mtu : Small mtu_size e.mtu
  pub source : Small byte_size e.source
  pub verified_until : Small number_size e.verified_until

-- ---- an entry's bytes

-- one field behind the other
fields : (e : Entry) → entry_bytes e ≡ le_bytes byte_size e.path.len ++ (coord_entries_bytes e.path.entries ++ (le_bytes number_size e.created_at ++ (le_bytes number_size e.last_used ++ (le_bytes number_size e.expires_at ++ (le_bytes byte_size e.mtu_mark ++ (le_bytes mtu_size e.mtu ++ (le_bytes byte_size e.source ++ le_bytes number_size e.verified_until)))))))
unfolding entry_bytes
fields e = simp append_assoc

pub entry_length : (e : Entry) → EntryFits e → length (entry_bytes e) ≡ entry_size
unfolding entry_bytes
entry_length e h = simp (length-append, length_le) (omega (arith, elements_length e.path.entries h.each, h.entries))

-- are read as the entry
pub entry_view : (e : Entry) (c : List ℕ) → c ≡ entry_bytes e → EntryFits e → entry_of c ≡ e
unfolding entry_of path_of
entry_view e c q h =
    let f0 = number length_offset byte_size e.path.len c _ (q ∙ fields e) h.len in
    let f1 = field places_offset places_size c (coord_entries_bytes e.path.entries) _ f0.on (elements_length e.path.entries h.each ∙ ap (λ (n : ℕ). n * coord_entry_size) h.entries) in
    let ps : coord_entries_of path_places (drop places_offset c) ≡ e.path.entries = ap (coord_entries_of path_places) f0.on ∙ elements_view path_places e.path.entries _ h.entries h.each in
    let f2 = number created_at_offset number_size e.created_at c _ f1.on h.created_at in
    let f3 = number last_used_offset number_size e.last_used c _ f2.on h.last_used in
    let f4 = number expires_at_offset number_size e.expires_at c _ f3.on h.expires_at in
    let f5 = number mtu_mark_offset byte_size e.mtu_mark c _ f4.on h.mtu_mark in
    let f6 = number mtu_offset mtu_size e.mtu c _ f5.on h.mtu in
    let f7 = number source_offset byte_size e.source c _ f6.on h.source in
    let f8 = last_number verified_until_offset number_size e.verified_until c f7.on h.verified_until in
    let z : entry_of c ≡ record { path = record { len = e.path.len; entries = e.path.entries }; created_at = e.created_at; last_used = e.last_used; expires_at = e.expires_at; mtu_mark = e.mtu_mark; mtu = e.mtu; source = e.source; verified_until = e.verified_until } = cc (f0.is, ps, f2.is, f3.is, f4.is, f5.is, f6.is, f7.is, f8) in z

-- any bytes are those of the entry that is read
pub entry_memory : (c : List ℕ) → Bytes c → length c ≡ entry_size → entry_bytes (entry_of c) ≡ c
unfolding entry_of path_of
entry_memory c b h =
    let d : path_places * coord_entry_size ≤ length (drop places_offset c) = rw length-drop (omega arith) in
    let entries : (t : List ℕ) → t ≡ drop created_at_offset c → coord_entries_bytes (coord_entries_of path_places (drop places_offset c)) ++ t ≡ drop places_offset c =
    λ t e. ap (λ (u : List ℕ). coord_entries_bytes (coord_entries_of path_places (drop places_offset c)) ++ u) (e ∙ sym (drop-drop places_size places_offset c)) ∙ elems_memory path_places (drop places_offset c) d (bytes_drop places_offset c b) in
    fields (entry_of c)
    ∙ number_kept c b length_offset byte_size _ (omega arith) (entries _ (number_kept c b created_at_offset number_size _ (omega arith) (number_kept c b last_used_offset number_size _ (omega arith) (number_kept c b expires_at_offset number_size _ (omega arith) (number_kept c b mtu_mark_offset byte_size _ (omega arith) (number_kept c b mtu_offset mtu_size _ (omega arith) (number_kept c b source_offset byte_size _ (omega arith) (last_kept c b verified_until_offset number_size h))))))))

-- what is read of bytes fits
pub entry_fits_of : (c : List ℕ) → length c ≡ entry_size → Bytes c → EntryFits (entry_of c)
unfolding entry_of path_of
entry_fits_of c h b =
    let d : path_places * coord_entry_size ≤ length (drop places_offset c) = rw length-drop (omega arith) in
    record {
      len = cut_small length_offset byte_size c (omega arith) b;
      entries = elements_of_length path_places (drop places_offset c);
      each = elements_of_fit path_places (drop places_offset c) d (bytes_drop places_offset c b);
      created_at = cut_small created_at_offset number_size c (omega arith) b;
      last_used = cut_small last_used_offset number_size c (omega arith) b;
      expires_at = cut_small expires_at_offset number_size c (omega arith) b;
      mtu_mark = cut_small mtu_mark_offset byte_size c (omega arith) b;
      mtu = cut_small mtu_offset mtu_size c (omega arith) b;
      source = cut_small source_offset byte_size c (omega arith) b;
      verified_until = cut_small verified_until_offset number_size c (omega arith) b;
    }

pub entry_bytes_lem : (e : Entry) → EntryFits e → Bytes (entry_bytes e)
entry_bytes_lem e h =
    rw (fields e)
    (number_then byte_size e.path.len _ (bytes_append (coord_entries_bytes e.path.entries) _ (entries_bytes e.path.entries h.each)
    (number_then number_size e.created_at _ (number_then number_size e.last_used _ (number_then number_size e.expires_at _ (number_then byte_size e.mtu_mark _ (number_then mtu_size e.mtu _ (number_then byte_size e.source _ (le_bytes_lem number_size e.verified_until)))))))))

-- ---- an entry made, and with some fields changed, fits

zero_fits : CoordEntryFits zero_entry
unfolding zero_entry
zero_fits = record { address = record { size = refl; bytes = every_copy (λ b. b < 256) address_size (omega arith) }; sequence = omega arith; timestamp = omega arith }

pub zeros_fit : (n : ℕ) → Every CoordEntryFits (replicate n zero_entry)
zeros_fit n = every_copy CoordEntryFits n zero_fits

-- what is written fits where what is given does
pub written_fits : (p : Path) → PathFits p → p.len ≤ path_places → PathFits (as_written p)
unfolding as_written elements
written_fits p f h =
    let n = f.places in
    record {
      places = rw (length-append, length-take-le p.len p.entries (omega arith), length-replicate) (omega arith);
      each = every_append CoordEntryFits (take p.len p.entries) (replicate (path_places - p.len) zero_entry) (every_take CoordEntryFits p.len p.entries f.each) (zeros_fit (path_places - p.len));
    }

pub empty_fits : (now : ℕ) → Small number_size now → EntryFits (empty_entry now)
unfolding empty_path
empty_fits now n = record { len = omega arith; entries = length-replicate path_places zero_entry; each = zeros_fit path_places; created_at = n; last_used = omega arith; expires_at = omega arith; mtu_mark = omega arith; mtu = omega arith; source = omega arith; verified_until = omega arith }

pub path_fits : (p : Path) (e : Entry) → PathFits p → p.len ≤ path_places → EntryFits e → EntryFits (with_path p e)
unfolding as_written
path_fits p e f l h = let t = written_fits p f l in record { len = omega arith; entries = t.places; each = t.each; created_at = h.created_at; last_used = h.last_used; expires_at = h.expires_at; mtu_mark = h.mtu_mark; mtu = h.mtu; source = h.source; verified_until = h.verified_until }

pub times_fit : (used expires : ℕ) (e : Entry) → Small number_size used → Small number_size expires → EntryFits e → EntryFits (with_times used expires e)
times_fit used expires e u x h = record { len = h.len; entries = h.entries; each = h.each; created_at = h.created_at; last_used = u; expires_at = x; mtu_mark = h.mtu_mark; mtu = h.mtu; source = h.source; verified_until = h.verified_until }

pub mtu_fits : (mark m : ℕ) (e : Entry) → Small byte_size mark → Small mtu_size m → EntryFits e → EntryFits (with_mtu mark m e)
mtu_fits mark m e k v h = record { len = h.len; entries = h.entries; each = h.each; created_at = h.created_at; last_used = h.last_used; expires_at = h.expires_at; mtu_mark = k; mtu = v; source = h.source; verified_until = h.verified_until }

pub source_fits : (source until : ℕ) (e : Entry) → Small byte_size source → Small number_size until → EntryFits e → EntryFits (with_source source until e)
source_fits source until e s u h = record { len = h.len; entries = h.entries; each = h.each; created_at = h.created_at; last_used = h.last_used; expires_at = h.expires_at; mtu_mark = h.mtu_mark; mtu = h.mtu; source = s; verified_until = u }

-- ---- bytes of a group stored in an entry's bytes are read as the group changed

-- c is d with vs at k
pub record Stored (k : ℕ) (vs c d : List ℕ) : Type 0 where
  pub before : take k c ≡ take k d
  pub from : drop k c ≡ vs ++ drop (k + length vs) d

-- the places of a path lie in its bytes
entries_front : (n : ℕ) (l : List ℕ) → coord_entries_of n (take (n * coord_entry_size) l) ≡ coord_entries_of n l
unfolding coord_entries_of
entries_front zero l = refl
entries_front (suc n) l =
    let e : suc n * coord_entry_size ≡ coord_entry_size + n * coord_entry_size = omega arith in
    rw (e, take-take coord_entry_size (coord_entry_size + n * coord_entry_size) l (omega arith), drop_take_add coord_entry_size (n * coord_entry_size) l, entries_front n (drop coord_entry_size l))

path_front : (c : List ℕ) → path_of c ≡ path_of (take path_size c)
unfolding path_of
path_front c = rw (take-take byte_size path_size c (omega arith), drop_take_add places_offset places_size c, entries_front path_places (drop places_offset c))

-- before what is stored, and behind it, all is read as it was
module _ (k w : ℕ) (vs c d : List ℕ) (s : Stored k vs c d) (e : length vs ≡ w) where
  before : (a m : ℕ) → a + m ≤ k → cut a m c ≡ cut a m d
  before a m h = sym (cut_front a m k c h) ∙ ap (cut a m) s.before ∙ cut_front a m k d h

  before_path : path_size ≤ k → path_of c ≡ path_of d
  before_path h = path_front c ∙ ap path_of (sym (take-take path_size k c h) ∙ ap (take path_size) s.before ∙ take-take path_size k d h) ∙ sym (path_front d)

  rest : drop (k + w) c ≡ drop (k + w) d
  rest = sym (drop-drop w k c) ∙ ap (drop w) s.from ∙ drop_at vs (drop (k + length vs) d) w e ∙ ap (λ (n : ℕ). drop (k + n) d) e

  behind : (a m : ℕ) → k + w ≤ a → cut a m c ≡ cut a m d
  behind a m h =
      let j : ℕ = a - (k + w) in
      let q : k + w + j ≡ a = omega arith in
      let at : (l : List ℕ) → drop a l ≡ drop j (drop (k + w) l) = λ l. ap (λ (n : ℕ). drop n l) (sym q) ∙ sym (drop-drop j (k + w) l) in
      ap (take m) (at c ∙ ap (drop j) rest ∙ sym (at d))

pub path_length : (p : Path) → PathFits p → length (path_bytes p) ≡ path_size
path_length p f = rw (length-append, length_le, elements_length p.entries f.each, f.places)

pub path_read : (c d : List ℕ) (p : Path) → PathFits p → p.len ≤ path_places → Stored length_offset (path_bytes (as_written p)) c d → entry_of c ≡ with_path p (entry_of d)
unfolding entry_of path_of as_written
path_read c d p f l s =
    let t = written_fits p f l in
    let xs = (as_written p).entries in
    let r = drop (length_offset + length (path_bytes (as_written p))) d in
    let n0 = number length_offset byte_size p.len c (coord_entries_bytes xs ++ r) (s.from ∙ append_assoc (le_bytes byte_size p.len) (coord_entries_bytes xs) r) (omega arith) in
    let ps : coord_entries_of path_places (drop places_offset c) ≡ xs = ap (coord_entries_of path_places) n0.on ∙ elements_view path_places xs r t.places t.each in
    let b = behind length_offset path_size _ c d s (path_length (as_written p) t) in
    rw (n0.is, ps, b created_at_offset number_size (omega arith), b last_used_offset number_size (omega arith), b expires_at_offset number_size (omega arith), b mtu_mark_offset byte_size (omega arith), b mtu_offset mtu_size (omega arith), b source_offset byte_size (omega arith), b verified_until_offset number_size (omega arith))

pub times_read : (c d : List ℕ) (used expires : ℕ) → Small number_size used → Small number_size expires → Stored last_used_offset (used_bytes (with_times used expires (empty_entry 0))) c d → entry_of c ≡ with_times used expires (entry_of d)
unfolding entry_of
times_read c d used expires u x s =
    let w : length (used_bytes (with_times used expires (empty_entry 0))) ≡ mtu_mark_offset - last_used_offset = simp (length-append, length_le) in
    let r = drop (last_used_offset + length (used_bytes (with_times used expires (empty_entry 0)))) d in
    let n0 = number last_used_offset number_size used c (le_bytes number_size expires ++ r) (s.from ∙ append_assoc (le_bytes number_size used) (le_bytes number_size expires) r) u in
    let n1 = number expires_at_offset number_size expires c r n0.on x in
    let a = before last_used_offset (mtu_mark_offset - last_used_offset) _ c d s w in
    let b = behind last_used_offset (mtu_mark_offset - last_used_offset) _ c d s w in
    rw (before_path last_used_offset (mtu_mark_offset - last_used_offset) _ c d s w (omega arith), a created_at_offset number_size (omega arith), n0.is, n1.is, b mtu_mark_offset byte_size (omega arith), b mtu_offset mtu_size (omega arith), b source_offset byte_size (omega arith), b verified_until_offset number_size (omega arith))

pub mtu_read : (c d : List ℕ) (mark m : ℕ) → Small byte_size mark → Small mtu_size m → Stored mtu_mark_offset (mtu_bytes (with_mtu mark m (empty_entry 0))) c d → entry_of c ≡ with_mtu mark m (entry_of d)
unfolding entry_of
mtu_read c d mark m k v s =
    let w : length (mtu_bytes (with_mtu mark m (empty_entry 0))) ≡ source_offset - mtu_mark_offset = simp (length-append, length_le) in
    let r = drop (mtu_mark_offset + length (mtu_bytes (with_mtu mark m (empty_entry 0)))) d in
    let n0 = number mtu_mark_offset byte_size mark c (le_bytes mtu_size m ++ r) (s.from ∙ append_assoc (le_bytes byte_size mark) (le_bytes mtu_size m) r) k in
    let n1 = number mtu_offset mtu_size m c r n0.on v in
    let a = before mtu_mark_offset (source_offset - mtu_mark_offset) _ c d s w in
    let b = behind mtu_mark_offset (source_offset - mtu_mark_offset) _ c d s w in
    rw (before_path mtu_mark_offset (source_offset - mtu_mark_offset) _ c d s w (omega arith), a created_at_offset number_size (omega arith), a last_used_offset number_size (omega arith), a expires_at_offset number_size (omega arith), n0.is, n1.is, b source_offset byte_size (omega arith), b verified_until_offset number_size (omega arith))

pub source_read : (c d : List ℕ) (source until : ℕ) → Small byte_size source → Small number_size until → Stored source_offset (source_bytes (with_source source until (empty_entry 0))) c d → entry_of c ≡ with_source source until (entry_of d)
unfolding entry_of
source_read c d source until k u s =
    let w : length (source_bytes (with_source source until (empty_entry 0))) ≡ entry_size - source_offset = simp (length-append, length_le) in
    let r = drop (source_offset + length (source_bytes (with_source source until (empty_entry 0)))) d in
    let n0 = number source_offset byte_size source c (le_bytes number_size until ++ r) (s.from ∙ append_assoc (le_bytes byte_size source) (le_bytes number_size until) r) k in
    let n1 = number verified_until_offset number_size until c r n0.on u in
    let a = before source_offset (entry_size - source_offset) _ c d s w in
    rw (before_path source_offset (entry_size - source_offset) _ c d s w (omega arith), a created_at_offset number_size (omega arith), a last_used_offset number_size (omega arith), a expires_at_offset number_size (omega arith), a mtu_mark_offset byte_size (omega arith), a mtu_offset mtu_size (omega arith), n0.is, n1.is)
