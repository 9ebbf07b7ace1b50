-- The lent memory as a state, and a state as memory. Numbers are little-endian.
use Rattle.std.specs.Prelude.{ℕ, zero, suc, ◌+◌, ◌*◌, ◌-◌, ◌/◌, ◌%◌, min, List, [], ◌∷◌, ◌++◌, length, take, drop}
use Rattle.types.specs.declared.node_addr.NodeAddr.{NodeAddr}
use Rattle.types.specs.declared.coord.CoordEntry.{CoordEntry}
use Rattle.types.specs.declared.coord.Path.{Path}
use Rattle.types.specs.Paths.{path_places}
use Rattle.rules.specs.Records.{Entry, Row, State}
use Rattle.rules.specs.Layout.{address_size, byte_size, coord_entry_size, created_at_offset, default_ttl_offset, entry_offset, entry_size, expires_at_offset, head_size, key_offset, last_used_offset, length_offset, max_entries_offset, mtu_mark_offset, mtu_offset, mtu_size, number_size, place_offset, places_offset, row_count_offset, row_size, seq_offset, sequence_offset, source_offset, stamp_first_offset, stamp_seq_offset, stored_weight_offset, timestamp_offset, verified_until_offset, weight_offset}

-- ---- memory as a state

-- n bytes from k on
abbrev pub cut : ℕ → ℕ → List ℕ → List ℕ
cut k n l = take n (drop k l)

-- bytes as a number, the lowest first
unfoldable pub le_number : List ℕ → ℕ
le_number [] = 0
le_number (x ∷ xs) = x + le_number xs * 256

unfoldable pub coord_entry_of : List ℕ → CoordEntry
coord_entry_of c = record { node_addr = record { 0 = cut 0 address_size c }; sequence = le_number (cut sequence_offset number_size c); timestamp = le_number (cut timestamp_offset number_size c) }

-- the first n elements of a list of bytes
unfoldable pub coord_entries_of : ℕ → List ℕ → List CoordEntry
coord_entries_of zero l = []
coord_entries_of (suc n) l = coord_entry_of (take coord_entry_size l) ∷ coord_entries_of n (drop coord_entry_size l)

-- all places, and the length
unfoldable pub path_of : List ℕ → Path
path_of c = record { len = le_number (cut length_offset byte_size c); entries = coord_entries_of path_places (drop places_offset c) }

unfoldable pub entry_of : List ℕ → Entry
entry_of c =
    record {
      path = path_of c;
      created_at = le_number (cut created_at_offset number_size c);
      last_used = le_number (cut last_used_offset number_size c);
      expires_at = le_number (cut expires_at_offset number_size c);
      mtu_mark = le_number (cut mtu_mark_offset byte_size c);
      mtu = le_number (cut mtu_offset mtu_size c);
      source = le_number (cut source_offset byte_size c);
      verified_until = le_number (cut verified_until_offset number_size c);
    }

unfoldable pub row_of : List ℕ → Row
row_of c =
    record {
      key = record { 0 = cut key_offset address_size c };
      entry = entry_of (cut entry_offset entry_size c);
      place = le_number (cut place_offset byte_size c);
      stamp_first = le_number (cut stamp_first_offset number_size c);
      stamp_seq = le_number (cut stamp_seq_offset number_size c);
      weight = le_number (cut weight_offset byte_size c);
    }

-- the first n rows of a list of bytes
unfoldable pub rows_of : ℕ → List ℕ → List Row
rows_of zero l = []
rows_of (suc n) l = row_of (take row_size l) ∷ rows_of n (drop row_size l)

-- R: the rows that fit whole; 0 where the head doesn't fit
unfoldable pub capacity : List ℕ → ℕ
capacity l = (length l - head_size) / row_size

-- the rows that the head counts, as far as they fit
unfoldable pub held_rows : List ℕ → ℕ
held_rows l = min (le_number (cut row_count_offset number_size l)) (capacity l)

-- the head, the first n rows, and what is past them
unfoldable pub view_rows : ℕ → List ℕ → State
view_rows n l =
    record {
      max_entries = le_number (cut max_entries_offset number_size l);
      default_ttl = le_number (cut default_ttl_offset number_size l);
      seq = le_number (cut seq_offset number_size l);
      stored_weight = le_number (cut stored_weight_offset number_size l);
      row_count = le_number (cut row_count_offset number_size l);
      rows = rows_of n (drop head_size l);
      rest = drop (head_size + n * row_size) l;
    }

unfoldable pub view : List ℕ → State
view l = view_rows (held_rows l) l

-- ---- a state as memory

-- v as n bytes, the lowest first
unfoldable pub le_bytes : ℕ → ℕ → List ℕ
le_bytes zero v = []
le_bytes (suc n) v = v % 256 ∷ le_bytes n (v / 256)

abbrev pub addr_bytes : NodeAddr → List ℕ
addr_bytes a = a.0

unfoldable pub coord_entries_bytes : List CoordEntry → List ℕ
coord_entries_bytes [] = []
coord_entries_bytes (x ∷ xs) = addr_bytes x.node_addr ++ (le_bytes number_size x.sequence ++ (le_bytes number_size x.timestamp ++ coord_entries_bytes xs))

-- the length and all places
abbrev pub path_bytes : Path → List ℕ
path_bytes p = le_bytes byte_size p.len ++ coord_entries_bytes p.entries

-- an entry's numbers in the groups in which they are written: last_used and expires_at; path_mtu; source and verified_until
abbrev pub used_bytes : Entry → List ℕ
used_bytes e = le_bytes number_size e.last_used ++ le_bytes number_size e.expires_at

abbrev pub mtu_bytes : Entry → List ℕ
mtu_bytes e = le_bytes byte_size e.mtu_mark ++ le_bytes mtu_size e.mtu

abbrev pub source_bytes : Entry → List ℕ
source_bytes e = le_bytes byte_size e.source ++ le_bytes number_size e.verified_until

-- created_at before the first, and the other two together
abbrev pub times_bytes : Entry → List ℕ
times_bytes e = le_bytes number_size e.created_at ++ used_bytes e

abbrev pub marks_bytes : Entry → List ℕ
marks_bytes e = mtu_bytes e ++ source_bytes e

unfoldable pub entry_bytes : Entry → List ℕ
entry_bytes e = path_bytes e.path ++ (times_bytes e ++ marks_bytes e)

-- place, stamp and weight
abbrev pub stamp_bytes : Row → List ℕ
stamp_bytes r = le_bytes byte_size r.place ++ (le_bytes number_size r.stamp_first ++ (le_bytes number_size r.stamp_seq ++ le_bytes byte_size r.weight))

unfoldable pub row_bytes : Row → List ℕ
row_bytes r = addr_bytes r.key ++ (entry_bytes r.entry ++ stamp_bytes r)

unfoldable pub rows_bytes : List Row → List ℕ
rows_bytes [] = []
rows_bytes (r ∷ rs) = row_bytes r ++ rows_bytes rs

-- the memory that a state stands for
unfoldable pub memory : State → List ℕ
memory s = le_bytes number_size s.max_entries ++ (le_bytes number_size s.default_ttl ++ (le_bytes number_size s.seq ++ (le_bytes number_size s.stored_weight ++ (le_bytes number_size s.row_count ++ (rows_bytes s.rows ++ s.rest)))))
