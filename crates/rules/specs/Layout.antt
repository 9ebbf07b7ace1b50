-- The layout of the lent memory: a head, then rows. Every size and offset stands here once, as a sum of widths and places (the bytes
-- of an address and the places of a path are those of types).
use Rattle.std.specs.Prelude.{ℕ, ◌+◌, ◌*◌, ◌^◌}
use Rattle.types.specs.Addresses.{address_bytes}
use Rattle.types.specs.Paths.{path_places}

-- ---- widths

-- a mark, a code, a length, a weight
abbrev pub byte_size : ℕ
byte_size = 1

-- an MTU
abbrev pub mtu_size : ℕ
mtu_size = 2

-- a number of 64 bits
abbrev pub number_size : ℕ
number_size = 8

abbrev pub address_size : ℕ
address_size = address_bytes

-- numbers of 64 bits are below this
abbrev pub number_limit : ℕ
number_limit = 256 ^ number_size

-- ---- the head

abbrev pub max_entries_offset : ℕ
max_entries_offset = 0

abbrev pub default_ttl_offset : ℕ
default_ttl_offset = max_entries_offset + number_size

abbrev pub seq_offset : ℕ
seq_offset = default_ttl_offset + number_size

abbrev pub stored_weight_offset : ℕ
stored_weight_offset = seq_offset + number_size

abbrev pub row_count_offset : ℕ
row_count_offset = stored_weight_offset + number_size

abbrev pub head_size : ℕ
head_size = row_count_offset + number_size

-- ---- a path element, and a path

abbrev pub sequence_offset : ℕ
sequence_offset = address_size

abbrev pub timestamp_offset : ℕ
timestamp_offset = sequence_offset + number_size

abbrev pub coord_entry_size : ℕ
coord_entry_size = timestamp_offset + number_size

abbrev pub length_offset : ℕ
length_offset = 0

abbrev pub places_offset : ℕ
places_offset = length_offset + byte_size

-- all places
abbrev pub places_size : ℕ
places_size = path_places * coord_entry_size

-- the length and all places
abbrev pub path_size : ℕ
path_size = places_offset + places_size

-- ---- an entry, which begins with its path

abbrev pub created_at_offset : ℕ
created_at_offset = path_size

abbrev pub last_used_offset : ℕ
last_used_offset = created_at_offset + number_size

abbrev pub expires_at_offset : ℕ
expires_at_offset = last_used_offset + number_size

abbrev pub mtu_mark_offset : ℕ
mtu_mark_offset = expires_at_offset + number_size

abbrev pub mtu_offset : ℕ
mtu_offset = mtu_mark_offset + byte_size

abbrev pub source_offset : ℕ
source_offset = mtu_offset + mtu_size

abbrev pub verified_until_offset : ℕ
verified_until_offset = source_offset + byte_size

abbrev pub entry_size : ℕ
entry_size = verified_until_offset + number_size

-- ---- a row

abbrev pub key_offset : ℕ
key_offset = 0

abbrev pub entry_offset : ℕ
entry_offset = key_offset + address_size

abbrev pub place_offset : ℕ
place_offset = entry_offset + entry_size

abbrev pub stamp_first_offset : ℕ
stamp_first_offset = place_offset + byte_size

abbrev pub stamp_seq_offset : ℕ
stamp_seq_offset = stamp_first_offset + number_size

abbrev pub weight_offset : ℕ
weight_offset = stamp_seq_offset + number_size

abbrev pub row_size : ℕ
row_size = weight_offset + byte_size

-- an entry's fields, from the row's first byte on
abbrev pub places_in_row : ℕ
places_in_row = entry_offset + places_offset

abbrev pub created_at_in_row : ℕ
created_at_in_row = entry_offset + created_at_offset

abbrev pub last_used_in_row : ℕ
last_used_in_row = entry_offset + last_used_offset

abbrev pub expires_at_in_row : ℕ
expires_at_in_row = entry_offset + expires_at_offset

abbrev pub mtu_mark_in_row : ℕ
mtu_mark_in_row = entry_offset + mtu_mark_offset

abbrev pub mtu_in_row : ℕ
mtu_in_row = entry_offset + mtu_offset

abbrev pub source_in_row : ℕ
source_in_row = entry_offset + source_offset

abbrev pub verified_until_in_row : ℕ
verified_until_in_row = entry_offset + verified_until_offset

-- ---- a memory of n rows

abbrev pub memory_size : ℕ → ℕ
memory_size n = head_size + n * row_size
