-- Path elements and paths of document 01.
use Rattle.std.specs.Prelude.{ℕ, ◌+◌, ◌-◌, max, List, [], ◌∷◌, ◌++◌, Result, Ok, Err, Bool, true, false, cond, ◌&&◌, ◌||◌, ltb, eqb, take, replicate, set}
use Rattle.types.specs.declared.node_addr.NodeAddr.{NodeAddr}
use Rattle.types.specs.declared.coord.CoordEntry.{CoordEntry}
use Rattle.types.specs.declared.coord.Path.{Path}
use Rattle.types.specs.declared.refusal.Refusal.{Refusal}
use Rattle.types.specs.declared.refusal.Refusal.TheVariants.{PathLength}
use Rattle.types.specs.Addresses.{address_bytes, same_addr}

-- a path holds 32 places
abbrev pub path_places : ℕ
path_places = 32

-- the least weight of a path, and the units of weight per entry of the cache
abbrev pub addrs_per_entry : ℕ
addrs_per_entry = 16

-- a place past the length of a written path
unfoldable pub zero_entry : CoordEntry
zero_entry = record { node_addr = record { 0 = replicate address_bytes 0 }; sequence = 0; timestamp = 0 }

unfoldable pub empty_path : Path
empty_path = record { entries = replicate path_places zero_entry; len = 0 }

-- the elements up to the length
unfoldable pub elements : Path → List CoordEntry
elements p = take p.len p.entries

-- as a row holds it once written: places past the length are zero
unfoldable pub as_written : Path → Path
as_written p = record { entries = elements p ++ replicate (path_places - p.len) zero_entry; len = p.len }

-- elements differ if any field does
unfoldable pub same_entry : CoordEntry → CoordEntry → Bool
same_entry a b = same_addr a.node_addr b.node_addr && (eqb a.sequence b.sequence && eqb a.timestamp b.timestamp)

unfoldable pub same_entries : List CoordEntry → List CoordEntry → Bool
same_entries [] [] = true
same_entries [] (b ∷ bs) = false
same_entries (a ∷ as') [] = false
same_entries (a ∷ as') (b ∷ bs) = same_entry a b && same_entries as' bs

-- paths differ if any field does; no comparison reads the places past the length
unfoldable pub same_path : Path → Path → Bool
same_path p q = same_entries (elements p) (elements q)

unfoldable pub among : NodeAddr → List CoordEntry → Bool
among a [] = false
among a (x ∷ xs) = same_addr a x.node_addr || among a xs

-- the path contains the address
unfoldable pub contains : NodeAddr → Path → Bool
contains a p = among a (elements p)

unfoldable pub last_addr : NodeAddr → List CoordEntry → NodeAddr
last_addr d [] = d
last_addr d (x ∷ xs) = last_addr x.node_addr xs

-- the last address; an empty path, which no row holds, has the zero address
unfoldable pub root_of : Path → NodeAddr
root_of p = last_addr (record { 0 = replicate address_bytes 0 }) (elements p)

unfoldable pub first_is : NodeAddr → List CoordEntry → Bool
first_is k [] = false
first_is k (x ∷ xs) = same_addr x.node_addr k

-- the path's first address equals the key
unfoldable pub starts_at : NodeAddr → Path → Bool
starts_at k p = first_is k (elements p)

-- path weight = max(16, length)
unfoldable pub path_weight : Path → ℕ
path_weight p = max addrs_per_entry p.len

-- an element onto a path; a 33rd is refused by 2 and dropped
unfoldable pub appended : Path → CoordEntry → Result Path Refusal
appended p e =
    cond (ltb p.len path_places)
    (Ok (record { entries = set p.entries p.len e; len = p.len + 1 }))
    (Err PathLength)
