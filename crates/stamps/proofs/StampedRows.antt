-- A row stamped anew, as its fields are written.
use mathlib.Core.Path.{◌≡◌, ap, ◌∙◌}
use Prim.Native.Nat.{ℕ, ◌+◌}
use mathlib.Core.List.{List}
use mathlib.Core.Bool.{cond}
use lib.Dec.{ltb}
use Rattle.rules.specs.Records.{Row, State, by_use, probation, with_seq}
use Rattle.rules.specs.Rows.{row_at, in_main, change_row, with_rows}
use Rattle.rules.specs.Room.{stamp, raised, refiled, parked_at, restamp, park}
use Rattle.rules.proofs.RowLists.{change_at}
use Rattle.memory.specs.Edits.{stamped_as}

pub drawn : (i p f q : ℕ) (s t x : State) → q ≡ s.seq + 1 → t ≡ with_seq q s → x ≡ with_rows (change_row (stamped_as p f q) i t.rows) t → x ≡ stamp (stamped_as p f) i s
unfolding stamp raised with_rows with_seq
drawn i p f q s t x eq et ex = ex ∙ rw (et, eq)

row_refiled : (p f q : ℕ) (r : Row) → p ≡ cond (ltb r.place probation) by_use r.place → f ≡ r.entry.last_used → stamped_as p f q r ≡ refiled q r.entry r.weight r
unfolding stamped_as refiled in_main
row_refiled p f q r ep ef = rw (ep, ef)

pub restamped : (i p f : ℕ) (s x : State) → p ≡ cond (ltb (row_at i s.rows).place probation) by_use (row_at i s.rows).place →
    f ≡ (row_at i s.rows).entry.last_used → x ≡ stamp (stamped_as p f) i s → x ≡ restamp i s
unfolding restamp stamp
restamped i p f s x ep ef ex =
    let q = s.seq + 1 in
    let k = change_at (stamped_as p f q) (λ r. refiled q r.entry r.weight r) i s.rows (row_refiled p f q (row_at i s.rows) ep ef) in
    ex ∙ ap (λ (rs : List Row). with_rows rs (raised s)) k

row_parked : (f q : ℕ) (r : Row) → f ≡ r.entry.verified_until → stamped_as 1 f q r ≡ parked_at q r
unfolding stamped_as parked_at
row_parked f q r ef = rw ef

pub parked_anew : (i f : ℕ) (s x : State) → f ≡ (row_at i s.rows).entry.verified_until → x ≡ stamp (stamped_as 1 f) i s → x ≡ park i s
unfolding park stamp
parked_anew i f s x ef ex =
    let q = s.seq + 1 in
    ex ∙ ap (λ (rs : List Row). with_rows rs (raised s)) (change_at (stamped_as 1 f q) (parked_at q) i s.rows (row_parked f q (row_at i s.rows) ef))
