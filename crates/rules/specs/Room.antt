-- Stamps and room of document 01 (next_key, file_new, refile, next_victim, make_room, make_probation_room).
use Rattle.std.specs.Prelude.{ℕ, zero, suc, ◌+◌, min, map, Bool, true, false, cond, ◌&&◌, not, ltb, leb, eqb, length, drop, Option, None, Some}
use Rattle.types.specs.declared.node_addr.NodeAddr.{NodeAddr}
use Rattle.rules.specs.Cases.{maybe}
use Rattle.rules.specs.Records.{Entry, Row, State, by_use, parked, probation, aside, weight_bound, probation_limit, with_held, with_seq}
use Rattle.rules.specs.Rows.{row_at, at_place, in_main, lowest_stamp, change_row, without_row, keep_rows, insert_in_order, total, count_rows, weigh_rows, main_count, main_weight, probation_count, with_rows, with_only_rows}
use Rattle.rules.specs.Entries.{verified}
use Rattle.rules.specs.Layout.{row_size}

-- ---- stamps

-- a row with this entry and weight under the stamp (last_used, q); in main its place becomes ByUse
unfoldable pub refiled : ℕ → Entry → ℕ → Row → Row
refiled q e w r = record { key = r.key; entry = e; place = cond (in_main r) by_use r.place; stamp_first = e.last_used; stamp_seq = q; weight = w }

-- a row parked under the stamp (verified_until, q)
unfoldable pub parked_at : ℕ → Row → Row
parked_at q r = record { key = r.key; entry = r.entry; place = parked; stamp_first = r.entry.verified_until; stamp_seq = q; weight = r.weight }

-- each new stamp raises seq by 1 and uses it
unfoldable pub raised : State → State
unfolding with_seq
raised s = with_seq (s.seq + 1) s

-- row i is changed, at a new stamp
unfoldable pub stamp : (ℕ → Row → Row) → ℕ → State → State
stamp f i s = with_rows (change_row (f (s.seq + 1)) i s.rows) (raised s)

-- row i with this entry and weight, refiled: stamped with last_used
unfoldable pub refile : Entry → ℕ → ℕ → State → State
refile e w i s = stamp (λ q. refiled q e w) i s

-- row i restamped with last_used
unfoldable pub restamp : ℕ → State → State
restamp i s = stamp (λ q r. refiled q r.entry r.weight r) i s

-- row i parked
unfoldable pub park : ℕ → State → State
park i s = stamp parked_at i s

-- a new row filed at place p, stamped with last_used, in the order of keys
unfoldable pub file_new : NodeAddr → Entry → ℕ → ℕ → State → State
unfolding raised
file_new k e w p s =
    let rs = insert_in_order (record { key = k; entry = e; place = p; stamp_first = e.last_used; stamp_seq = s.seq + 1; weight = w }) s.rows in
    with_held (weigh_rows in_main rs) (length rs) rs (drop row_size s.rest) (raised s)

-- row i out
unfoldable pub take_out : ℕ → State → State
take_out i s = with_only_rows (without_row i s.rows) s

-- ---- seeking a victim

-- the state, and examined: the keys taken up by eviction so far
pub record Walk : Type 0 where
  pub state : State
  pub examined : ℕ

-- row i is taken up, and f done with it
unfoldable pub take_up : (ℕ → State → State) → ℕ → Walk → Walk
take_up f i w = record { state = f i w.state; examined = w.examined + 1 }

-- a victim is yielded as it is
unfoldable pub untouched : ℕ → State → State
untouched i s = s

-- first ≠ last_used
unfoldable pub stale : Row → Bool
stale r = not (eqb r.stamp_first r.entry.last_used)

-- how often a walk takes up a row before it yields or passes it; their sum is enough for the walk
unfoldable pub main_visits : ℕ → Row → ℕ
main_visits now r = cond (at_place by_use r) (cond (stale r) 2 1) (cond (at_place parked r && ltb r.stamp_first now) 2 0)

abbrev pub visits_left : ℕ → Walk → ℕ
visits_left now w = total (main_visits now) w.state.rows

-- parked rows with until < now return to ByUse, lowest stamp first, restamped with last_used
unfoldable pub return_lapsed : ℕ → ℕ → Walk → Walk
return_lapsed zero now w = w
return_lapsed (suc n) now w =
    maybe (lowest_stamp parked w.state.rows) w (λ i.
    let returned = return_lapsed n now (take_up restamp i w) in
    cond (ltb (row_at i w.state.rows).stamp_first now) returned w)

pub record Sought : Type 0 where
  pub victim : Option ℕ
  pub walk : Walk

unfoldable pub sought : Option ℕ → Walk → Sought
sought v w = record { victim = v; walk = w }

-- the lowest ByUse stamp is taken up; if first ≠ last_used the row is restamped and the walk goes on;
-- otherwise, if verified, it is parked; the walk ends at the first entry that is neither, and yields it
unfoldable pub seek : ℕ → ℕ → Walk → Sought
seek zero now w = sought None w
seek (suc n) now w =
    maybe (lowest_stamp by_use w.state.rows) (sought None w) (λ i.
    let restamps = seek n now (take_up restamp i w) in
    let parks = seek n now (take_up park i w) in
    let yields = sought (Some i) (take_up untouched i w) in
    cond (stale (row_at i w.state.rows)) restamps
    (cond (verified now (row_at i w.state.rows).entry) parks yields))

unfoldable pub next_victim : ℕ → Walk → Sought
next_victim now w = let v = return_lapsed (visits_left now w) now w in seek (visits_left now v) now v

-- ---- room for w

-- neither main count ≥ max_entries nor stored + w > B
unfoldable pub has_room : ℕ → State → Bool
has_room w s = ltb (main_count s) s.max_entries && leb (main_weight s + w) (weight_bound s.max_entries)

unfoldable pub at_new_place : ℕ → Row → Row
at_new_place p r = record { key = r.key; entry = r.entry; place = p; stamp_first = r.stamp_first; stamp_seq = r.stamp_seq; weight = r.weight }

-- a victim waits aside
unfoldable pub set_aside : ℕ → Walk → Walk
set_aside i w = record { state = with_rows (change_row (at_new_place aside) i w.state.rows) w.state; examined = w.examined }

pub record Chosen : Type 0 where
  pub made : Bool
  pub walk : Walk

-- victims are chosen while there is no room, or none is left
unfoldable pub choose_victims : ℕ → ℕ → ℕ → Walk → Chosen
choose_victims zero now w v = record { made = false; walk = v }
choose_victims (suc n) now w v =
    let s = next_victim now v in
    let more = maybe s.victim (record { made = false; walk = s.walk }) (λ i. choose_victims n now w (set_aside i s.walk)) in
    cond (has_room w v.state) (record { made = true; walk = v }) more

-- a row that was set aside goes back
unfoldable pub put_back : Row → Row
put_back r = cond (at_place aside r) (at_new_place by_use r) r

pub record Room : Type 0 where
  pub made : Bool
  pub state : State
  pub examined : ℕ

-- with room the victims leave; if none is left, no victim is removed, and restamping and parking remain
unfoldable pub settled : Chosen → Room
settled c =
    let s = c.walk.state in
    record { made = c.made; state = with_only_rows (cond c.made (keep_rows (λ r. not (at_place aside r)) s.rows) (map put_back s.rows)) s; examined = c.walk.examined }

-- room for w, with w cut to B
unfoldable pub make_room : ℕ → ℕ → State → Room
make_room now w s = settled (choose_victims (suc (main_count s)) now (min w (weight_bound s.max_entries)) (record { state = s; examined = 0 }))

-- a main row verified at now
unfoldable pub verified_in_main : ℕ → Row → Bool
verified_in_main now r = in_main r && verified now r.entry

-- room can be made exactly when, over main rows verified at now, count < max_entries and weight + w ≤ B
unfoldable pub room_can_be_made : ℕ → ℕ → State → Bool
room_can_be_made now w s = ltb (count_rows (verified_in_main now) s.rows) s.max_entries && leb (weigh_rows (verified_in_main now) s.rows + min w (weight_bound s.max_entries)) (weight_bound s.max_entries)

-- ---- probation room

-- how often a probation row is taken up before it leaves
unfoldable pub probation_visits : Row → ℕ
probation_visits r = cond (at_place probation r) (cond (stale r) 2 1) 0

-- while probation rows ≥ b the lowest stamp is taken up, restamped if stale, otherwise removed
unfoldable pub evict_below : ℕ → ℕ → Walk → Walk
evict_below b zero w = w
evict_below b (suc n) w =
    let more = maybe (lowest_stamp probation w.state.rows) w (λ i. evict_below b n (take_up (cond (stale (row_at i w.state.rows)) restamp take_out) i w)) in
    cond (ltb (probation_count w.state) b) w more

-- while probation rows ≥ Q
unfoldable pub make_probation_room : State → Walk
make_probation_room s = evict_below (probation_limit s) (total probation_visits s.rows) (record { state = s; examined = 0 })
