-- A row written again where it stands is the row taken out and filed again.
use mathlib.Core.Path.{◌≡◌, refl, sym, ap, ◌∙◌}
use Prim.Native.Nat.{ℕ, zero, suc, ◌+◌, ◌-◌, ◌≤◌, ◌<◌, ◌*◌, min}
use native.Mathlib.Omega.{arith}
use mathlib.Core.List.{List, [], ◌∷◌, ◌++◌}
use Rattle.std.specs.Prelude.{Some, Option, None, Ok}
use mathlib.Core.Bool.{Bool, true, false, cond, ◌&&◌}
use lib.Dec.{ltb, leb}
use lib.ListN.{length, drop, replicate, length-replicate}
use lib.Seq.{drop_at}
use borrow.Author.Tests.{lt-ltb, le-ltb}
use Rattle.types.specs.declared.node_addr.NodeAddr.{NodeAddr}
use Rattle.types.specs.declared.coord.Path.{Path}
use Rattle.types.specs.Addresses.{addr_before}
use Rattle.rules.specs.Cases.{maybe}
use Rattle.rules.specs.Records.{Entry, Row, State, weight_bound, max_rows, weight_limit}
use Rattle.rules.specs.Rows.{row_at, in_main, find, change_row, without_row, insert_in_order, count_rows, weigh_rows, main_count, zero_rows, with_rows, with_only_rows}
use Rattle.rules.specs.Sound.{sound}
use Rattle.rules.specs.Entries.{update, mark_verified, set_mtu}
use Rattle.rules.specs.Lookups.{with_entry, rewrite}
use Rattle.rules.specs.Room.{refiled, raised, stamp, refile, file_new, take_out, has_room}
use Rattle.rules.specs.Placement.{verified_entry}
use Rattle.rules.specs.Memory.{capacity, view_rows}
use Rattle.rules.proofs.Addresses.{before_irrefl, before_trans, contradiction}
use Rattle.rules.proofs.RowLists.{Rising, cores, of_cores, every_at, change_at, length_change, total_insert, total_without, total_without_le, total_some, find_at}
use Rattle.rules.proofs.SoundTest.{Sound, sound_is}
use Rattle.rules.specs.Layout.{row_size}
use Rattle.stamps.proofs.RowTotals.{count_few}
use Rattle.memory.specs.Edits.{with_stored_weight}
use Rattle.memory.proofs.Fields.{same_head}
use Rattle.rules.proofs.RowLists.{change_twice}
use Rattle.memory.proofs.RowLaws.{view_length, length_without}
use Rattle.search.specs.ByKey.{searched}
use Rattle.search.proofs.SearchLaws.{at_found}
use Rattle.room.proofs.ClosedForm.{sound_small}
use Rattle.verification.specs.Mtu.{given_mtu}

-- ---- row i out, and a row of its key in again

not_before : (a b : NodeAddr) → addr_before a b ≡ true → addr_before b a ≡ false
not_before a b h = go (addr_before b a) refl
  where
    go : (t : Bool) → addr_before b a ≡ t → t ≡ false
    go true e = contradiction (before_trans a b a h e) (before_irrefl a)
    go false e = refl

insert_back : (z : Row) (i : ℕ) (rs : List Row) → Rising (cores rs) → i < length rs → z.key ≡ (row_at i rs).key → insert_in_order z (without_row i rs) ≡ change_row (λ r. z) i rs
unfolding insert_in_order without_row change_row
insert_back z i [] h l e = absurd (let n : ⊥ = omega arith in n)
insert_back z zero (x ∷ []) h l e = refl
insert_back z zero (x ∷ y ∷ ys) h l e = rw (e, h.0.0)
insert_back z (suc i) (x ∷ xs) h l e =
    let b = every_at (λ y. addr_before x.key y.key ≡ true) i xs (omega arith) (of_cores (λ y. addr_before x.key y.key ≡ true) xs h.0) in
    let f : addr_before z.key x.key ≡ false = rw e (not_before x.key (row_at i xs).key b) in
    rw f (ap (λ (ys : List Row). x ∷ ys) (insert_back z i xs h.1 (omega arith) e))

-- ---- a row refiled is a row filed

-- the row of main that is filed
abbrev new_row : NodeAddr → Entry → ℕ → ℕ → Row
new_row k e w q = record { key = k; entry = e; place = 0; stamp_first = e.last_used; stamp_seq = q; weight = w }

main_row : (k : NodeAddr) (e : Entry) (w q : ℕ) (r : Row) → r.key ≡ k → in_main r ≡ true → new_row k e w q ≡ refiled q e w r
unfolding refiled
main_row k e w q r ek m = rw (m, ek)

weight_in : (k : NodeAddr) (e : Entry) (w q : ℕ) (rs : List Row) → weigh_rows in_main (insert_in_order (new_row k e w q) rs) ≡ weigh_rows in_main rs + w
unfolding in_main
weight_in k e w q rs = omega (arith, total_insert (λ (x : Row). cond (ltb x.place 2) x.weight 0) (new_row k e w q) rs)

rest_back : (i : ℕ) (rs : List Row) (l : List ℕ) → i < length rs → drop row_size (zero_rows (length rs - length (without_row i rs)) ++ l) ≡ l
unfolding zero_rows
rest_back i rs l h =
    let e : length rs - length (without_row i rs) ≡ 1 = omega (arith, length_without i rs h) in
    rw e (drop_at (replicate row_size 0) l row_size (length-replicate {A = ℕ} row_size 0))

filed_back : (R : ℕ) (k : NodeAddr) (s : State) → Sound R s → (i w v : ℕ) (e : Entry) → i < length s.rows → (row_at i s.rows).key ≡ k
    → in_main (row_at i s.rows) ≡ true → v ≡ weigh_rows in_main (without_row i s.rows) + w → with_stored_weight v (refile e w i s) ≡ file_new k e w 0 (take_out i s)
unfolding file_new take_out with_only_rows with_stored_weight refile stamp raised with_rows
filed_back R k s d i w v e h ek m ev =
    let q = s.seq + 1 in
    let z = new_row k e w q in
    let a : insert_in_order z (without_row i s.rows) ≡ change_row (refiled q e w) i s.rows =
    insert_back z i s.rows d.rising h (sym ek) ∙ change_at (λ r. z) (refiled q e w) i s.rows (main_row k e w q (row_at i s.rows) ek m) in
    let b : weigh_rows in_main (change_row (refiled q e w) i s.rows) ≡ v = ap (weigh_rows in_main) (sym a) ∙ weight_in k e w q (without_row i s.rows) ∙ sym ev in
    let c : length (change_row (refiled q e w) i s.rows) ≡ s.row_count = length_change (refiled q e w) i s.rows ∙ sym d.counted in
    rw (a, b, c, rest_back i s.rows s.rest h)

-- ---- the entry, in steps

row_again : (f : Entry → Entry) (q w : ℕ) (e : Entry) (r : Row) → (f e).last_used ≡ e.last_used → with_entry (f (refiled q e w r).entry) (refiled q e w r) ≡ refiled q (f e) w r
unfolding with_entry refiled
row_again f q w e r h = rw h

refile_again : (f : Entry → Entry) (e : Entry) (w i : ℕ) (s : State) → (f e).last_used ≡ e.last_used → rewrite f i (refile e w i s) ≡ refile (f e) w i s
unfolding rewrite refile stamp raised with_rows
refile_again f e w i s h =
    let q = s.seq + 1 in
    ap (λ (rs : List Row). with_rows rs (raised s))
    (change_twice (refiled q e w) (λ r. with_entry (f r.entry) r) i s.rows ∙ change_at _ (refiled q (f e) w) i s.rows (row_again f q w e (row_at i s.rows) h))

mark_used : (t : ℕ) (e : Entry) → (mark_verified t e).last_used ≡ e.last_used
unfolding mark_verified
mark_used t e = refl

mtu_used : (mtu : Option ℕ) (e : Entry) → (given_mtu mtu e).last_used ≡ e.last_used
unfolding set_mtu
mtu_used None e = refl
mtu_used (Some m) e = refl

mtu_given : (mtu : Option ℕ) (e : Entry) → maybe mtu e (λ m. set_mtu m e) ≡ given_mtu mtu e
mtu_given None e = refl
mtu_given (Some m) e = refl

entry_of : (k : NodeAddr) (p : Path) (t i : ℕ) (mtu : Option ℕ) (s : State) → find k s.rows ≡ Some i
    → verified_entry k p t mtu s ≡ given_mtu mtu (mark_verified t (update p t s.default_ttl (row_at i s.rows).entry))
unfolding verified_entry
entry_of k p t i mtu s f = rw f (mtu_given mtu (mark_verified t (update p t s.default_ttl (row_at i s.rows).entry)))

-- the row updated and refiled, marked, given its MTU, and the stored weight set
pub verified_back : (k : NodeAddr) (p : Path) (t w v : ℕ) (mtu : Option ℕ) {R ttl i : ℕ} {s a b c x : State} → Sound R s → searched k s.rows ≡ Ok i
    → in_main (row_at i s.rows) ≡ true → ttl ≡ s.default_ttl → v ≡ weigh_rows in_main (without_row i s.rows) + w
    → a ≡ refile (update p t ttl (row_at i s.rows).entry) w i s → b ≡ rewrite (mark_verified t) i a → c ≡ rewrite (given_mtu mtu) i b
    → x ≡ with_stored_weight v c → x ≡ file_new k (verified_entry k p t mtu s) w 0 (take_out i s)
verified_back k p t w v mtu {R} {ttl} {i} {s} {a} {b} {c} d f m et ev ea eb ec ex =
    let o = find_at k s.rows i (at_found k s.rows i f) in
    let e0 = update p t s.default_ttl (row_at i s.rows).entry in
    let e1 = mark_verified t e0 in
    let b1 : b ≡ refile e1 w i s = eb ∙ ap (rewrite (mark_verified t) i) (ea ∙ rw et) ∙ refile_again (mark_verified t) e0 w i s (mark_used t e0) in
    let c1 : c ≡ refile (given_mtu mtu e1) w i s = ec ∙ ap (rewrite (given_mtu mtu) i) b1 ∙ refile_again (given_mtu mtu) e1 w i s (mtu_used mtu e1) in
    ex ∙ ap (with_stored_weight v) c1 ∙ filed_back R k s d i w v (given_mtu mtu e1) o.inside o.key m ev
    ∙ ap (λ (e : Entry). file_new k e w 0 (take_out i s)) (sym (entry_of k p t i mtu s (at_found k s.rows i f)))

-- ---- room without row i

-- rows that are no more than max_entries need not be counted
pub mains_few : (n : ℕ) (l : List ℕ) → main_count (view_rows n l) ≤ n
mains_few n l = omega (arith, count_few in_main (view_rows n l).rows, view_length n l)

pub few_rows : (n m : ℕ) (l : List ℕ) → 0 < main_count (view_rows n l) → n ≤ m → ltb (n - 1) m ≡ ltb (main_count (view_rows n l) - 1) m
few_rows n m l h k =
    let c = mains_few n l in
    lt-ltb (n - 1) m (omega arith) ∙ sym (lt-ltb (main_count (view_rows n l) - 1) m (omega arith))

main_counts : (r : Row) → in_main r ≡ true → ◌≡◌ {A = ℕ} (cond (in_main r) 1 0) 1
main_counts r m = rw m

main_weighs : (r : Row) → in_main r ≡ true → cond (in_main r) r.weight 0 ≡ r.weight
main_weighs r m = rw m

pub main_some : (n i : ℕ) (l : List ℕ) → i < n → in_main (row_at i (view_rows n l).rows) ≡ true → 0 < main_count (view_rows n l)
main_some n i l h m =
    let rs = (view_rows n l).rows in
    omega (arith, total_some (λ r. cond (in_main r) 1 0) i rs (omega (arith, view_length n l)), main_counts (row_at i rs) m)

module _ (n i : ℕ) (l : List ℕ) (s : sound (capacity l) (view_rows n l) ≡ true) (h : i < n) (m : in_main (row_at i (view_rows n l).rows) ≡ true) where
  weighed : weigh_rows in_main (without_row i (view_rows n l).rows) + (row_at i (view_rows n l).rows).weight ≡ (view_rows 0 l).stored_weight
  weighed =
      let rs = (view_rows n l).rows in
      let t = total_without (λ r. cond (in_main r) r.weight 0) i rs (omega (arith, view_length n l)) in
      omega (arith, main_weighs (row_at i rs) m, (sound_is (capacity l) (view_rows n l) s).stored_weight, (same_head 0 n l).stored_weight)

  pub weight_held : (row_at i (view_rows n l).rows).weight ≤ (view_rows 0 l).stored_weight
  weight_held = omega (arith, weighed)

  pub weight_out : (view_rows 0 l).stored_weight - (row_at i (view_rows n l).rows).weight ≡ weigh_rows in_main (without_row i (view_rows n l).rows)
  weight_out = omega (arith, weighed)

-- the weight that stays is small
pub stored_few : (R i : ℕ) (s : State) → sound R s ≡ true → weigh_rows in_main (without_row i s.rows) ≤ max_rows * weight_limit
stored_few R i s h = omega (arith, total_without_le (λ r. cond (in_main r) r.weight 0) i s.rows, (sound_is R s h).stored_weight, (sound_small R s h).stored)

pub room_out : (n i w c : ℕ) (l : List ℕ) {m u x : ℕ} {b : Bool} → i < n → in_main (row_at i (view_rows n l).rows) ≡ true → m ≡ (view_rows n l).max_entries
    → ltb c m ≡ ltb (main_count (view_rows n l) - 1) m → u ≡ weigh_rows in_main (without_row i (view_rows n l).rows) → x ≡ min w (weight_bound m)
    → b ≡ ltb c m && leb (u + x) (weight_bound m) → b ≡ in_main (row_at i (view_rows n l).rows) && has_room (min w (weight_bound (view_rows n l).max_entries)) (take_out i (view_rows n l))
unfolding has_room take_out with_only_rows
room_out n i w c l h k em ec eu ex eb =
    let rs = (view_rows n l).rows in
    let t : count_rows in_main (without_row i rs) ≡ main_count (view_rows n l) - 1 =
    omega (arith, total_without (λ r. cond (in_main r) 1 0) i rs (omega (arith, view_length n l)), main_counts (row_at i rs) k) in
    eb ∙ rw (ec, k, t, ex, em, eu)

pub no_main : (i : ℕ) (b : Bool) (s : State) {p : ℕ} → p ≡ (row_at i s.rows).place → 2 ≤ p → false ≡ in_main (row_at i s.rows) && b
unfolding in_main
no_main i b s {p} e h = rw (← e, le-ltb p 2 h)

pub in_main_lem : (i : ℕ) (s : State) {p : ℕ} → p ≡ (row_at i s.rows).place → p < 2 → in_main (row_at i s.rows) ≡ true
unfolding in_main
in_main_lem i s {p} e h = rw (← e, lt-ltb p 2 h)
