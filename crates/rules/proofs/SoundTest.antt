-- The test of soundness, as a predicate.
use Prim.Native.Nat.{ℕ, ◌+◌, ◌≤◌}
use mathlib.Core.Path.{◌≡◌, refl, ap}
use mathlib.Core.List.{List, [], ◌∷◌}
use mathlib.Core.Bool.{Bool, true, false, ◌&&◌, ◌||◌, not}
use lib.Dec.{eqb}
use lib.ListN.{length}
use borrow.Author.Tests.{eq-eqb, eqb-true, leb-true, le-leb, not-true}
use Rattle.types.specs.declared.node_addr.NodeAddr.{NodeAddr}
use Rattle.types.specs.Addresses.{addr_before}
use Rattle.types.specs.Paths.{path_weight, path_places}
use Rattle.rules.specs.Cases.{Every}
use Rattle.rules.specs.Records.{Row, State, main_limit, parked, probation, probation_limit, max_rows, weight_limit}
use Rattle.rules.specs.Rows.{at_place, main_count, main_weight, probation_count}
use Rattle.rules.specs.Sound.{all, ascends, from_verified, leads, legal, row_sound, sound, sourced, weighed}
use Rattle.rules.proofs.Addresses.{before_trans, contradiction}
use Rattle.rules.proofs.RowLists.{Rising, cores, every_map}

pub and_left : (a b : Bool) → a && b ≡ true → a ≡ true
and_left true b h = refl
and_left false b h = h

pub and_right : (a b : Bool) → a && b ≡ true → b ≡ true
and_right true b h = h
and_right false b h = contradiction {b = false} h refl

pub and_both : {a b : Bool} → a ≡ true → b ≡ true → a && b ≡ true
and_both p q = rw (p, q)

pub and_case : {C : Type 0} (a b : Bool) → a && b ≡ true → (a ≡ true → b ≡ true → C) → C
and_case true b h f = f refl h
and_case false b h f = contradiction {b = false} h refl

-- a implies b, as a test
implied : (a b : Bool) → not a || b ≡ true → a ≡ true → b ≡ true
implied true b h q = h
implied false b h q = contradiction {b = false} q refl

implies : (a b : Bool) → (a ≡ true → b ≡ true) → not a || b ≡ true
implies true b f = f refl
implies false b f = refl

pub record RowOk (q : ℕ) (r : Row) : Type 0 where
  pub place : r.place ≤ 2
  pub source : r.entry.source ≤ 1
  pub mtu_mark : r.entry.mtu_mark ≤ 1
  pub long : 1 ≤ r.entry.path.len
  pub short : r.entry.path.len ≤ path_places
  pub heavy : path_weight r.entry.path ≤ r.weight
  pub light : r.weight ≤ weight_limit
  pub stamped : r.stamp_seq ≤ q
  pub hinted : from_verified r.entry ≡ false → r.entry.verified_until ≡ 0
  pub on_probation : at_place probation r ≡ true → from_verified r.entry ≡ false
  pub parked : at_place parked r ≡ true → (from_verified r.entry ≡ true) × (r.stamp_first ≡ r.entry.verified_until)

pub record Sound (R : ℕ) (s : State) : Type 0 where
  pub small : R ≤ max_rows
  pub space : s.max_entries + probation_limit s ≤ R
  pub mains : main_count s ≤ main_limit R s
  pub probations : probation_count s ≤ probation_limit s
  pub counted : s.row_count ≡ length s.rows
  pub stored_weight : s.stored_weight ≡ main_weight s
  pub rising : Rising (cores s.rows)
  pub each : Every (RowOk s.seq) s.rows

-- ---- a row

or_left : (a b : Bool) → a || b ≡ true → a ≡ false → b ≡ true
or_left true b h q = contradiction {b = true} refl q
or_left false b h q = h

row_ok : (q : ℕ) (r : Row) → row_sound q r ≡ true → RowOk q r
unfolding row_sound legal weighed sourced
row_ok q r h =
    and_case _ _ h (λ l h2. and_case _ _ h2 (λ w h3. and_case _ _ h3 (λ n h4.
    and_case _ _ l (λ l1 l2. and_case _ _ l2 (λ l3 l4. and_case _ _ l4 (λ l5 l6. and_case _ _ l6 (λ l7 l8.
    and_case _ _ w (λ w1 w2. and_case _ _ h4 (λ v1 v2. and_case _ _ v2 (λ v3 v4.
    record {
      place = leb-true _ _ l1;
      source = leb-true _ _ l3;
      mtu_mark = leb-true _ _ l5;
      long = leb-true _ _ l7;
      short = leb-true _ _ l8;
      heavy = leb-true _ _ w1;
      light = leb-true _ _ w2;
      stamped = leb-true _ _ n;
      hinted = λ z. eqb-true _ _ (or_left _ _ v1 z);
      on_probation = λ z. not-true _ (implied _ _ v3 z);
      parked = λ z. and_case _ _ (implied _ _ v4 z) (λ a b. (a, eqb-true _ _ b));
    }))))))))))

row_test : (q : ℕ) (r : Row) → RowOk q r → row_sound q r ≡ true
unfolding row_sound legal weighed sourced
row_test q r h =
    and_both (and_both (le-leb _ _ h.place) (and_both (le-leb _ _ h.source) (and_both (le-leb _ _ h.mtu_mark) (and_both (le-leb _ _ h.long) (le-leb _ _ h.short)))))
    (and_both (and_both (le-leb _ _ h.heavy) (le-leb _ _ h.light))
    (and_both (le-leb _ _ h.stamped)
    (and_both (hint (from_verified r.entry) h.hinted)
    (and_both (implies _ _ (λ z. ap not (h.on_probation z)))
    (implies _ _ (λ z. and_both (h.parked z).0 (eq-eqb _ _ (h.parked z).1)))))))
  where
    hint : (b : Bool) → (b ≡ false → r.entry.verified_until ≡ 0) → b || eqb r.entry.verified_until 0 ≡ true
    hint true f = refl
    hint false f = eq-eqb _ _ (f refl)

rows_ok : (q : ℕ) (rs : List Row) → all (row_sound q) rs ≡ true → Every (RowOk q) rs
unfolding all
rows_ok q [] h = tt
rows_ok q (r ∷ rs) h = (row_ok q r (and_left (row_sound q r) (all (row_sound q) rs) h), rows_ok q rs (and_right (row_sound q r) (all (row_sound q) rs) h))

rows_test : (q : ℕ) (rs : List Row) → Every (RowOk q) rs → all (row_sound q) rs ≡ true
unfolding all
rows_test q [] h = refl
rows_test q (r ∷ rs) h = and_both (row_test q r h.0) (rows_test q rs h.1)

-- ---- keys ascend

before_rest : (k : NodeAddr) (r : Row) (rs : List Row) → addr_before k r.key ≡ true → Rising (cores (r ∷ rs)) → Every (λ y. addr_before k y.key ≡ true) (cores (r ∷ rs))
before_rest k r rs h g = (h, every_map (λ y a. before_trans k r.key y.key h a) (cores rs) g.0)

pub ascends_ok : (rs : List Row) → ascends rs ≡ true → Rising (cores rs)
unfolding ascends leads
ascends_ok [] h = tt
ascends_ok (r ∷ []) h = (tt, tt)
ascends_ok (r ∷ x ∷ xs) h = let g = ascends_ok (x ∷ xs) (and_right (addr_before r.key x.key) (ascends (x ∷ xs)) h) in (before_rest r.key x xs (and_left (addr_before r.key x.key) (ascends (x ∷ xs)) h) g, g)

pub ascends_test : (rs : List Row) → Rising (cores rs) → ascends rs ≡ true
unfolding ascends leads
ascends_test [] h = refl
ascends_test (r ∷ []) h = refl
ascends_test (r ∷ x ∷ xs) h = and_both h.0.0 (ascends_test (x ∷ xs) h.1)

-- THE TEST IS THE PREDICATE
pub sound_is : (R : ℕ) (s : State) → sound R s ≡ true → Sound R s
unfolding sound
sound_is R s h =
    and_case _ _ h (λ a h2. and_case _ _ h2 (λ b h3. and_case _ _ h3 (λ c h4. and_case _ _ h4 (λ d h5. and_case _ _ h5 (λ e h6. and_case _ _ h6 (λ f h7. and_case (ascends s.rows) (all (row_sound s.seq) s.rows) h7 (λ g i.
    record { small = leb-true _ _ a; space = leb-true _ _ b; mains = leb-true _ _ c; probations = leb-true _ _ d; counted = eqb-true _ _ e; stored_weight = eqb-true _ _ f; rising = ascends_ok s.rows g; each = rows_ok s.seq s.rows i })))))))

pub is_sound : (R : ℕ) (s : State) → Sound R s → sound R s ≡ true
unfolding sound
is_sound R s h =
    and_both (le-leb _ _ h.small) (and_both (le-leb _ _ h.space) (and_both (le-leb _ _ h.mains) (and_both (le-leb _ _ h.probations) (and_both (eq-eqb _ _ h.counted) (and_both (eq-eqb _ _ h.stored_weight) (and_both (ascends_test _ h.rising) (rows_test _ _ h.each)))))))
