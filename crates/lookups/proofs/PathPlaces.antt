-- Where the path that get_and_touch hands back stands.
use mathlib.Core.Path.{◌≡◌, refl, sym, ap, ◌∙◌, subst}
use Prim.Native.Nat.{ℕ, ◌+◌, ◌*◌, ◌≤◌}
use native.Mathlib.Omega.{arith}
use mathlib.Core.List.{List}
use Rattle.std.specs.Prelude.{Option, None, Some}
use mathlib.Core.Bool.{Bool, true, false, cond}
use lib.ListN.{length}
use Rattle.types.specs.declared.node_addr.NodeAddr.{NodeAddr}
use Rattle.types.specs.declared.coord.Path.{Path}
use Rattle.rules.specs.Records.{Entry, State}
use Rattle.rules.specs.Rows.{row_at, find, with_rows, with_only_rows}
use Rattle.rules.specs.Sound.{sound}
use Rattle.rules.specs.Entries.{expired, refresh, last_time}
use Rattle.rules.specs.Room.{take_out}
use Rattle.rules.specs.Lookups.{rewrite, with_entry}
use Rattle.rules.specs.Calls.{GetAndTouch}
use Rattle.rules.specs.Memory.{capacity, view_rows, view}
use Rattle.rules.specs.Lent.{Bytes, Typed, call}
use Rattle.rules.proofs.RowLists.{cores, find_at, length_change, rising_unique}
use Rattle.rules.proofs.Others.{take_out_gone}
use Rattle.rules.proofs.Sizes.{small8_less}
use Rattle.rules.proofs.Public.{sound_memory}
use Rattle.rules.proofs.GotPart.{RefreshedRow, refreshed_row, find_gone}
use Rattle.rules.specs.Layout.{coord_entry_size}
use Rattle.rules.proofs.Foreign.{view_length}
use Rattle.entries.specs.declared.path.PathPlace.{PathPlace}
use Rattle.refusals.proofs.SearchedKeys.{Found, inside}
use Rattle.lookups.specs.Steps.{path_start, touched_at, touch_says, touched_place, StandsAt}
use Rattle.lookups.proofs.FoundRows.{absent_stands, path_stands, touch_sound}
use Rattle.lookups.proofs.TouchedRows.{touched_at_lem, touched_absent}

-- ---- row i

-- the path's place in row i
abbrev standing : ℕ → State → PathPlace
standing i s = record { start = path_start i; end = path_start i + (row_at i s.rows).entry.path.len * coord_entry_size }

abbrev nowhere : PathPlace
nowhere = record { start = 0; end = 0 }

module _ (i time : ℕ) (s : State) {a : Option ℕ} (e : a ≡ touch_says i time s) where
  pub placed : (p : PathPlace) {n : ℕ} → a ≡ Some n → p.start ≡ path_start i → p.end ≡ p.start + (row_at i s.rows).entry.path.len * coord_entry_size
      → p ≡ touched_place i time s
  unfolding touch_says touched_place
  placed p {n} f x y = go (expired time (row_at i s.rows).entry) (sym f ∙ e)
    where
      g : ◌≡◌ {A = PathPlace} (record { start = p.start; end = p.end }) (standing i s)
      g = rw (y, x)

      go : (b : Bool) → Some n ≡ cond b None (Some (row_at i s.rows).entry.path.len) → p ≡ cond b nowhere (standing i s)
      go true h = absurd (cc)
      go false h = g

  pub unplaced : a ≡ None → nowhere ≡ touched_place i time s
  unfolding touch_says touched_place
  unplaced f = go (expired time (row_at i s.rows).entry) (sym f ∙ e)
    where
      go : (b : Bool) → None ≡ cond b None (Some (row_at i s.rows).entry.path.len) → nowhere ≡ cond b nowhere (standing i s)
      go true h = refl
      go false h = absurd (cc)

-- ---- the call

-- what touch_place tells
abbrev pub Placed : List ℕ → NodeAddr → ℕ → PathPlace → List ℕ → Type 0
Placed l k time r m = StandsAt k time m r.start r.end × (m ≡ (call l (GetAndTouch k time)).memory)

refreshed_count : (n : ℕ) (l m : List ℕ) (i time : ℕ) → view_rows n m ≡ rewrite (refresh time (view_rows n l).default_ttl) i (view_rows n l) → (view_rows 0 m).row_count ≡ (view_rows n l).row_count
unfolding view_rows rewrite with_rows
refreshed_count n l m i time v = ap (λ (x : State). x.row_count) v

refreshed_length : (f : Entry → Entry) (i n : ℕ) (l : List ℕ) → length (rewrite f i (view_rows n l)).rows ≡ n
unfolding rewrite with_rows
refreshed_length f i n l = length_change (λ r. with_entry (f r.entry) r) i (view_rows n l).rows ∙ view_length n l

out_count : (j i : ℕ) (s : State) (m : List ℕ) → j ≡ length (take_out i s).rows → view_rows j m ≡ take_out i s → j ≡ (view_rows 0 m).row_count
unfolding view_rows take_out with_only_rows
out_count j i s m e v = e ∙ sym (ap (λ (x : State). x.row_count) v)

module _ {k : NodeAddr} {n : ℕ} {l : List ℕ} (time : ℕ) where
  module _ {i : ℕ} (f : Found k n (Some i) l) (r : PathPlace) (m : List ℕ) where
    -- a row that stays: its path stands where it stood
    kept_stands : time ≤ last_time → sound (capacity m) (view m) ≡ true → view_rows n m ≡ rewrite (refresh time (view_rows n l).default_ttl) i (view_rows n l)
        → r ≡ standing i (view_rows n l) → StandsAt k time m r.start r.end
    kept_stands t h v e =
        let d : RefreshedRow k time i (view_rows n l) (view_rows n m) =
        subst (RefreshedRow k time i (view_rows n l)) (sym v) (refreshed_row k time (view_rows n l) i t f.row (omega (arith, inside f, f.memory.rows))) in
        let c : n ≡ (view_rows 0 m).row_count = sym (refreshed_count n l m i time v ∙ f.memory.sound.counted ∙ f.memory.rows) in
        let g : Found k n (Some i) m = record { sound = h; memory = sound_memory m n h c; row = d.held } in
        let y = e ∙ ap (λ (p : Path). record { start = path_start i; end = path_start i + p.len * coord_entry_size }) (sym d.path) in
        let a = ap (λ (p : PathPlace). p.start) y in
        path_stands time g d.unexpired a (ap (λ (p : PathPlace). p.end) y ∙ rw a)

    -- a row that leaves: its key has none
    out_stands : (j : ℕ) → sound (capacity m) (view m) ≡ true → j ≡ length (take_out i (view_rows n l)).rows → view_rows j m ≡ take_out i (view_rows n l) → r ≡ nowhere
        → StandsAt k time m r.start r.end
    out_stands j h ej v e =
        let a = find_at k (view_rows n l).rows i f.row in
        let g = find_gone k _ (take_out_gone k i (view_rows n l) (rising_unique (cores (view_rows n l).rows) f.memory.sound.rising) a.inside a.key) in
        let o : Found k j None m = record {
          sound = h;
          memory = sound_memory m j h (out_count j i (view_rows n l) m ej v);
          row = ap (λ (x : State). find k x.rows) v ∙ g;
        } in
        rw e (absent_stands time o)

    pub placed_at : Bytes l → Typed (GetAndTouch k time) → Bytes m → length m ≡ length l → r ≡ touched_place i time (view_rows n l)
        → view_rows (length (touched_at i time (view_rows n l)).rows) m ≡ touched_at i time (view_rows n l) → Placed l k time r m
    unfolding touched_place touched_at
    placed_at b g bm z e v = go (expired time (row_at i (view_rows n l).rows).entry) refl
      where
        t : m ≡ (call l (GetAndTouch k time)).memory
        t = (touched_at_lem time f (touch_says i time (view_rows n l)) m bm z (refl, v)).left

        q : sound (capacity m) (view m) ≡ true
        q = touch_sound l k time m b g f.sound t

        go : (x : Bool) → expired time (row_at i (view_rows n l).rows).entry ≡ x → Placed l k time r m
        go true x =
            let y : touched_at i time (view_rows n l) ≡ take_out i (view_rows n l) = rw x in
            (out_stands (length (touched_at i time (view_rows n l)).rows) q (ap (λ (z : State). length z.rows) y) (v ∙ y) (e ∙ rw x), t)
        go false x =
            let y : touched_at i time (view_rows n l) ≡ rewrite (refresh time (view_rows n l).default_ttl) i (view_rows n l) = rw x in
            let u = ap (λ (z : State). length z.rows) y ∙ refreshed_length (refresh time (view_rows n l).default_ttl) i n l in
            (kept_stands (omega (arith, small8_less time g.1)) q (ap (λ (z : ℕ). view_rows z m) (sym u) ∙ v ∙ y) (e ∙ rw x), t)

  pub placed_absent : Found k n None l → Bytes l → Placed l k time nowhere l
  placed_absent f b = (absent_stands time f, (touched_absent time f b).left)
