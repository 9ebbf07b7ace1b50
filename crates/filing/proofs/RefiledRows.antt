-- A row updated, weighed and refiled where it stands, over plain variables.
use mathlib.Core.Path.{◌≡◌, refl, ap, ◌∙◌}
use mathlib.Core.List.{List}
use Prim.Native.Nat.{ℕ, ◌+◌, ◌<◌}
use lib.ListN.{length}
use Rattle.types.specs.declared.coord.Path.{Path}
use Rattle.rules.specs.Records.{Entry, Row, State, with_path, with_times}
use Rattle.rules.specs.Rows.{row_at, in_main, change_row, with_rows}
use Rattle.rules.specs.Entries.{update, mark_hint, add_times}
use Rattle.rules.specs.Room.{refiled, raised, stamp, refile, restamp}
use Rattle.rules.specs.Lookups.{rewrite, with_entry}
use Rattle.rules.proofs.RowLists.{change_at, change_twice, row_changed}
use Rattle.memory.specs.Edits.{with_weight}

-- ---- an update

rewrite_twice : (f g : Entry → Entry) (i : ℕ) (s : State) → rewrite g i (rewrite f i s) ≡ rewrite (λ e. g (f e)) i s
unfolding rewrite with_rows with_entry
rewrite_twice f g i s = ap (λ (rs : List Row). with_rows rs s) (change_twice (λ r. with_entry (f r.entry) r) (λ r. with_entry (g r.entry) r) i s.rows)

update_steps : (p : Path) (time ttl i : ℕ) (s : State) → rewrite (λ e. mark_hint (with_times time (add_times time ttl) (with_path p e))) i s ≡ rewrite (update p time ttl) i s
unfolding update mark_hint
update_steps p time ttl i s = refl

pub updated : (p : Path) (time ttl i : ℕ) (s : State) {expires : ℕ} {t u x : State} → expires ≡ add_times time ttl
    → t ≡ rewrite (with_path p) i s → u ≡ rewrite (with_times time expires) i t → x ≡ rewrite mark_hint i u → x ≡ rewrite (update p time ttl) i s
updated p time ttl i s e et eu ex =
    ex ∙ ap (rewrite mark_hint i) (eu ∙ rw (e, et) (rewrite_twice (with_path p) (with_times time (add_times time ttl)) i s))
    ∙ rewrite_twice (λ y. with_times time (add_times time ttl) (with_path p y)) mark_hint i s ∙ update_steps p time ttl i s

-- ---- a row refiled

weighed_row : (q w : ℕ) (r : Row) → refiled q (with_weight w r).entry (with_weight w r).weight (with_weight w r) ≡ refiled q r.entry w r
unfolding refiled with_weight in_main
weighed_row q w r = refl

pub weighed_refiled : (w i : ℕ) (s : State) {t x : State} → t ≡ with_rows (change_row (with_weight w) i s.rows) s → x ≡ restamp i t → x ≡ refile (row_at i s.rows).entry w i s
unfolding restamp refile stamp raised with_rows
weighed_refiled w i s et ex =
    let q = s.seq + 1 in
    let r = row_at i s.rows in
    let e : change_row (λ y. refiled q y.entry y.weight y) i (change_row (with_weight w) i s.rows) ≡ change_row (refiled q r.entry w) i s.rows =
    change_twice (with_weight w) (λ y. refiled q y.entry y.weight y) i s.rows ∙ change_at _ (refiled q r.entry w) i s.rows (weighed_row q w r) in
    ex ∙ ap (restamp i) et ∙ ap (λ (rs : List Row). with_rows rs (raised s)) e

-- ---- both

entry_row : (f : Entry → Entry) (q w : ℕ) (e : Entry) (r : Row) → refiled q e w (with_entry (f r.entry) r) ≡ refiled q e w r
unfolding refiled with_entry in_main
entry_row f q w e r = refl

rewritten_entry : (f : Entry → Entry) (i : ℕ) (s : State) → i < length s.rows → (row_at i (rewrite f i s).rows).entry ≡ f (row_at i s.rows).entry
unfolding rewrite with_rows with_entry
rewritten_entry f i s h = ap (λ (r : Row). r.entry) (row_changed (λ r. with_entry (f r.entry) r) i s.rows h)

refile_rewritten : (f : Entry → Entry) (e : Entry) (w i : ℕ) (s : State) → refile e w i (rewrite f i s) ≡ refile e w i s
unfolding refile stamp raised rewrite with_rows
refile_rewritten f e w i s =
    let q = s.seq + 1 in
    ap (λ (rs : List Row). with_rows rs (raised s))
    (change_twice (λ r. with_entry (f r.entry) r) (refiled q e w) i s.rows ∙ change_at _ (refiled q e w) i s.rows (entry_row f q w e (row_at i s.rows)))

pub rewritten_refiled : (f : Entry → Entry) (w i : ℕ) (s : State) {t x : State} → i < length s.rows → t ≡ rewrite f i s
    → x ≡ refile (row_at i t.rows).entry w i t → x ≡ refile (f (row_at i s.rows).entry) w i s
rewritten_refiled f w i s h et ex = ex ∙ rw (et, rewritten_entry f i s h) (refile_rewritten f (f (row_at i s.rows).entry) w i s)
