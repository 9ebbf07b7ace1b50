-- The calls that sweep, and clear.
use mathlib.Core.Path.{◌≡◌, refl, sym, ap, ◌∙◌}
use Prim.Native.Nat.{ℕ, ◌+◌, ◌*◌, ◌-◌, ◌≤◌}
use native.Mathlib.Omega.{arith}
use mathlib.Core.List.{List, [], ◌∷◌}
use mathlib.Core.Bool.{Bool, true, not}
use lib.ListN.{length}
use Rattle.types.specs.Addresses.{same_addr}
use Rattle.types.specs.Paths.{contains, root_of}
use Rattle.rules.specs.Entries.{expired}
use Rattle.rules.specs.Rows.{main_weight}
use Rattle.types.specs.declared.node_addr.NodeAddr.{NodeAddr}
use Rattle.rules.specs.Cases.{Every}
use Rattle.rules.specs.Records.{Entry, Row, max_rows}
use Rattle.rules.specs.Rows.{total, in_main, weigh_rows}
use Rattle.rules.specs.Sound.{sound}
use Rattle.rules.specs.Lookups.{sweep, matching}
use Rattle.rules.specs.Calls.{Call, Clear, PurgeExpired, InvalidateViaNode, InvalidateOtherRoots, Done, RowsRemoved, path_given, verified_write, draws_stamps}
use Rattle.rules.specs.Refusals.{Step, perform, gives, sweeps}
use Rattle.rules.specs.Memory.{capacity, rows_of, view_rows, view}
use Rattle.rules.specs.Lent.{Bytes, call}
use Rattle.rules.proofs.SoundTest.{RowOk}
use Rattle.rules.proofs.Public.{sound_memory}
use Rattle.rules.specs.Layout.{head_size, row_size}
use Rattle.rules.proofs.Foreign.{view_length}
use Rattle.memory.specs.Edits.{OnlyRows, shrunk}
use Rattle.memory.proofs.RowLaws.{only_shrunk}
use Rattle.refusals.proofs.SoundCalls.{done_rows, not_refused}
use Rattle.sweeps.specs.Sweeping.{Sweeps}
use Rattle.retention.specs.Sweep.{kept_rows, PathFit, PathsFit, Swept}
use Rattle.retention.proofs.KeptRows.{left_out}

-- ---- the calls

fit_rows : (q : ℕ) (rs : List Row) → Every (RowOk q) rs → Every PathFit rs
fit_rows q [] h = tt
fit_rows q (r ∷ rs) h = (record { long = h.0.long; short = h.0.short }, fit_rows q rs h.1)

pub sweepable : (l : List ℕ) (n : ℕ) → sound (capacity l) (view l) ≡ true → n ≡ (view_rows 0 l).row_count
    → (n ≤ max_rows) × (head_size + n * row_size ≤ length l) × PathsFit (view_rows n l).rows × ((view_rows n l).row_count ≡ n) × ((view_rows n l).stored_weight ≡ main_weight (view_rows n l))
sweepable l n h e =
    let s = sound_memory l n h e in
    (s.few, s.long, fit_rows (view_rows n l).seq (view_rows n l).rows s.sound.each, s.sound.counted ∙ s.rows, s.sound.stored_weight)

-- ---- what each call sweeps

pub purge_sweeps : (time : ℕ) → Sweeps (PurgeExpired time) (expired time)
unfolding perform path_given verified_write draws_stamps
purge_sweeps time = record { does = λ s. refl; allowed = λ l h. not_refused l (PurgeExpired time) h refl refl refl }

pub via_sweeps : (a : NodeAddr) → Sweeps (InvalidateViaNode a) (λ e. contains a e.path)
unfolding perform path_given verified_write draws_stamps
via_sweeps a = record { does = λ s. refl; allowed = λ l h. not_refused l (InvalidateViaNode a) h refl refl refl }

pub roots_sweeps : (a : NodeAddr) → Sweeps (InvalidateOtherRoots a) (λ e. not (same_addr (root_of e.path) a))
unfolding perform path_given verified_write draws_stamps
roots_sweeps a = record { does = λ s. refl; allowed = λ l h. not_refused l (InvalidateOtherRoots a) h refl refl refl }

-- j of n rows stay
pub sweep_done : {q : Call} {p : Entry → Bool} → Sweeps q p → (l : List ℕ) (n j : ℕ) (m : List ℕ)
    → sound (capacity l) (view l) ≡ true → n ≡ (view_rows 0 l).row_count → Bytes m → length m ≡ length l → Swept (λ r. p r.entry) n j l m
    → (RowsRemoved (n - j) ≡ (call l q).answer) × (m ≡ (call l q).memory)
unfolding matching sweep sweeps gives kept_rows
sweep_done {q} {p} u l n j m h e b z w =
    let s = view_rows n l in
    let v : view_rows j m ≡ (perform s q).state = w.1 ∙ ap (λ (x : Step). x.state) (sym (u.does s)) in
    let d = done_rows (sound_memory l n h e) q m j (u.allowed l h) b z v in
    let r : n - j ≡ matching p s = omega (arith, left_out (λ x. p x.entry) s.rows, view_length n l, w.0) in
    (ap RowsRemoved r ∙ ap (λ (x : Step). x.answer) (sym (u.does s)) ∙ d.answer, d.memory)

-- ---- clear

none_left : (n : ℕ) (l : List ℕ) → OnlyRows n 0 [] l l
unfolding view_rows rows_of
none_left n l = record { size = refl; head = refl; rows = refl; rest = refl }

nothing_weighs : weigh_rows in_main [] ≡ 0
unfolding total
nothing_weighs = refl

pub cleared : (l : List ℕ) (n : ℕ) (m : List ℕ) → sound (capacity l) (view l) ≡ true → n ≡ (view_rows 0 l).row_count → Bytes m → length m ≡ length l
    → view_rows 0 m ≡ shrunk n 0 0 l → (Done ≡ (call l Clear).answer) × (m ≡ (call l Clear).memory)
unfolding perform gives path_given verified_write draws_stamps
cleared l n m h e b z v =
    let t = v ∙ ap (λ (x : ℕ). shrunk n 0 x l) (sym nothing_weighs) ∙ only_shrunk n 0 [] l l (omega arith) refl (none_left n l) in
    let d = done_rows (sound_memory l n h e) Clear m 0 (not_refused l Clear h refl refl refl) b z t in
    (d.answer, d.memory)
