-- stats and the next expiry.
use mathlib.Core.Path.{◌≡◌, refl, ap, ◌∙◌}
use Prim.Native.Nat.{ℕ}
use mathlib.Core.List.{List}
use mathlib.Core.Bool.{true}
use Rattle.types.specs.declared.stats.CacheStats.{CacheStats}
use Rattle.rules.specs.Sound.{sound}
use Rattle.rules.specs.Statistics.{stats, next_expiry}
use Rattle.rules.specs.Calls.{Stats, NextExpiry, StatsGiven, ExpiryGiven, path_given, verified_write, draws_stamps}
use Rattle.rules.specs.Refusals.{perform, gives}
use Rattle.std.specs.Prelude.{Option}
use Rattle.rules.specs.Memory.{capacity, view_rows, view}
use Rattle.rules.specs.Lent.{Bytes, call}
use Rattle.rules.proofs.Public.{sound_memory}
use Rattle.refusals.proofs.SoundCalls.{done_rows, not_refused}

-- the rows that were counted answer, and the memory is left
module _ (l : List ℕ) (n : ℕ) (h : sound (capacity l) (view l) ≡ true) (k : n ≡ (view_rows 0 l).row_count) (b : Bytes l) where
  pub stats_done : (time : ℕ) (c : CacheStats) → c ≡ stats time (view_rows n l)
      → (StatsGiven c ≡ (call l (Stats time)).answer) × (l ≡ (call l (Stats time)).memory)
  unfolding perform gives path_given verified_write draws_stamps
  stats_done time c e =
      let d = done_rows (sound_memory l n h k) (Stats time) l n (not_refused l (Stats time) h refl refl refl) b refl refl in
      (ap StatsGiven e ∙ d.answer, d.memory)

  pub expiry_done : (r : Option ℕ) → r ≡ next_expiry (view_rows n l).rows
      → (ExpiryGiven r ≡ (call l NextExpiry).answer) × (l ≡ (call l NextExpiry).memory)
  unfolding perform gives path_given verified_write draws_stamps
  expiry_done r e =
      let d = done_rows (sound_memory l n h k) NextExpiry l n (not_refused l NextExpiry h refl refl refl) b refl refl in
      (ap ExpiryGiven e ∙ d.answer, d.memory)
