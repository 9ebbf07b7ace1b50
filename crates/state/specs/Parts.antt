-- Soundness in the parts that the check goes by: the head, and the rows. Together they are `sound` (PassLaws.sound_parts).
use Rattle.std.specs.Prelude.{ℕ, ◌+◌, List, Bool, cond, ◌&&◌, ltb, leb, eqb}
use Rattle.rules.specs.Records.{Row, max_rows, probation, probation_bound}
use Rattle.rules.specs.Rows.{in_main, in_probation, count_rows, weigh_rows}
use Rattle.rules.specs.Sound.{ascends, all, row_sound}
use Rattle.state.specs.declared.pass.Totals.{Totals}

-- R ≤ 1,024, R ≥ max + Q, and the rows counted are there
unfoldable pub head_sound : ℕ → ℕ → ℕ → Bool
head_sound R m count = leb R max_rows && (leb (m + probation_bound m) R && leb count R)

-- M and Q are the bounds, q and w the head's seq and stored weight
unfoldable pub rows_sound : ℕ → ℕ → ℕ → ℕ → List Row → Bool
rows_sound M Q q w rs = leb (count_rows in_main rs) M && (leb (count_rows in_probation rs) Q && (eqb w (weigh_rows in_main rs) && (ascends rs && all (row_sound q) rs)))

-- totals with one row more, of this place and weight
unfoldable pub tallied : Totals → ℕ → ℕ → Totals
tallied t p w = record { main = t.main + cond (ltb p probation) 1 0; probation = t.probation + cond (eqb p probation) 1 0; weight = t.weight + cond (ltb p probation) w 0 }
