-- A row by value, as a row of the state; a state with a row inserted or exchanged.
use Rattle.std.specs.Prelude.{ℕ, suc, ◌+◌, ◌≡◌, ◌∷◌, ◌++◌, length, take, drop}
use Rattle.rules.specs.Records.{Row, State, whole_entry, with_held}
use Rattle.rules.specs.Rows.{without_row, with_rows}
use Rattle.rules.specs.Layout.{row_size}
use Rattle.rows.specs.declared.row.NewRow.{NewRow}

-- every field of a row by value; its path as a row holds it
unfoldable pub row_from : NewRow → Row
row_from r =
    record {
      key = r.key;
      entry = whole_entry r.path r.created_at r.last_used r.expires_at r.mtu_mark r.mtu r.source r.verified_until;
      place = r.place;
      stamp_first = r.stamp_first;
      stamp_seq = r.stamp_seq;
      weight = r.weight;
    }

-- row r goes in at i; what is past the rows loses a row's bytes
unfoldable pub inserted : ℕ → Row → State → State
inserted i r s = with_held s.stored_weight (length s.rows + 1) (take i s.rows ++ r ∷ drop i s.rows) (drop row_size s.rest) s

-- row i leaves, and row r goes in at j of those that stay
unfoldable pub exchanged : ℕ → ℕ → Row → State → State
exchanged i j r s = with_rows (take j (without_row i s.rows) ++ r ∷ drop j (without_row i s.rows)) s

-- of a state s, t has the rows but row i, with a place between them at j; all else is as it was
pub record Opened (i j : ℕ) (s t : State) : Type 0 where
  pub before : take j t.rows ≡ take j (without_row i s.rows)
  pub behind : drop (suc j) t.rows ≡ drop j (without_row i s.rows)
  pub others : with_rows s.rows t ≡ s
