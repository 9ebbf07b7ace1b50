-- Source and MTU of a row's entry, as a verified insert sets them.
use mathlib.Core.Path.{◌≡◌, refl, sym, ap}
use Prim.Native.Nat.{ℕ}
use mathlib.Core.List.{List}
use Rattle.std.specs.Prelude.{Option, None, Some}
use Rattle.rules.specs.Records.{Row, State, some_mtu, verified_source, with_mtu, with_source}
use Rattle.rules.specs.Rows.{row_at, with_rows}
use Rattle.rules.specs.Entries.{add_times, mark_verified, set_mtu, verified_ttl}
use Rattle.rules.specs.Lookups.{with_entry, rewrite}
use Rattle.rules.proofs.RowLists.{change_none}
use Rattle.verification.specs.Mtu.{given_mtu}

pub verified_source_lem : (t u i : ℕ) (s : State) → u ≡ add_times t verified_ttl → rewrite (with_source verified_source u) i s ≡ rewrite (mark_verified t) i s
unfolding mark_verified
verified_source_lem t u i s e = rw e

same_entry_lem : (r : Row) → with_entry r.entry r ≡ r
unfolding with_entry
same_entry_lem r = refl

rewrite_same : (i : ℕ) (s : State) → rewrite (λ e. e) i s ≡ s
unfolding rewrite with_rows
rewrite_same i s = ap (λ (rs : List Row). with_rows rs s) (change_none (λ r. with_entry r.entry r) i s.rows (same_entry_lem (row_at i s.rows)))

pub no_mtu_lem : (i : ℕ) (mtu : Option ℕ) (s : State) → mtu ≡ None → s ≡ rewrite (given_mtu mtu) i s
no_mtu_lem i mtu s e = rw e (sym (rewrite_same i s))

pub some_mtu_lem : (i m : ℕ) (mtu : Option ℕ) (s : State) → mtu ≡ Some m → rewrite (with_mtu some_mtu m) i s ≡ rewrite (given_mtu mtu) i s
unfolding set_mtu
some_mtu_lem i m mtu s e = rw e
