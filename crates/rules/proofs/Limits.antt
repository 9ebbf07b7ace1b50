-- The limits of a state, which fresh sets and every call keeps, as one value; Q by them.
use Prim.Native.Nat.{ℕ}
use Rattle.rules.specs.Records.{State, probation_bound}

pub record Limits : Type 0 where
  pub max_entries : ℕ
  pub default_ttl : ℕ

abbrev pub limits_of : State → Limits
limits_of s = record { max_entries = s.max_entries; default_ttl = s.default_ttl }

abbrev pub max_of : Limits → ℕ
max_of l = l.max_entries

abbrev pub ttl_of : Limits → ℕ
ttl_of l = l.default_ttl

-- probation_limit s is probation_of (limits_of s)
abbrev pub probation_of : Limits → ℕ
probation_of l = probation_bound l.max_entries
