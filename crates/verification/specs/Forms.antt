-- The two forms of a verified insert, as one with a path MTU or without.
use Rattle.std.specs.Prelude.{ℕ, Option, None, Some}
use Rattle.types.specs.declared.node_addr.NodeAddr.{NodeAddr}
use Rattle.types.specs.declared.coord.Path.{Path}
use Rattle.rules.specs.Calls.{Call, InsertVerified, InsertVerifiedWithPathMtu}

-- the call that sets this MTU, or none
abbrev pub verified_call : NodeAddr → Path → ℕ → Option ℕ → Call
verified_call k p t None = InsertVerified k p t
verified_call k p t (Some m) = InsertVerifiedWithPathMtu k p t m
