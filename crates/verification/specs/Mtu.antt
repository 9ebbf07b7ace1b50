-- A path MTU that a verified insert sets, if it sets one.
use Rattle.std.specs.Prelude.{ℕ, Option, None, Some}
use Rattle.rules.specs.Records.{Entry}
use Rattle.rules.specs.Entries.{set_mtu}

abbrev pub given_mtu : Option ℕ → Entry → Entry
given_mtu None e = e
given_mtu (Some m) e = set_mtu m e
