-- A command read from bytes, by value, as a command of Commands.
use Rattle.std.specs.Prelude.{ℕ, List, Option, None, Some, cond, eqb}
use Rattle.types.specs.declared.placed.Funding.{Funding}
use Rattle.types.specs.declared.placed.Funding.TheVariants.{Upto, Uncharged}
use Rattle.rules.specs.Cases.{maybe}
use Rattle.rules.specs.Calls as Rules
use Rattle.rules.specs.Refusals.{Asked}
use Rattle.rules.specs.Refusals as Request
use Rattle.rules.specs.Commands.{WithPath, Plain, codes, code_of, reads, decode, kind_in, amount_in}
use Rattle.rules.specs.Commands as Said
use Rattle.types.specs.declared.coord.Path.{Path}
use Rattle.commands.specs.declared.call.Write.{Write}
use Rattle.commands.specs.declared.call.Write.TheVariants.{Insert, InsertWithTtl, InsertFunded, InsertStated, InsertVerified, InsertVerifiedWithPathMtu}
use Rattle.commands.specs.declared.call.Call.{Call}
use Rattle.commands.specs.declared.call.Call.TheVariants.{Get, GetAndTouch, Remove, Demote, ClearPathMtu, PurgeExpired, Clear, InvalidateViaNode, InvalidateOtherRoots, Stats, NextExpiry}
use Rattle.commands.specs.declared.call.Command.{Command}
use Rattle.commands.specs.declared.call.Command.TheVariants.{Fresh, Element, Write as Writes, Call as Calls}

-- a call, of the path that it takes
unfoldable pub write_named : Write → Path → Rules.Call
write_named (Insert k t) p = Rules.Insert k p t
write_named (InsertWithTtl k t l) p = Rules.InsertWithTtl k p t l
write_named (InsertFunded k t f) p = Rules.InsertFunded k p t f
write_named (InsertStated k t f) p = Rules.InsertStated k p t f
write_named (InsertVerified k t) p = Rules.InsertVerified k p t
write_named (InsertVerifiedWithPathMtu k t m) p = Rules.InsertVerifiedWithPathMtu k p t m

unfoldable pub call_named : Call → Rules.Call
call_named (Get k t) = Rules.Get k t
call_named (GetAndTouch k t) = Rules.GetAndTouch k t
call_named (Remove k) = Rules.Remove k
call_named (Demote k) = Rules.Demote k
call_named (ClearPathMtu k) = Rules.ClearPathMtu k
call_named (PurgeExpired t) = Rules.PurgeExpired t
call_named Clear = Rules.Clear
call_named (InvalidateViaNode a) = Rules.InvalidateViaNode a
call_named (InvalidateOtherRoots a) = Rules.InvalidateOtherRoots a
call_named (Stats t) = Rules.Stats t
call_named NextExpiry = Rules.NextExpiry

unfoldable pub command_named : Command → Said.Command
command_named (Fresh m l) = Plain (Request.Fresh m l)
command_named (Element e) = Said.Element e
command_named (Writes w) = WithPath (λ s. write_named w s.pending)
command_named (Calls q) = Plain (Asked (call_named q))

unfoldable pub named : Option Command → Option Said.Command
named o = maybe o None (λ x. Some (command_named x))

-- the funding that a kind names; none over 1
unfoldable pub funding_in : List ℕ → Option Funding
funding_in o = cond (eqb (kind_in o) 0) (Some Uncharged) (cond (eqb (kind_in o) 1) (Some (Upto (amount_in o))) None)

-- what the operands o of the byte b say
unfoldable pub command_in : ℕ → List ℕ → Option Said.Command
command_in b o = maybe (code_of b codes) None (λ c. reads c o)

-- the command that starts with the byte b, of the bytes behind it
unfoldable pub command_read : ℕ → List ℕ → Option Said.Command
command_read b bs = maybe (decode b bs) None (λ d. Some d.command)
