-- The funding kind among the operands of commands 0x12 and 0x13: 0 and 1 name a funding, and one over 1 makes no command.
use mathlib.Core.Path.{◌≡◌, refl}
use Prim.Native.Nat.{ℕ}
use mathlib.Core.List.{List}
use Rattle.std.specs.Prelude.{None, Some}
use mathlib.Core.Bool.{Bool, true, false, cond}
use lib.Dec.{eqb}
use Rattle.types.specs.declared.node_addr.NodeAddr.{NodeAddr}
use Rattle.types.specs.declared.sender.Sender.{Sender}
use Rattle.types.specs.declared.placed.Funding.{Funding}
use Rattle.types.specs.declared.placed.Funding.TheVariants.{Upto, Uncharged}
use Rattle.rules.specs.Cases.{maybe}
use Rattle.rules.specs.Calls.{Call}
use Rattle.rules.specs.Commands.{WithPath, funded, key_in, time_in, kind_in, amount_in, code, codes, code_of, read_as}
use Rattle.commands.specs.declared.call.Write.TheVariants.{InsertFunded, InsertStated}
use Rattle.commands.specs.declared.call.Command.TheVariants.{Write as Writes}
use Rattle.commands.specs.Reading.{named, command_named, write_named, command_in, funding_in}

-- what the rules read is a call with the funding that is read
pub funded_is : (o : List ℕ) (f : Funding → Sender → Call) → funded o f ≡ maybe (funding_in o) None (λ x. Some (WithPath (f x)))
unfolding funded funding_in
funded_is o f = go (eqb (kind_in o) 0) (eqb (kind_in o) 1)
  where
    go : (a b : Bool) → cond a (Some (WithPath (f Uncharged))) (cond b (Some (WithPath (f (Upto (amount_in o))))) None)
        ≡ maybe (cond a (Some Uncharged) (cond b (Some (Upto (amount_in o))) None)) None (λ x. Some (WithPath (f x)))
    go true b = refl
    go false true = refl
    go false false = refl

-- the two commands, of a key, a time and a funding as they are read
module _ (o : List ℕ) {k : NodeAddr} {t : ℕ} {f : Funding} (e : k ≡ key_in o) (u : t ≡ time_in o) (h : Some f ≡ funding_in o) where
  pub insert_funded_read : named (Some (Writes (InsertFunded k t f))) ≡ command_in 18 o
  unfolding named command_named write_named command_in code_of codes code read_as
  insert_funded_read = rw (funded_is, ← h, e, u)

  pub insert_stated_read : named (Some (Writes (InsertStated k t f))) ≡ command_in 19 o
  unfolding named command_named write_named command_in code_of codes code read_as
  insert_stated_read = rw (funded_is, ← h, e, u)

pub ruleset funding_read = (funded_is, insert_funded_read, insert_stated_read)
