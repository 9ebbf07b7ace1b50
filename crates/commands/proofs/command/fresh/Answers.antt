-- Done, fresh makes the state sound; refused by 5, it leaves the state and whether it was sound.
use mathlib.Core.Path.{refl, ap}
use native.Mathlib.Omega.{arith}
use mathlib.Core.Bool.{◌||◌}
use Rattle.rules.proofs.MemoryLaws.{all_bytes}
use Rattle.rules.proofs.Sizes.{small8}
use Rattle.commands.proofs.CommandLaws.{fresh_answers}
use Rattle.commands.proofs.command.fresh.Goals as goal

pub returns : goal.returns
returns c =
    let n = c.fresh-answer.ensures in
    fresh_answers c.args.state.now c.args.max c.args.ttl _ c.requires (all_bytes c.args.state.now (λ j. (c.slice_known-1.given j).fits)) (small8 c.args.max (omega arith)) (small8 c.args.ttl (omega arith)) n.0 n.1 c.reply.ensures refl (ap (λ b. c.args.is_sound || b) c.is_ok.ensures.value)
