-- verified_entry with an MTU is set_mtu of the one without, so the cases of mtu are its cases.
use mathlib.Core.Path.{◌∙◌}
use Rattle.verification.proofs.VerifiedRows.{entry_with_mtu}
use Rattle.verification.proofs.insert.verified_entry_of.Goals as goal

pub returns-in-Some : goal.returns-in-Some
returns-in-Some c =
    let e = c.plain_entry-e in
    (λ k f. entry_with_mtu k _ _ _ (e.ensures.0 k f) c.in-Some.is c.with_mtu.ensures.0, c.with_mtu.ensures.1 ∙ e.ensures.1)
