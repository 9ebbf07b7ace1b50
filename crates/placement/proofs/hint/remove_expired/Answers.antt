-- A found row that is not expired gives HeldAt; an expired one, taken out, gives NewIn; these are the cases of place_hint.
use mathlib.Core.Path.{sym, ap, ◌∙◌}
use Rattle.rules.specs.Records.{Row}
use Rattle.rules.specs.Entries.{expired}
use Rattle.placement.proofs.PlacedHints.{held_here, new_expired}
use Rattle.placement.proofs.hint.remove_expired.Goals as goal

pub returns-in-Ok : goal.returns-in-Ok
returns-in-Ok c =
    new_expired _ _ _ _ c.requires (sym c.search.ensures ∙ c.in-Ok.is) _
    (sym (c.is_expired.ensures ∙ ap (λ (r : Row). expired c.args.hint.now.time r.entry) c.row_at.ensures) ∙ c.if-is_expired.true) c.remove_row.auto.state c.remove_row.ensures

pub returns-in-Ok-2 : goal.returns-in-Ok-2
returns-in-Ok-2 c =
    held_here _ _ _ _ c.requires (sym c.search.ensures ∙ c.in-Ok.is)
    (sym (c.is_expired.ensures ∙ ap (λ (r : Row). expired c.args.hint.now.time r.entry) c.row_at.ensures) ∙ c.if-is_expired.false)
