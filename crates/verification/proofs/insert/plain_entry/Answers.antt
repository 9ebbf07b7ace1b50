-- The search decides as find does in verified_entry: update of the row found, or new_entry; mark_verified follows in both cases.
use mathlib.Core.Path.{◌∙◌, ap}
use Rattle.memory.proofs.Fields.{same_head}
use Rattle.verification.proofs.VerifiedRows.{entry_held}
use Rattle.rules.specs.Records.{Row}
use Rattle.rules.specs.Entries.{update}
use Rattle.verification.proofs.insert.plain_entry.Goals as goal

pub returns-in-Ok : goal.returns-in-Ok
returns-in-Ok c =
    let ttl = c.default_ttl-ttl.ensures ∙ (same_head 0 c.args.n c.args.state.now).default_ttl in
    (λ k e. entry_held k _ _ _ e ttl c.in-Ok.is (c.updated_entry.ensures.0 ∙ ap (λ (r : Row). update c.args.path c.args.time c.default_ttl-ttl.result r.entry) c.row_at.ensures) c.verified_entry.ensures.0, c.verified_entry.ensures.1 ∙ c.updated_entry.ensures.1)
