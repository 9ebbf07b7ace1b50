-- A refusal of the write is the call's; without one, Stands tells the key's row, and its field placed equates place_hint with place_held or place_new.
use mathlib.Core.Path.{◌∙◌}
use Rattle.rules.proofs.MemoryLaws.{all_bytes}
use Rattle.refusals.proofs.WriteRefusals.{passed}
use Rattle.placement.proofs.PlacedHints.{allowed, writable, hint_refused, held_asks, new_asks, held_placed, new_placed}
use Rattle.placement.proofs.hint.place_hint.Goals as goal

pub returns-in_err-write_refusal : goal.returns-in_err-write_refusal
returns-in_err-write_refusal c = hint_refused _ _ _ c.requires c.write_refusal.ensures (c.in_err-write_refusal.was {u = tt}) c.from_residual.ensures.1

pub invariant_of-hint : goal.invariant_of-hint
invariant_of-hint c = record { writable = writable (passed _ _ c.write_refusal.ensures (c.in_ok-write_refusal.was)) }

pub place_held-requires : goal.place_held-requires
place_held-requires c = held_asks (allowed c.requires c.write_refusal.ensures c.in_ok-write_refusal.was c.row_count-n.ensures) (c.in-At.ensures {u = tt})

pub place_new-requires : goal.place_new-requires
place_new-requires c = new_asks (allowed c.requires c.write_refusal.ensures c.in_ok-write_refusal.was c.row_count-n.ensures) (c.in-New.ensures {u = tt})

pub returns-in-At : goal.returns-in-At
returns-in-At c =
    held_placed (allowed c.requires c.write_refusal.ensures c.in_ok-write_refusal.was c.row_count-n.ensures) (all_bytes _ (λ i. (c.type_inv.state i).fits))
    (c.place_held.auto.state ∙ c.remove_expired.auto.state) (c.in-At.ensures {u = tt}) c.place_held.ensures

pub returns-in-New : goal.returns-in-New
returns-in-New c =
    new_placed (allowed c.requires c.write_refusal.ensures c.in_ok-write_refusal.was c.row_count-n.ensures) (all_bytes _ (λ i. (c.type_inv.state i).fits))
    (c.place_new.auto.state ∙ c.remove_expired.auto.state) (c.in-New.ensures {u = tt}) c.place_new.ensures
