-- The conjunction is false for a key in main or fewer than M main rows; else the key's row is outside main and room_can_be_made does not count it.
use Rattle.verification.proofs.NoPlace.{made_place}
use Rattle.verification.proofs.no_place.no_place_for.Goals as goal

pub returns : goal.returns
returns c =
    made_place _ _ _ c.key_in_main.ensures c.if-key_in_main.false c.main_len.ensures c.main_bound-bound.ensures
    c.if-main_len-bound.false c.weight.ensures c.room_can_be_made.ensures
