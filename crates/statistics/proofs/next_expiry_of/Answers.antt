-- The least of the numbers that the rows give is the smallest expiry, and there is none where there are no rows.
use mathlib.Core.Path.{◌∙◌, sym}
use Rattle.std.proofs.lemmas.Iterator.Adapters.{option_map_id}
use Rattle.std.proofs.Common.{rules, tests}
use Rattle.std.proofs.lemmas.Iterator.{YieldsList-from_map}
use Rattle.std.proofs.lemmas.Iterator.Consumers.{min_from_yields_List, YieldsList-from_first, YieldsList-at}
use Rattle.statistics.proofs.Means.{expiry, expiry_least}
use Rattle.statistics.proofs.next_expiry_of.Goals as goal

pub returns : goal.returns
returns c = sym (option_map_id c.min.result) ∙ min_from_yields_List c.map.result _ c.min.ensures.ran (YieldsList-from_map _ expiry (YieldsList-at c.map.ensures.source (YieldsList-from_first (λ x. x) (λ s. s) _ c.of.ensures.rows)) c.map.ensures.closure (λ x r q k. search (rules, tests))) ∙ expiry_least _
