-- A kind up to 1 names the funding with which the rules' call is made.
use Rattle.coordcache.proofs.ToldReplies.{told_funded}
use Rattle.coordcache.proofs.unchecked.coord_cache_insert_funded_unchecked.Goals as goal

pub returns : goal.returns
returns c = search told_funded
