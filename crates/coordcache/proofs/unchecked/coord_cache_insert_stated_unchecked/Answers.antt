-- That the hint is stated is in the rules' call alone, so kind, key and path are treated as for any funded hint.
use Rattle.coordcache.proofs.ToldReplies.{told_funded}
use Rattle.coordcache.proofs.unchecked.coord_cache_insert_stated_unchecked.Goals as goal

pub returns : goal.returns
returns c = search told_funded
