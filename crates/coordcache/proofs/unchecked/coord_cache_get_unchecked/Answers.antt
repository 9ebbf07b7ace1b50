-- The reply follows from how many bytes the part has.
use Rattle.coordcache.proofs.ToldLookups.{got_told}
use Rattle.coordcache.proofs.unchecked.coord_cache_get_unchecked.Goals as goal

pub returns-clause-told : goal.returns-clause-told
returns-clause-told c = search got_told
