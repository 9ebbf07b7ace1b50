-- The rules touch and then find what get finds in the memory after it, which is still sound; so the part found there gives the reply.
use Rattle.rules.proofs.Sizes.{small8}
use Rattle.rules.proofs.MemoryLaws.{all_bytes}
use Rattle.coordcache.proofs.ToldLookups.{part_there, place_told_lem, touched_told}
use Rattle.coordcache.proofs.unchecked.coord_cache_get_and_touch_unchecked.Goals as goal

pub returns : goal.returns
returns c =
    let bytes = all_bytes c.args.state.now (λ i. (c.slice_known-1.given i).fits) in
    search (touched_told, part_there, place_told_lem, small8)
