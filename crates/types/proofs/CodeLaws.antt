-- The code of a source, and back.
use mathlib.Core.Path.{◌≡◌, refl}
use Rattle.types.specs.declared.entry.CoordSource.{CoordSource}
use Rattle.types.specs.declared.entry.CoordSource.TheVariants.{Verified, Hint}
use Rattle.types.specs.Values.{source_code, source_of}

pub source_back : (s : CoordSource) → source_of (source_code s) ≡ s
unfolding source_code source_of
source_back Verified = refl
source_back Hint = refl
