use mathlib.Core.Path.{refl}
use Rattle.regions.specs.Admits.{by_bases}
use Rattle.regions.proofs.admits.by_bases.Goals as goal

pub returns : goal.returns
unfolding by_bases
returns c = refl
