use mathlib.Core.Path.{refl}
use Rattle.regions.specs.Masks.{opening}
use Rattle.regions.proofs.masks.opening.Goals as goal

pub returns : goal.returns
unfolding opening
returns c = refl
