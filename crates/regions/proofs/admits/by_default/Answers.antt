use Rattle.regions.specs.Admits.{by_default}
use Rattle.regions.proofs.admits.by_default.Goals as goal

pub returns : goal.returns
unfolding by_default
returns c = simp c.defaults-compartments.ensures
