use Rattle.regions.specs.Admits.{by_subs}
use Rattle.regions.proofs.admits.by_subs.Goals as goal

pub returns : goal.returns
unfolding by_subs
returns c = simp c.all_if-closed.ensures
