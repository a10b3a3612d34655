use Rattle.regions.specs.Admits.{verdict_of}
use Rattle.regions.proofs.rules.judged.Goals as goal

pub returns : goal.returns
unfolding verdict_of
returns c = simp c.reason-reason.ensures
