use mathlib.Core.Path.{refl}
use Rattle.regions.proofs.RightsBytes.{rights-join}
use Rattle.regions.proofs.rights.word.Goals as goal

pub returns : goal.returns
returns c = rights-join c.args.a 0 32 32 32 refl c.half.ensures c.half-2.ensures
