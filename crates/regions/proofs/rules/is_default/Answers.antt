use Rattle.regions.proofs.AdmitsTests.{default-bit}
use Rattle.regions.proofs.rules.is_default.Goals as goal

pub returns : goal.returns
returns c = rw c.defaults.ensures (default-bit c.args.bus c.args.k c.requires)
