use Rattle.iac.proofs.HeldLaws.{fresh-is}
use Rattle.iac.proofs.held.fresh.Goals as goal

pub returns : goal.returns
returns c = simp (c.masked-2.ensures, c.masked.ensures, fresh-is)
