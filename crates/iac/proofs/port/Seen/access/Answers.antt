use Rattle.iac.specs.Port.{accessed_at}
use Rattle.iac.proofs.PortLaws.{read_none}
use Rattle.iac.proofs.port.Seen.access.Goals as goal

pub returns-in_default : goal.returns-in_default
unfolding accessed_at
returns-in_default c =
    let a = c.args in
    simp (c.in_default.is, c.read-answer.ensures, ← read_none a.self.word a.q)
