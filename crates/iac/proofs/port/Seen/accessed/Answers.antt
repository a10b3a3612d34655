use Rattle.iac.specs.Port.{accessed}
use Rattle.iac.proofs.port.Seen.accessed.Goals as goal

pub returns-in-Done : goal.returns-in-Done
unfolding accessed
returns-in-Done c =
    simp (c.word_written.ensures, ← c.answer-answer.ensures, c.in-Done.is, c.if-q.true)
