use Rattle.words.proofs.Masks.{merged-word}
use Rattle.rifsc.specs.Port.{accessed, word_written}
use Rattle.rifsc.proofs.port.Seen.accessed.Goals as goal

pub returns-in-Done : goal.returns-in-Done
unfolding accessed word_written
returns-in-Done c =
    simp (c.merge.ensures, c.taken-taken.ensures, merged-word, ← c.answer-answer.ensures, c.in-Done.is, c.if-q.true)
