use Rattle.words.proofs.Masks.{less-masked}
use Rattle.iac.specs.Port.{word_written}
use Rattle.iac.proofs.port.word_written.Goals as goal

pub returns-in-Icr : goal.returns-in-Icr
unfolding word_written
returns-in-Icr c = simp (c.without.ensures, c.masked.ensures, c.iisr-in-Icr.ensures, c.in-Icr.is) (less-masked 32 _ _ _)
