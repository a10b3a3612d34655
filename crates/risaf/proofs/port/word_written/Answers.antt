use Rattle.risaf.specs.Port.{word_in}
use Rattle.words.proofs.Masks.{united-masked, less-masked}
use Rattle.risaf.proofs.port.word_written.Goals as goal

pub returns-in-SetByOne : goal.returns-in-SetByOne
unfolding word_in
returns-in-SetByOne c = simp (c.united.ensures, c.masked.ensures, c.in-SetByOne.is, united-masked)

pub returns-in-ClearedByOne : goal.returns-in-ClearedByOne
unfolding word_in
returns-in-ClearedByOne c = simp (c.without.ensures, c.masked-in-ClearedByOne.ensures, c.in-ClearedByOne.is, less-masked)
