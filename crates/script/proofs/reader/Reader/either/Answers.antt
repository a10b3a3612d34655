-- `script::reader::Reader::either` meets its contract: the next field starts behind the letter.
use Rattle.script.proofs.Told.{told}
use Rattle.script.proofs.Places.{starts-begin}
use Rattle.script.proofs.Readings.{either-next, split-first}
use Rattle.script.proofs.reader.Reader.either.Goals as goal

pub invariant_of-self : goal.invariant_of-self
invariant_of-self c = (either-next (starts-begin _ _ c.self.invariant) c.args.this c.args.that c.requires.0 c.requires.1 (told c.either_at.ensures c.in_ok-value.was)).within

pub returns-clause-next : goal.returns-clause-next
returns-clause-next c = rw (← c.self.view_is) (split-first _ (either-next (starts-begin _ _ c.self.invariant) c.args.this c.args.that c.requires.0 c.requires.1 (told c.either_at.ensures c.in_ok-value.was)))
