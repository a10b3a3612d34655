-- `script::reader::Reader::hex` meets its contract: the next field starts behind eight digits.
use Rattle.script.proofs.Told.{told}
use Rattle.script.proofs.Places.{starts-begin}
use Rattle.script.proofs.Readings.{hex-next, split-first}
use Rattle.script.proofs.reader.Reader.hex.Goals as goal

pub invariant_of-self : goal.invariant_of-self
invariant_of-self c = (hex-next (starts-begin _ _ c.self.invariant) (told c.hex_at.ensures c.in_ok-value.was)).within

pub returns-clause-next : goal.returns-clause-next
returns-clause-next c = rw (← c.self.view_is) (split-first _ (hex-next (starts-begin _ _ c.self.invariant) (told c.hex_at.ensures c.in_ok-value.was)))
