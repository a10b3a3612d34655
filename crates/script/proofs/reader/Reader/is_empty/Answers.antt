-- `script::reader::Reader::is_empty` meets its contract: past the line's end there is no field.
use Rattle.script.proofs.Readings.{all-read}
use Rattle.script.proofs.reader.Reader.is_empty.Goals as goal

pub returns : goal.returns
returns c = rw (← c.self.view_is) (all-read _ _ c.self.invariant)
