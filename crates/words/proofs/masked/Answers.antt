use Rattle.words.proofs.Ops.{and_is}
use Rattle.words.proofs.masked.Goals as goal

pub returns : goal.returns
returns c = and_is 32 _ _ c.ranges.x.fits
