use Rattle.words.proofs.Ops.{or_is}
use Rattle.words.proofs.united.Goals as goal

pub returns : goal.returns
returns c = or_is 32 _ _ c.ranges.x.fits c.ranges.y.fits
