use Rattle.words.proofs.Ops.{less-is}
use Rattle.words.proofs.without.Goals as goal

pub returns : goal.returns
returns c = less-is 32 _ _ c.ranges.mask.fits
