use Rattle.words.proofs.Ops.{merge-is}
use Rattle.words.proofs.merge.Goals as goal

pub returns : goal.returns
returns c = merge-is 32 _ _ _ c.ranges.mask.fits
