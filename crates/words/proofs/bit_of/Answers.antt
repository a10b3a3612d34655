use mathlib.Core.Path.{sym}
use Rattle.words.proofs.Laws.{bit_high}
use Rattle.words.proofs.bit_of.Goals as goal

pub returns-else-k-lt32 : goal.returns-else-k-lt32
returns-else-k-lt32 c = sym (bit_high 32 _ _ c.ranges.x.fits c.if-k-lt32.false)
