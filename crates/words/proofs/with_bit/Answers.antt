use mathlib.Core.Path.{sym}
use Rattle.words.proofs.Masks.{with_bit-high}
use Rattle.words.proofs.Ops.{clear-is, set_is}
use Rattle.words.proofs.with_bit.Goals as goal

pub returns-then-k-ge32 : goal.returns-then-k-ge32
returns-then-k-ge32 c = sym (with_bit-high 32 _ _ _ c.ranges.x.fits c.if-k-ge32.true)

pub returns-then-b : goal.returns-then-b
returns-then-b c = rw c.if-b.true (set_is 32 _ _ c.ranges.x.fits c.if-k-ge32.false)

pub returns-else-b : goal.returns-else-b
returns-else-b c = rw c.if-b.false (clear-is 32 _ _ c.if-k-ge32.false)
