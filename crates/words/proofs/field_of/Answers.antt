use mathlib.Core.Path.{sym}
use native.Mathlib.Omega.{arith}
use Rattle.words.proofs.Laws.{field_past, field-rest}
use Rattle.words.proofs.Ops.{field_is, shl-one-pos}
use Rattle.words.proofs.field_of.Goals as goal

pub returns-then-at-ge32 : goal.returns-then-at-ge32
returns-then-at-ge32 c = sym (field_past 32 _ _ _ c.ranges.x.fits c.if-at-ge32.true)

pub returns-then-wide-ge32 : goal.returns-then-wide-ge32
returns-then-wide-ge32 c = sym (field-rest 32 _ _ _ c.ranges.x.fits (omega arith))

pub nonzero_rem-result : goal.nonzero_rem-result
nonzero_rem-result c = shl-one-pos 32 _ c.if-wide-ge32.false

pub returns : goal.returns
returns c = field_is 32 _ _ _ c.if-wide-ge32.false
