-- `print::print::width` meets its contract: the digits counted and those left are all of them.
use native.Mathlib.Omega.{arith}
use Rattle.print.proofs.Digits.{width_one, width-more, width-bound}
use Rattle.print.proofs.print.width.Goals as goal

pub loop-m-init : goal.loop-m-init
loop-m-init c = (omega arith, width-bound 19 c.args.n (omega arith))

pub loop-m-preserved : goal.loop-m-preserved
loop-m-preserved c = (omega (arith, width-more c.loop-m.m c.loop-m-test.true), c.loop-m.invariant.1)

pub returns : goal.returns
returns c = omega (arith, width_one c.loop-m.m c.loop-m-test.false)
