-- `print::print::put_digits` meets its contract: the digits written, with those left, are all of them.
use lib.ListN.{length-set}
use Rattle.print.proofs.Digits.{all_left, decimal-is, none_left, one_less}
use Rattle.print.proofs.print.put_digits.Goals as goal

pub loop-k-init : goal.loop-k-init
loop-k-init c = all_left _ _ _ _ _

pub loop-k-preserved : goal.loop-k-preserved
loop-k-preserved c = one_less c.loop-k.invariant c.requires c.loop-k-test.true (decimal-is c.loop-k.m)

pub shape_of-out : goal.shape_of-out
shape_of-out c = simp length-set c.loop-k.invariant.long

pub returns : goal.returns
returns c = none_left _ c.loop-k.invariant c.requires c.loop-k-test.false
