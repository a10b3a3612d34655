-- `print::print::put_digits` meets its contract: the digits written, with those left, are all of them.
use Rattle.print.proofs.Digits.{Left}
use Rattle.print.proofs.print.put_digits.Given as goal

abbrev pub invariant-loop-k : goal.invariant-loop-k
invariant-loop-k l = Left 10 l.initial.out l.at l.n l.count l.out l.m l.k
