-- `print::print::put_value` meets its contract: a single digit behind its zeros, or all eight.
use mathlib.Core.List.{append_assoc}
use Rattle.print.proofs.HexDigits.{single-digit}
use Rattle.print.proofs.Writing.{join}
use Rattle.print.proofs.print.put_value.Goals as goal

pub returns-then-value-lt10 : goal.returns-then-value-lt10
returns-then-value-lt10 c =
    rw (single-digit c.args.value c.if-value-lt10.true, append_assoc) (join c.put-a.ensures c.put_digits.ensures)
