-- `print::print::put_hex` meets its contract: the digits, and the byte behind them.
use native.Mathlib.Omega.{arith}
use Rattle.print.proofs.Writing.{join, one}
use Rattle.print.proofs.print.put_hex.Goals as goal

pub returns : goal.returns
returns c =
    rw (← c.hex_digits.ensures) (join c.put-a.ensures (one _ _ _ (omega arith)))
