-- `print::print::put_rights` meets its contract: eight digits, and eight more.
use mathlib.Core.List.{append_assoc}
use native.Mathlib.Omega.{arith}
use Rattle.print.proofs.HexDigits.{sixteen-digits}
use Rattle.print.proofs.Writing.{join, part-ends}
use Rattle.print.proofs.print.put_rights.Goals as goal

pub put_hex-requires : goal.put_hex-requires
put_hex-requires c = omega (arith, part-ends c.put-a.ensures)

pub returns : goal.returns
returns c =
    let a = c.args in
    rw (sixteen-digits a.rights, append_assoc, ← c.hex_digits.ensures) (join c.put-a.ensures c.put_hex.ensures)
