-- `response::line::put_bad` meets its contract: there is room for the line.
use native.Mathlib.Omega.{arith}
use Rattle.print.specs.Bytes.{bytes}
use Rattle.response.proofs.Written.{labelled}
use Rattle.response.proofs.line.put_bad.Goals as goal

pub returns : goal.returns
returns c =
    let p = c.print_bad in
    labelled (bytes "bad\t") c.args.number (omega arith) (omega (arith, c.requires)) p.ensures.next p.ensures.bytes
