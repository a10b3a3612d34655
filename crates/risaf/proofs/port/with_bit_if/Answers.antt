use native.Mathlib.Omega.{arith}
use Rattle.risaf.proofs.PortLaws.{bit_kept, bit-dropped}
use Rattle.risaf.proofs.port.with_bit_if.Goals as goal

pub returns-then-may : goal.returns-then-may
returns-then-may c = rw c.if-may.true (bit_kept 32 c.args.bits c.args.k (omega arith))

pub returns : goal.returns
returns c = simp (c.with_bit.ensures, c.if-may.false) (bit-dropped 32 c.args.bits c.args.k)
