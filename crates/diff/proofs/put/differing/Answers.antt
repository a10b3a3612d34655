-- `diff::put::differing` meets its contract: the ones of old xor new are the bits that differ.
use borrow.Author.Rules.{rules}
use native.Mathlib.Omega.{arith}
use lib.Bits.{bit_xor, xor_lt}
use lib.Count.{ones-le}
use Rattle.diff.specs.Bits.{rights_bits}
use Rattle.diff.proofs.Ones.{ones-differ}
use Rattle.diff.proofs.put.differing.Goals as goal

pub overflow_cast-result : goal.overflow_cast-result
overflow_cast-result c =
    let a = c.args in
    let small = ones-le rights_bits (bit_xor a.old a.new) (xor_lt rights_bits a.old a.new (omega arith) (omega arith)) in
    search (rules, small)

pub returns : goal.returns
returns c = ones-differ c.args.old c.args.new (omega arith) (omega arith)
