use mathlib.Core.Bool.{true, false}
use native.Mathlib.Omega.{arith}
use Rattle.regions.specs.Admits.{byte_at}
use Rattle.regions.proofs.RightsBytes.{rights-join, rights-lt}
use Rattle.regions.proofs.rights.half.Goals as goal

pub overflow_mul-result : goal.overflow_mul-result
overflow_mul-result c = omega (arith, rights-lt _ _ 16 c.pair.ensures)

pub overflow_add-result : goal.overflow_add-result
overflow_add-result c = omega (arith, rights-lt _ _ 16 c.pair.ensures, rights-lt _ _ 16 c.pair-2.ensures)

pub returns : goal.returns
returns c =
    let a = c.args in
    rights-join a.a (byte_at false false a.secure) (byte_at false true a.secure) 16 16
    (omega arith) c.pair.ensures c.pair-2.ensures
