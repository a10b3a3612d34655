use mathlib.Core.Bool.{true, false}
use native.Mathlib.Omega.{arith}
use Rattle.regions.specs.Admits.{byte_at}
use Rattle.regions.proofs.RightsBytes.{rights-join, rights-lt}
use Rattle.regions.proofs.rights.pair.Goals as goal

pub overflow_mul-result : goal.overflow_mul-result
overflow_mul-result c = omega (arith, rights-lt _ _ 8 c.byte.ensures)

pub overflow_add-result : goal.overflow_add-result
overflow_add-result c = omega (arith, rights-lt _ _ 8 c.byte.ensures, rights-lt _ _ 8 c.byte-2.ensures)

pub returns : goal.returns
returns c =
    let a = c.args in
    rights-join a.a (byte_at false a.privileged a.secure) (byte_at true a.privileged a.secure) 8 8
    (omega arith) c.byte.ensures c.byte-2.ensures
