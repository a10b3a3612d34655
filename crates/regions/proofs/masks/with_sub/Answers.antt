use native.Mathlib.Omega.{arith}
use mathlib.Core.Path.{refl}
use Rattle.words.proofs.Laws.{field_lt}
use Rattle.regions.proofs.masks.with_sub.Goals as goal

pub overflow_shr-result : goal.overflow_shr-result
overflow_shr-result c = omega (arith, c.srcid-srcid.ensures, field_lt c.args.sub 4 3)

pub returns : goal.returns
returns c =
    simp (c.with_sub_privileged.ensures, c.srcid-srcid.ensures) refl
