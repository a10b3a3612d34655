-- `script::fields::four` meets its contract.
use Prim.Native.Nat.{◌+◌}
use native.Mathlib.Omega.{arith}
use Rattle.script.proofs.fields.four.Goals as goal

pub overflow_mul-result : goal.overflow_mul-result
overflow_mul-result c = omega (arith, c.shared_slice_known-1.given c.args.from)

pub overflow_add-result-2 : goal.overflow_add-result-2
overflow_add-result-2 c =
    let k = c.shared_slice_known-2-1.given in
    let p = c.args.from in
    omega (arith, k p, k (p + 1))

pub overflow_add-result-4 : goal.overflow_add-result-4
overflow_add-result-4 c =
    let k = c.shared_slice_known-3-1.given in
    let p = c.args.from in
    omega (arith, k p, k (p + 1), k (p + 2))

pub overflow_add-result-6 : goal.overflow_add-result-6
overflow_add-result-6 c =
    let k = c.shared_slice_known-4-1.given in
    let p = c.args.from in
    omega (arith, k p, k (p + 1), k (p + 2), k (p + 3))

pub overflow_cast-result : goal.overflow_cast-result
overflow_cast-result c = omega (arith, c.shared_slice_known-1.given c.args.from)

pub overflow_cast-result-2 : goal.overflow_cast-result-2
overflow_cast-result-2 c = omega (arith, c.shared_slice_known-2-1.given (c.args.from + 1))

pub overflow_mul-result-2 : goal.overflow_mul-result-2
overflow_mul-result-2 c = omega (arith, c.shared_slice_known-2-1.given (c.args.from + 1))

pub overflow_cast-result-3 : goal.overflow_cast-result-3
overflow_cast-result-3 c = omega (arith, c.shared_slice_known-3-1.given (c.args.from + 2))

pub overflow_mul-result-3 : goal.overflow_mul-result-3
overflow_mul-result-3 c = omega (arith, c.shared_slice_known-3-1.given (c.args.from + 2))

pub overflow_cast-result-4 : goal.overflow_cast-result-4
overflow_cast-result-4 c = omega (arith, c.shared_slice_known-4-1.given (c.args.from + 3))
