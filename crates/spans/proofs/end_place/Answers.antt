-- `spans::end_place` meets its contract: the rows are passed one after the other. Assumes nothing.
use Prim.Native.Nat.{◌+◌, ◌*◌}
use mathlib.Core.Path.{refl}
use native.Mathlib.Omega.{arith}
use Rattle.spans.proofs.Found.{ended-all, place-ended}
use Rattle.spans.proofs.end_place.Goals as goal

pub loop-k-preserved : goal.loop-k-preserved
loop-k-preserved c =
    let a = c.args in
    let row = c.loop-i.i + 3 * c.loop-k.k in
    place-ended a.map.now a.offset row (omega arith) c.loop-k.invariant c.if-offset-map.false (c.loop-i.i + 3 * (c.loop-k.k + 1)) (omega arith)

pub loop-i-2-preserved : goal.loop-i-2-preserved
loop-i-2-preserved c =
    let a = c.args in
    let i = c.loop-i-2.i in (
      omega (arith, c.loop-i-2.invariant.0),
      place-ended a.map.now a.offset i (omega arith) c.loop-i-2.invariant.1 c.if-offset-map-2.false (i + 3) refl,
    )

pub returns : goal.returns
returns c =
    let a = c.args in
    record {
      low = omega (arith, c.loop-i-2.invariant.0, c.loop-i-2.invariant.1.0);
      passed = ended-all a.map.now a.offset c.loop-i-2.i (omega arith) c.loop-i-2.invariant.1;
      found = λ h. absurd (omega (arith, h));
    }
