-- `map::fill::sweep` meets its contract. The loop's invariant is `Swept`: the memory has the map of the offsets below at over its front. The
-- inner loop's is that whatever memory it had so when the inner loop began, it has so now.
use Prim.Native.Nat.{◌≤◌}
use native.Mathlib.Omega.{arith}
use Rattle.regions.specs.Words.{most_regions}
use Rattle.spans.proofs.Fill.{swept-begin, swept-turn, swept-end}
use Rattle.map.proofs.Steady.{bounds-most}
use Rattle.map.proofs.Turns.{ActiveFrom, active-from}
use Rattle.map.proofs.fill.sweep.Goals as goal
use Rattle.map.proofs.fill.sweep.Goals.{After-active_at-active}

-- over the regions that are active from here on a sweep may turn
from-here : (c : After-active_at-active) → ActiveFrom c.args.bus c.args.w.now c.args.n c.args.window c.loop-at.at c.active_at-active.result
from-here c = active-from c.args.bus c.args.w.now c.args.n c.args.window c.loop-at.at c.requires.0 c.requires.1 c.loop-at-test.true c.active_at-active.ensures

few : (c : After-active_at-active)
    → let r = c.active_at-active.result in
    (r.low ≤ most_regions) × (r.high ≤ most_regions)
few c = let r = from-here c in (omega (arith, r.low, r.high, c.requires.0), omega (arith, r.high, c.requires.0))

pub loop-at-init : goal.loop-at-init
loop-at-init c = swept-begin _ _ _ _

pub overflow_mul-part : goal.overflow_mul-part
overflow_mul-part c =
    record { fits = omega (arith, (few (goal.at.overflow_mul-part c).After-active_at-active).0) }

pub overflow_mul-part-in-loop-at : goal.overflow_mul-part-in-loop-at
overflow_mul-part-in-loop-at c =
    record { fits = omega (arith, (few (goal.at.overflow_mul-part-in-loop-at c).After-active_at-active).1) }

pub offset_bounds-w-low : goal.offset_bounds-w-low
offset_bounds-w-low c =
    record { fits = omega (arith, (few (goal.at.offset_bounds-w-low c).After-active_at-active).0) }

pub slice_bounds-part-count : goal.slice_bounds-part-count
slice_bounds-part-count c =
    omega (arith, (from-here (goal.at.slice_bounds-part-count c).After-active_at-active).low)

pub slice_bounds-part-start : goal.slice_bounds-part-start
slice_bounds-part-start c =
    omega (arith, (from-here (goal.at.slice_bounds-part-start c).After-active_at-active).low)

pub slice_bounds-part-end : goal.slice_bounds-part-end
slice_bounds-part-end c =
    omega (arith, (from-here (goal.at.slice_bounds-part-end c).After-active_at-active).high, c.requires.1)

pub loop-at-2-init : goal.loop-at-2-init
loop-at-2-init c = (omega arith, λ l s. s)

pub loop-at-smaller : goal.loop-at-smaller
loop-at-smaller c =
    omega (arith, (from-here (goal.at.loop-at-smaller c).After-active_at-active).past, c.loop-at-2-test.false, c.loop-at-test.true)

pub loop-at-preserved : goal.loop-at-preserved
loop-at-preserved c = c.loop-at-2.invariant.1 _ c.loop-at.invariant

pub overflow_sub-high : goal.overflow_sub-high
overflow_sub-high c =
    (from-here (goal.at.overflow_sub-high c).After-active_at-active).low

pub overflow_cast-at-in-loop-at-2 : goal.overflow_cast-at-in-loop-at-2
overflow_cast-at-in-loop-at-2 c =
    record { fits = omega (arith, (from-here (goal.at.overflow_cast-at-in-loop-at-2 c).After-active_at-active).within, c.loop-at-2-test.true, c.requires.2) }

pub overflow_sub-stretch : goal.overflow_sub-stretch
overflow_sub-stretch c =
    let goes = (from-here (goal.at.overflow_sub-stretch c).After-active_at-active).turn c.loop-at-2.at c.loop-at-2.invariant.0 c.loop-at-2-test.true c.stretch_at-stretch.ensures.to_value in
    omega (arith, goes.past)

pub loop-at-2-smaller : goal.loop-at-2-smaller
loop-at-2-smaller c =
    let goes = (from-here (goal.at.loop-at-2-smaller c).After-active_at-active).turn c.loop-at-2.at c.loop-at-2.invariant.0 c.loop-at-2-test.true c.stretch_at-stretch.ensures.to_value in
    omega (arith, goes.past, c.loop-at-2-test.true)

pub loop-at-2-preserved : goal.loop-at-2-preserved
loop-at-2-preserved c =
    let r = from-here (goal.at.loop-at-2-preserved c).After-active_at-active in
    let goes = r.turn c.loop-at-2.at c.loop-at-2.invariant.0 c.loop-at-2-test.true c.stretch_at-stretch.ensures.to_value in
    let p = c.put-count.ensures in (
      omega (arith, goes.past, c.loop-at-2.invariant.0),
      λ m w.
          swept-turn (c.loop-at-2.invariant.1 m w)
          (omega (arith, bounds-most c.args.w.now c.args.n c.requires.0, w.long, c.loop-at.invariant.long, c.requires.3))
          (omega (arith, r.within, c.loop-at-2-test.true)) goes
          (r.rights c.loop-at-2.at c.loop-at-2.invariant.0 c.loop-at-2-test.true c.stretch_at-stretch.ensures.rights_value) p.value p.lent_after,
    )

pub shape_of-lent : goal.shape_of-lent
shape_of-lent c = c.loop-at.invariant.long

pub returns : goal.returns
returns c =
    let all = swept-end c.loop-at.invariant c.loop-at-test.false in
    record { value = all.0; lent_after = all.1 }
