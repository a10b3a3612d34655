-- `diff::walk::walk` meets its contract. The loop's invariant is `Walked`: the memory has what differs below at over its front.
use native.Mathlib.Omega.{arith}
use borrow.Author.Rules.{rules}
use Rattle.diff.proofs.Reached.{row-held, row_within}
use Rattle.diff.proofs.Walked.{walked-begin, turn-to, turn-room, walked-turn, walked_end}
use Rattle.diff.proofs.walk.walk.Goals as goal

pub loop-at-init : goal.loop-at-init
loop-at-init c = let p = c.requires in walked-begin _ _ _ _ p.0 p.1

pub overflow_add-i : goal.overflow_add-i
overflow_add-i c = omega (arith, row-held c.loop-at.invariant.old c.loop-at-test.true)

pub bounds-before-i : goal.bounds-before-i
bounds-before-i c = omega (arith, row-held c.loop-at.invariant.old c.loop-at-test.true)

pub overflow_add-before : goal.overflow_add-before
overflow_add-before c = omega (arith, row_within c.loop-at.invariant.old c.loop-at-test.true)

pub overflow_add-j : goal.overflow_add-j
overflow_add-j c = omega (arith, row-held c.loop-at.invariant.new c.loop-at-test.true)

pub bounds-after-j : goal.bounds-after-j
bounds-after-j c = omega (arith, row-held c.loop-at.invariant.new c.loop-at-test.true)

pub overflow_add-after : goal.overflow_add-after
overflow_add-after c = omega (arith, row_within c.loop-at.invariant.new c.loop-at-test.true)

pub overflow_add-i-in-loop-at : goal.overflow_add-i-in-loop-at
overflow_add-i-in-loop-at c = omega (arith, row-held c.loop-at.invariant.old c.loop-at-test.true)

pub bounds-before-i-in-loop-at : goal.bounds-before-i-in-loop-at
bounds-before-i-in-loop-at c = omega (arith, row-held c.loop-at.invariant.old c.loop-at-test.true)

pub overflow_add-j-in-loop-at : goal.overflow_add-j-in-loop-at
overflow_add-j-in-loop-at c = omega (arith, row-held c.loop-at.invariant.new c.loop-at-test.true)

pub bounds-after-j-in-loop-at : goal.bounds-after-j-in-loop-at
bounds-after-j-in-loop-at c = omega (arith, row-held c.loop-at.invariant.new c.loop-at-test.true)

pub offset_bounds-before-i : goal.offset_bounds-before-i
offset_bounds-before-i c = search (rules, row-held c.loop-at.invariant.old c.loop-at-test.true)

pub offset_bounds-after-j : goal.offset_bounds-after-j
offset_bounds-after-j c = search (rules, row-held c.loop-at.invariant.new c.loop-at-test.true)

pub offset_bounds-before-i-in-loop-at : goal.offset_bounds-before-i-in-loop-at
offset_bounds-before-i-in-loop-at c = search (rules, row-held c.loop-at.invariant.old c.loop-at-test.true)

pub offset_bounds-after-j-in-loop-at : goal.offset_bounds-after-j-in-loop-at
offset_bounds-after-j-in-loop-at c = search (rules, row-held c.loop-at.invariant.new c.loop-at-test.true)

pub overflow_sub-to : goal.overflow_sub-to
overflow_sub-to c =
    omega (arith, (turn-to c.loop-at.invariant c.loop-at-test.true c.near-to.ensures).above)

pub put-count-requires : goal.put-count-requires
put-count-requires c =
    let p = c.requires in
    turn-room c.loop-at.invariant c.loop-at-test.true c.near-to.ensures p.2 p.3 p.4

pub past-i-requires : goal.past-i-requires
past-i-requires c =
    row-held c.loop-at.invariant.old c.loop-at-test.true

pub past-j-requires : goal.past-j-requires
past-j-requires c =
    row-held c.loop-at.invariant.new c.loop-at-test.true

pub loop-at-smaller : goal.loop-at-smaller
loop-at-smaller c =
    omega (arith, (turn-to c.loop-at.invariant c.loop-at-test.true c.near-to.ensures).above)

pub loop-at-preserved : goal.loop-at-preserved
loop-at-preserved c =
    let p = c.requires in
    rw (c.past-i.ensures, c.past-j.ensures)
    (walked-turn c.loop-at.invariant c.loop-at-test.true c.near-to.ensures p.2 p.3 p.4 c.put-count.ensures.value c.put-count.ensures.lent_after)

pub shape_of-lent : goal.shape_of-lent
shape_of-lent c = c.loop-at.invariant.long

pub returns : goal.returns
returns c =
    let all = walked_end c.loop-at.invariant c.loop-at-test.false in
    record { value = all.0; lent_after = all.1 }
