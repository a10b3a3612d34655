-- `diff::walk::walk` meets its contract. The loop's invariant is `Walked`: the memory has what differs below at over its front.
use Prim.Native.Nat.{◌-◌}
use Rattle.diff.proofs.Walked.{Walked}
use Rattle.diff.proofs.walk.walk.Given as goal

abbrev pub invariant-loop-at : goal.invariant-loop-at
invariant-loop-at l = Walked l.before l.after l.window l.initial.lent l.at l.i l.j l.count l.lent

abbrev pub decreases-loop-at : goal.decreases-loop-at
decreases-loop-at l = l.window - l.at
