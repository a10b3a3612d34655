-- `spans::end_place` meets its contract: the rows are passed one after the other. Assumes nothing.
use Prim.Native.Nat.{◌+◌, ◌-◌, ◌*◌, ◌≤◌}
use lib.ListN.{length}
use Rattle.spans.specs.Passed.{Passed}
use Rattle.spans.proofs.end_place.Given as goal

abbrev pub invariant-loop-i : goal.invariant-loop-i
invariant-loop-i l = (l.from ≤ l.i) × Passed l.map l.offset l.i

abbrev pub decreases-loop-i : goal.decreases-loop-i
decreases-loop-i l = length l.map - l.i

abbrev pub invariant-loop-k : goal.invariant-loop-k
invariant-loop-k l = Passed l.map l.offset (l.i + 3 * l.k)

abbrev pub invariant-loop-i-2 : goal.invariant-loop-i-2
invariant-loop-i-2 l = (l.from ≤ l.i) × Passed l.map l.offset l.i

abbrev pub decreases-loop-i-2 : goal.decreases-loop-i-2
decreases-loop-i-2 l = length l.map - l.i
