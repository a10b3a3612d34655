-- `spans::row_place` meets its contract: a row that does not end before the offset encloses it, or begins past it. Assumes nothing.
use Prim.Native.Nat.{◌+◌, ◌-◌, ◌≤◌, ◌<◌}
use lib.ListN.{length, get_or}
use Rattle.spans.specs.Passed.{Passed}
use Rattle.spans.proofs.row_place.Given as goal

abbrev pub invariant-loop-i : goal.invariant-loop-i
invariant-loop-i l = Passed l.map l.offset l.i × (l.i < length l.map → (l.i + 3 ≤ length l.map) × (l.offset ≤ get_or l.map (l.i + 1) 0))

abbrev pub decreases-loop-i : goal.decreases-loop-i
decreases-loop-i l = length l.map - l.i
