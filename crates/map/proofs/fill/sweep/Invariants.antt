-- `map::fill::sweep` meets its contract. The loop's invariant is `Swept`: the memory has the map of the offsets below at over its front. The
-- inner loop's is that whatever memory it had so when the inner loop began, it has so now.
use mathlib.Core.List.{List}
use Prim.Native.Nat.{ℕ, ◌-◌, ◌≤◌}
use Rattle.regions.specs.Rights.{rights_word}
use Rattle.spans.specs.Sweep.{bounds_of}
use Rattle.spans.proofs.Fill.{Swept}
use Rattle.map.specs.Bounds.{pairs_of}
use Rattle.map.proofs.fill.sweep.Given as goal

abbrev pub invariant-loop-at-2 : goal.invariant-loop-at-2
invariant-loop-at-2 l =
    (l.initial.at ≤ l.at)
    × ((m : List ℕ) → Swept (rights_word l.bus l.w l.n) (bounds_of (pairs_of l.w l.n)) l.window m l.initial.at l.initial.count l.initial.lent
    → Swept (rights_word l.bus l.w l.n) (bounds_of (pairs_of l.w l.n)) l.window m l.at l.count l.lent)

abbrev pub decreases-loop-at-2 : goal.decreases-loop-at-2
decreases-loop-at-2 l = l.to - l.at

abbrev pub invariant-loop-at : goal.invariant-loop-at
invariant-loop-at l = Swept (rights_word l.bus l.w l.n) (bounds_of (pairs_of l.w l.n)) l.window l.initial.lent l.at l.count l.lent

abbrev pub decreases-loop-at : goal.decreases-loop-at
decreases-loop-at l = l.window - l.at
