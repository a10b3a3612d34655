use mathlib.Core.Path.{◌≡◌}
use Prim.Native.Nat.{◌≤◌, ◌-◌}
use Rattle.words.specs.Bit.{bit}
use Rattle.regions.specs.Masks.{some_enabled}
use Rattle.regions.proofs.masks.none_enabled.Given as goal

abbrev pub invariant-loop-x : goal.invariant-loop-x
invariant-loop-x l = (l.x ≤ 11) × (bit l.some 0 ≡ some_enabled l.w l.x)

abbrev pub decreases-loop-x : goal.decreases-loop-x
decreases-loop-x l = 11 - l.x
