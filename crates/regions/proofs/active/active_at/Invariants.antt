-- `regions::active::active_at` meets its contract. The loop's invariant: those of the base regions passed.
use mathlib.Core.Path.{◌≡◌}
use Prim.Native.Nat.{◌≤◌, ◌-◌}
use Rattle.regions.specs.Active.{active}
use Rattle.regions.proofs.active.active_at.Given as goal

abbrev pub invariant-loop-x : goal.invariant-loop-x
invariant-loop-x l = (l.x ≤ l.n) × (l.a ≡ active l.w l.x l.o l.to)

abbrev pub decreases-loop-x : goal.decreases-loop-x
decreases-loop-x l = l.n - l.x
