-- `regions::scan::scanned` meets its contract. The loop's invariant: what the base regions passed say, and what they have ahead.
use mathlib.Core.Bool.{false}
use mathlib.Core.Path.{◌≡◌}
use Prim.Native.Nat.{◌≤◌, ◌-◌}
use Rattle.regions.specs.Ahead.{ahead}
use Rattle.regions.specs.Masks.{masks, openings}
use Rattle.regions.proofs.scan.scanned.Given as goal

abbrev pub invariant-loop-x : goal.invariant-loop-x
invariant-loop-x l = (l.x ≤ l.n) × (l.s.masks ≡ masks false openings l.w l.x l.o) × (l.s.to ≡ ahead l.w l.x l.o l.to)

abbrev pub decreases-loop-x : goal.decreases-loop-x
decreases-loop-x l = l.n - l.x
