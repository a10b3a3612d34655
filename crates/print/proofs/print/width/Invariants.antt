-- `print::print::width` meets its contract: the digits counted and those left are all of them.
use mathlib.Core.Path.{◌≡◌}
use Prim.Native.Nat.{◌+◌, ◌≤◌}
use Rattle.print.specs.Print.{width_of}
use Rattle.print.proofs.print.width.Given as goal

abbrev pub invariant-loop-m : goal.invariant-loop-m
invariant-loop-m l = (l.k + width_of l.m ≡ width_of l.n + 1) × (width_of l.n ≤ 20)

abbrev pub decreases-loop-m : goal.decreases-loop-m
decreases-loop-m l = l.m
