use mathlib.Core.Path.{◌≡◌}
use Prim.Native.Nat.{◌≤◌, ◌-◌}
use Rattle.device.specs.Layout.{state_of}
use Rattle.device.specs.State.{with_guards}
use Rattle.device.proofs.ResetGuards.{reset_below, numbers}
use Rattle.device.proofs.reset.reset.Given as goal

abbrev pub invariant-loop-n : goal.invariant-loop-n
invariant-loop-n l = (l.n ≤ numbers) × (state_of l.state ≡ with_guards (state_of l.initial.state) (reset_below l.n (state_of l.initial.state).guards))

abbrev pub decreases-loop-n : goal.decreases-loop-n
decreases-loop-n l = numbers - l.n
