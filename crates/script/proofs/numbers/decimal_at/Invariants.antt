-- `script::numbers::decimal_at` meets its contract: what is read so far and the rest of the field say what the whole field says.
use mathlib.Core.Path.{◌≡◌}
use Prim.Native.Nat.{◌≤◌}
use Rattle.script.specs.Numbers.{number_most}
use Rattle.script.specs.Places.{decimal_at}
use Rattle.script.proofs.DecimalAt.{reads_on}
use Rattle.script.proofs.numbers.decimal_at.Given as goal

abbrev pub invariant-loop-i : goal.invariant-loop-i
invariant-loop-i l = (l.n ≤ number_most) × (reads_on l.line l.n l.i ≡ decimal_at l.line l.from)
