-- `script::fields::begins` meets its contract: what is left to compare decides.
use mathlib.Core.Path.{◌≡◌}
use Prim.Native.Nat.{◌+◌, ◌≤◌}
use lib.ListN.{length}
use Rattle.script.proofs.Begins.{left}
use Rattle.script.proofs.fields.begins.Given as goal

abbrev pub invariant-loop-i : goal.invariant-loop-i
invariant-loop-i l = (l.from + length l.keyword ≤ length l.line) × (left l.line l.from l.keyword l.i ≡ left l.line l.from l.keyword 0)
