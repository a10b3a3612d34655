-- `response::sheet::put_rows` meets its contract: the rows so far, and then one more.
use mathlib.Core.Path.{◌≡◌}
use Prim.Native.Nat.{◌≤◌, ◌-◌}
use lib.ListN.{length}
use Rattle.print.specs.Parts.{Wrote}
use Rattle.spans.specs.Rows.{rows_in}
use Rattle.response.specs.Sheet.{span_lines}
use Rattle.response.proofs.sheet.put_rows.Given as goal

abbrev pub invariant-loop-k : goal.invariant-loop-k
invariant-loop-k l = Wrote l.initial.out l.at (span_lines (rows_in l.k l.map)) l.out l.p × (length l.out ≡ length l.initial.out) × (l.k ≤ l.count)

abbrev pub decreases-loop-k : goal.decreases-loop-k
decreases-loop-k l = l.count - l.k
