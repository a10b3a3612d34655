-- `batches::batch` meets its contract. What the loop keeps is `Kept`: what is still to come, from here on, is what was to come on entry.
use Rattle.batch.proofs.BatchTurns.{Kept}
use Rattle.batch.proofs.batches.batch.Given as goal

abbrev pub invariant-loop-i : goal.invariant-loop-i
invariant-loop-i l = Kept l.fn.state l.list l.fn.answers l.i l.state l.answers
