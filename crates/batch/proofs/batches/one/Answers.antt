use mathlib.Core.Path.{ap}
use lib.ListN.{set}
use Rattle.batch.proofs.batches.one.Goals as goal

pub returns : goal.returns
returns c =
    let u = c.memory_encoded-answer in
    let a = c.args in
    (u.ensures.next, ap (set a.answers.now a.i) u.ensures.answer)
