-- `response::line::obey_event` meets its contract: what `apply` gives, and its answer printed.
use Rattle.response.proofs.Written.{same_answer}
use Rattle.response.proofs.line.obey_event.Goals as goal

pub returns : goal.returns
returns c =
    let applied = c.apply-answer in
    record { wrote = same_answer applied.ensures.answer c.put_answer.ensures; state_after = applied.ensures.next }
