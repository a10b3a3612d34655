-- `response::sheet::put_answer` meets its contract: there is room for an answer.
use Rattle.response.proofs.Written.{answered}
use Rattle.response.proofs.sheet.put_answer.Goals as goal

pub returns : goal.returns
returns c =
    let p = c.print_answer in
    answered c.args.answer c.requires c.number.ensures
    c.value.ensures p.ensures.next p.ensures.bytes
