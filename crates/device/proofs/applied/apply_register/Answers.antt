use borrow.Author.Rules.{rules}
use Rattle.device.specs.Step.{step}
use Rattle.device.specs.declared.event.Event.TheVariants.{Register}
use Rattle.device.proofs.Applies.{other_length, own-length}
use Rattle.device.proofs.applied.apply_register.Goals as goal

pub returns-in_default : goal.returns-in_default
returns-in_default c =
    let all = other_length (Register c.args.a) c.args.state.now c.in_default.ensures.cases in
    record { answer = all.0; next = all.1 }

pub returns : goal.returns
unfolding step
returns c =
    let u = c.access_register in
    let p = c.in-Some.ensures.cases in
    let all = own-length (Register c.args.a) c.args.state.now p.long p.same (search rules) u.ensures.answer u.ensures.next in
    record { answer = all.0; next = all.1 }
