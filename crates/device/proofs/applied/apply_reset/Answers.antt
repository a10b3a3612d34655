use borrow.Author.Rules.{rules}
use mathlib.Core.Path.{refl}
use Rattle.device.specs.Step.{step}
use Rattle.device.specs.declared.event.Event.TheVariants.{Reset}
use Rattle.device.proofs.Applies.{other_length, own-length}
use Rattle.device.proofs.applied.apply_reset.Goals as goal

pub returns-in_default : goal.returns-in_default
returns-in_default c =
    let all = other_length Reset c.args.state.now c.in_default.ensures.cases in
    record { answer = all.0; next = all.1 }

pub returns : goal.returns
unfolding step
returns c =
    let p = c.in-Some.ensures.cases in
    let all = own-length Reset c.args.state.now p.long p.same (search rules) refl c.reset.ensures in
    record { answer = all.0; next = all.1 }
