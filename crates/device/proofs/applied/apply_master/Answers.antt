use borrow.Author.Rules.{rules}
use mathlib.Core.Path.{◌∙◌, sym}
use Rattle.device.specs.Step.{step}
use Rattle.device.specs.declared.event.Event.TheVariants.{Master}
use Rattle.device.proofs.Applies.{other_length, own-length}
use Rattle.device.proofs.MasterAnswers.{no-master}
use Rattle.device.proofs.applied.apply_master.Goals as goal

pub returns-in_default : goal.returns-in_default
returns-in_default c =
    let all = other_length (Master c.args.a) c.args.state.now c.in_default.ensures.cases in
    record { answer = all.0; next = all.1 }

pub returns-then-not-exists : goal.returns-then-not-exists
returns-then-not-exists c =
    let all = no-master c.args.a c.args.state.now c.in-Some.ensures.cases.long (sym c.exists.ensures ∙ c.if-not-exists.true) in
    record { answer = all.0; next = c.in-Some.ensures.cases.same ∙ all.1 }

pub returns : goal.returns
unfolding step
returns c =
    let u = c.access_memory.ensures in
    let k = c.carried-kind.ensures in
    let l = c.load_attributes.ensures in
    let x = sym c.exists.ensures ∙ c.if-not-exists.false in
    let p = c.in-Some.ensures.cases in
    let all = own-length (Master c.args.a) c.args.state.now p.long p.same (search rules) (u.answer ∙ rw (k, l, x)) (u.next ∙ rw (k, l, x)) in
    record { answer = all.0; next = all.1 }
