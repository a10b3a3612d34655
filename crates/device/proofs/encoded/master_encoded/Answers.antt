use mathlib.Core.Path.{◌∙◌, ap, sym}
use Rattle.access.specs.Answer.{encoded_of}
use Rattle.device.specs.declared.event.Event.TheVariants.{Master}
use Rattle.device.proofs.Applies.{other_length}
use Rattle.device.proofs.MasterAnswers.{no-master, master-answer, master-state}
use Rattle.device.proofs.encoded.master_encoded.Goals as goal

pub returns-in_default : goal.returns-in_default
returns-in_default c =
    let r = other_length (Master c.args.a) c.args.state.now c.in_default.ensures.cases in
    record { answer = c.encoded.ensures ∙ ap encoded_of r.0; next = r.1 }

pub returns-then-not-exists : goal.returns-then-not-exists
returns-then-not-exists c =
    let r = no-master c.args.a c.args.state.now c.in-Some.ensures.cases.long (sym c.exists.ensures ∙ c.if-not-exists.true) in
    record { answer = c.encoded-then-not-exists.ensures ∙ ap encoded_of r.0; next = r.1 }

pub returns : goal.returns
returns c =
    let a = c.args.a in
    let m = c.args.state.now in
    let u = c.memory_encoded.ensures in
    let k = c.carried-kind.ensures in
    let l = c.load_attributes.ensures in
    let s = c.in-Some.ensures.cases.same in
    let e = sym c.exists.ensures ∙ c.if-not-exists.false in
    record { answer = u.answer ∙ rw (k, l, s) (ap encoded_of (master-answer a m e)); next = u.next ∙ rw (k, l, s) (master-state a m e) }
