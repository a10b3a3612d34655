-- `device::registers::access_iac` meets its contract, by how the access ends.
use mathlib.Core.Path.{sym, ap, ◌∙◌}
use borrow.Author.Tests.{not-true, not-false}
use Rattle.iac.specs.declared.registers.Row.{Row}
use Rattle.device.specs.Layout.{state_of}
use Rattle.device.proofs.BlockSteps.{flags-misaligned, flags-none, flags-written, flags-refused, flags-rejected}
use Rattle.device.proofs.registers.access_iac.Goals as goal

pub returns-then-q-ne0 : goal.returns-then-q-ne0
returns-then-q-ne0 c =
    let a = c.args in
    let all = flags-misaligned (state_of a.state.now) a.q c.if-q-ne0.true in
    record { answer = all.0; next = all.1 }

pub returns-in_default : goal.returns-in_default
returns-in_default c =
    let a = c.args in
    let all = flags-none (state_of a.state.now) a.q c.if-q-ne0.false (sym c.register_at.ensures ∙ c.in_default.is) in
    record { answer = all.0; next = all.1 }

pub read_iac-requires : goal.read_iac-requires
read_iac-requires c =
    (not-true c.args.q.write c.if-not-q.true, c.if-q-ne0.false)

pub returns-then-not-q : goal.returns-then-not-q
returns-then-not-q c =
    record { answer = c.read_iac.ensures.answer; next = c.read_iac.ensures.next }

pub rewrite-requires : goal.rewrite-requires
rewrite-requires c =
    (ap (λ (r : Row). r.named) c.columns-row.ensures, c.load_word.ensures)

pub returns-in-Done : goal.returns-in-Done
returns-in-Done c =
    let a = c.args in
    let all = flags-written (state_of a.state.now) a.q (sym c.register_at.ensures ∙ c.in-Some.is) c.columns-row.ensures c.load_word.ensures c.access-answer.ensures
    c.in-Done.is (not-false a.q.write c.if-not-q.false) c.rewrite.ensures in
    record { answer = all.0; next = all.1 }

pub returns-in-Refused : goal.returns-in-Refused
returns-in-Refused c =
    let a = c.args in
    let all = flags-refused (state_of a.state.now) a.q (sym c.register_at.ensures ∙ c.in-Some.is) c.columns-row.ensures c.load_word.ensures c.access-answer.ensures
    c.in-Refused.is c.raise.ensures in
    record { answer = all.0; next = all.1 }

pub returns-in-Rejected : goal.returns-in-Rejected
returns-in-Rejected c =
    let a = c.args in
    let all = flags-rejected (state_of a.state.now) a.q (sym c.register_at.ensures ∙ c.in-Some.is) c.columns-row.ensures c.load_word.ensures c.access-answer.ensures
    c.in-Rejected.is in
    record { answer = all.0; next = all.1 }
