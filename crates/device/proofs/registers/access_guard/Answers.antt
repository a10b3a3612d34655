-- `device::registers::access_guard` meets its contract, by how the access ends.
use mathlib.Core.Path.{ap, sym, ◌∙◌}
use borrow.Author.Tests.{not-true, not-false}
use Rattle.risaf.proofs.RowPlaces.{place-fits}
use Rattle.risaf.proofs.Shapes.{place-found}
use Rattle.device.specs.Layout.{state_of}
use Rattle.device.specs.State.{flagged}
use Rattle.device.proofs.GuardSteps.{register-no-guard, register-misaligned, register-unknown, register-answer, register-written, register-refused, register-rejected}
use Rattle.device.proofs.registers.access_guard.Goals as goal

pub read_guard-requires : goal.read_guard-requires
read_guard-requires c =
    not-true c.args.q.write c.if-not-q.true

pub returns-then-not-q : goal.returns-then-not-q
returns-then-not-q c =
    record { answer = c.read_guard.ensures.answer; next = c.read_guard.ensures.next }

pub returns-in_default : goal.returns-in_default
returns-in_default c =
    let a = c.args in
    let all = register-no-guard (state_of a.state.now) a.guard a.q (sym c.shape.ensures ∙ c.in_default.is) in
    record { answer = all.0; next = all.1 }

pub returns-then-q-ne0 : goal.returns-then-q-ne0
returns-then-q-ne0 c =
    let a = c.args in
    let all = register-misaligned (state_of a.state.now) a.guard a.q (sym c.shape.ensures ∙ c.in-Some.is) c.if-q-ne0.true in
    record { answer = all.0; next = all.1 }

pub returns-in_default-row_at : goal.returns-in_default-row_at
returns-in_default-row_at c =
    let a = c.args in
    let all = register-unknown (state_of a.state.now) a.guard a.q (sym c.shape.ensures ∙ c.in-Some.is) c.if-q-ne0.false
    (sym c.row_at.ensures ∙ c.in_default-row_at.is) in
    record { answer = all.0; next = all.1 }

pub of-place-requires : goal.of-place-requires
of-place-requires c =
    place-found c.args.guard.0 (sym c.shape.ensures ∙ c.in-Some.is)

pub store_word-requires : goal.store_word-requires
store_word-requires c =
    place-fits c.in-Some.shape.regions c.args.q.offset (sym c.row_at.ensures ∙ c.in-Some-row_at.is)

pub returns-in-Done : goal.returns-in-Done
returns-in-Done c =
    let a = c.args in
    let t = state_of a.state.now in
    let es = sym c.shape.ensures ∙ c.in-Some.is in
    let er = sym c.row_at.ensures ∙ c.in-Some-row_at.is in
    let ep = c.at-port.ensures ∙ rw (c.load_words.ensures, c.of-place.ensures) in
    let ea = c.access-answer.ensures in
    record { answer = register-answer t a.guard a.q es er ep ea; next = register-written t a.guard a.q es er ep ea c.in-Done.is (not-false a.q.write c.if-not-q.false) (c.store_word.ensures ∙ rw c.of-place.ensures) }

pub returns-in-Refused : goal.returns-in-Refused
returns-in-Refused c =
    let a = c.args in
    let t = state_of a.state.now in
    let es = sym c.shape.ensures ∙ c.in-Some.is in
    let er = sym c.row_at.ensures ∙ c.in-Some-row_at.is in
    let ep = c.at-port.ensures ∙ rw (c.load_words.ensures, c.of-place.ensures) in
    let ea = c.access-answer.ensures in
    record { answer = register-answer t a.guard a.q es er ep ea; next = register-refused t a.guard a.q es er ep ea c.in-Refused.is (c.raise.ensures ∙ ap (flagged _) (c.store_word-in-Refused.ensures ∙ rw c.of-place.ensures)) }

pub returns-in-Rejected : goal.returns-in-Rejected
returns-in-Rejected c =
    let a = c.args in
    let t = state_of a.state.now in
    let es = sym c.shape.ensures ∙ c.in-Some.is in
    let er = sym c.row_at.ensures ∙ c.in-Some-row_at.is in
    let ep = c.at-port.ensures ∙ rw (c.load_words.ensures, c.of-place.ensures) in
    let ea = c.access-answer.ensures in
    record { answer = register-answer t a.guard a.q es er ep ea; next = register-rejected t a.guard a.q es er ep ea c.in-Rejected.is }
