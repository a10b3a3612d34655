-- `iac::port::Seen::answer` meets its contract: the first test that fails, with those before it passed.
use mathlib.Core.Path.{sym, ◌∙◌}
use Prim.Native.Nat.{◌%◌}
use borrow.Author.Tests.{eq-eqb, ne_eqb, not-true, not-false}
use Rattle.access.specs.Checks.{answered_with, reached_with}
use Rattle.iac.specs.Port.{answer_of, checks_of}
use Rattle.iac.proofs.PortLaws.{read_is}
use Rattle.iac.proofs.port.Seen.answer.Goals as goal

pub returns-then-not-q : goal.returns-then-not-q
returns-then-not-q c =
    let a = c.args in
    c.read.ensures ∙ sym (read_is a.row a.self.word a.q (not-true a.q.write c.if-not-q.true))

pub returns-then-q-ne0 : goal.returns-then-q-ne0
unfolding answer_of checks_of answered_with
returns-then-q-ne0 c = simp (ne_eqb (c.args.q.offset % 4) 0 c.if-q-ne0.true)

pub returns-then-not-admits : goal.returns-then-not-admits
unfolding answer_of checks_of answered_with reached_with
returns-then-not-admits c =
    simp (eq-eqb (c.args.q.offset % 4) 0 c.if-q-ne0.false, sym c.admits.ensures ∙ c.if-not-admits.true)

pub returns-then-not-row : goal.returns-then-not-row
unfolding answer_of checks_of answered_with reached_with
returns-then-not-row c =
    let q = c.args.q in
    simp (not-false q.write c.if-not-q.false, eq-eqb (q.offset % 4) 0 c.if-q-ne0.false, sym c.admits.ensures ∙ c.if-not-admits.false, not-true c.args.row.writable c.if-not-row.true)

pub returns : goal.returns
unfolding answer_of checks_of answered_with reached_with
returns c =
    let q = c.args.q in
    simp (not-false q.write c.if-not-q.false, eq-eqb (q.offset % 4) 0 c.if-q-ne0.false, sym c.admits.ensures ∙ c.if-not-admits.false, not-false c.args.row.writable c.if-not-row.false)
