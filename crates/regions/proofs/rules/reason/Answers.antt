use mathlib.Core.Path.{sym, ◌∙◌}
use borrow.Author.Tests.{eq-eqb, ne_eqb}
use Rattle.regions.proofs.Reasons.{for-security, for-privilege, for-compartment, for-none}
use Rattle.regions.proofs.rules.reason.Goals as goal

pub returns-then-not-admits_security : goal.returns-then-not-admits_security
returns-then-not-admits_security c =
    let s = c.admits_security in
    let a = c.args in
    for-security a.a a.k (sym s.ensures ∙ c.if-not-admits_security.true)

pub returns-then-k-a : goal.returns-then-k-a
returns-then-k-a c =
    let s = c.admits_security in
    let a = c.args in
    for-privilege a.a a.k (sym s.ensures ∙ c.if-not-admits_security.false) c.if-k-a.true

pub returns-then-open_to-cid-eq1 : goal.returns-then-open_to-cid-eq1
returns-then-open_to-cid-eq1 c =
    let s = c.admits_security in
    let a = c.args in
    for-none a.a a.k (sym s.ensures ∙ c.if-not-admits_security.false) c.if-k-a.false
    (rw (← c.open_to.ensures) (eq-eqb _ 1 c.if-open_to-cid-eq1.true))

pub returns : goal.returns
returns c =
    let s = c.admits_security in
    let a = c.args in
    for-compartment a.a a.k (sym s.ensures ∙ c.if-not-admits_security.false) c.if-k-a.false
    (rw (← c.open_to.ensures) (ne_eqb _ 1 c.if-open_to-cid-eq1.false))
