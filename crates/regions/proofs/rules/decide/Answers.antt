use mathlib.Core.Path.{refl, ap, sym, ◌∙◌}
use borrow.Author.Tests.{lt-leb}
use Rattle.access.proofs.Heard.{heard-cid}
use Rattle.access.specs.declared.kind.Kind.{Kind}
use Rattle.regions.specs.Admits.{governed}
use Rattle.regions.specs.Lent.{decided_in}
use Rattle.regions.specs.Rules.{reason_of, tests0}
use Rattle.regions.proofs.Askings.{governed-default, governed_some}
use Rattle.regions.proofs.Enough.{from-enough, decided-enough}
use Rattle.regions.proofs.rules.decide.Goals as goal

pub returns-then-not-enough : goal.returns-then-not-enough
unfolding decided_in
returns-then-not-enough c = rw (← c.enough.ensures, c.if-not-enough.true) refl

pub returns-then-k : goal.returns-then-k
unfolding decided_in
returns-then-k c =
    simp (← c.enough.ensures, c.if-not-enough.false, lt-leb _ _ c.if-k.true)

pub governed-requires : goal.governed-requires
governed-requires c =
    let a = c.args in
    let e = from-enough a.w.now a.n (sym c.enough.ensures ∙ c.if-not-enough.false) in
    (e.0, e.1, rw c.hears-heard.ensures (heard-cid a.bus a.k c.if-k.false))

pub default_reason-requires : goal.default_reason-requires
default_reason-requires c =
    let a = c.args in
    rw c.hears-heard.ensures (heard-cid a.bus a.k c.if-k.false)

pub returns-in-Some : goal.returns-in-Some
returns-in-Some c =
    let a = c.args in
    let e = from-enough a.w.now a.n (sym c.enough.ensures ∙ c.if-not-enough.false) in
    governed_some a.bus a.w.now a.n a.o a.k
    (ap (governed a.w.now a.n a.o) (sym c.hears-heard.ensures) ∙ sym c.governed.ensures ∙ c.in-Some.is)
    ∙ sym (decided-enough a.bus a.w.now a.n a.o e.0 e.1 a.k c.if-k.false)

pub returns : goal.returns
returns c =
    let a = c.args in
    let e = from-enough a.w.now a.n (sym c.enough.ensures ∙ c.if-not-enough.false) in
    governed-default a.bus a.w.now a.n a.o a.k
    (ap (governed a.w.now a.n a.o) (sym c.hears-heard.ensures) ∙ sym c.governed.ensures ∙ c.in_default.is)
    (c.default_reason.ensures ∙ ap (λ (k : Kind). reason_of (tests0 a.bus k)) c.hears-heard.ensures)
    ∙ sym (decided-enough a.bus a.w.now a.n a.o e.0 e.1 a.k c.if-k.false)
