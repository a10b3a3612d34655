use borrow.Author.Tests.{eq-eqb, ne_eqb}
use Rattle.regions.specs.Admits.{by_asked}
use Rattle.regions.proofs.admits.by_asked.Goals as goal

pub returns-then-m-ne1 : goal.returns-then-m-ne1
unfolding by_asked
returns-then-m-ne1 c = simp (ne_eqb _ 1 c.if-m-ne1.true) c.by_bases.ensures

pub returns : goal.returns
unfolding by_asked
returns c =
    simp (eq-eqb _ 1 c.if-m-ne1.false, ← c.all_if-open.ensures) c.by_subs.ensures
