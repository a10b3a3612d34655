use borrow.Author.Tests.{eq-eqb, ne_eqb}
use Rattle.regions.specs.Admits.{by_regions}
use Rattle.regions.proofs.admits.by_regions.Goals as goal

pub returns-then-m-eq0 : goal.returns-then-m-eq0
unfolding by_regions
returns-then-m-eq0 c = simp (eq-eqb _ 0 c.if-m-eq0.true) c.by_bases.ensures

pub returns : goal.returns
unfolding by_regions
returns c =
    simp (ne_eqb _ 0 c.if-m-eq0.false, ← c.with_debugger-writes.ensures, ← c.with_debugger-reads.ensures) c.by_subs.ensures
