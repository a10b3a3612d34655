use borrow.Author.Tests.{eq-eqb, ne_eqb}
use Rattle.regions.specs.Admits.{by_masks}
use Rattle.regions.proofs.admits.by_masks.Goals as goal

pub returns-then-m-ne1 : goal.returns-then-m-ne1
unfolding by_masks
returns-then-m-ne1 c = simp (ne_eqb _ 1 c.if-m-ne1.true) c.by_default.ensures

pub returns : goal.returns
unfolding by_masks
returns c = simp (eq-eqb _ 1 c.if-m-ne1.false) c.by_regions.ensures
