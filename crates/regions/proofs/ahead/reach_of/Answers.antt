-- `regions::ahead::reach_of` meets its contract: each return is a way that the offset lies.
use borrow.Author.Rules.{rules}
use mathlib.Core.Path.{ap}
use borrow.Author.Tests.{eq-eqb, ne_eqb, lt-ltb, le-ltb}
use Rattle.regions.specs.Ahead.{reach_of}
use Rattle.regions.specs.declared.ahead.Reach.TheVariants.{Inside, Outside}
use Rattle.regions.proofs.ahead.reach_of.Goals as goal

pub returns-then-w-p-ne1 : goal.returns-then-w-p-ne1
unfolding reach_of
returns-then-w-p-ne1 c = simp (ne_eqb _ _ c.if-w-p-ne1.true)

pub returns-then-o-w : goal.returns-then-o-w
unfolding reach_of
returns-then-o-w c = simp (eq-eqb _ _ c.if-w-p-ne1.false, lt-ltb _ _ c.if-o-w.true) (ap Outside (search rules))

pub returns-then-w-p : goal.returns-then-w-p
unfolding reach_of
returns-then-w-p c = simp (eq-eqb _ _ c.if-w-p-ne1.false, le-ltb _ _ c.if-o-w.false, lt-ltb _ _ c.if-w-p.true)

pub returns : goal.returns
unfolding reach_of
returns c =
    simp (eq-eqb _ _ c.if-w-p-ne1.false, le-ltb _ _ c.if-o-w.false, le-ltb _ _ c.if-w-p.false) (ap Inside (search rules))
