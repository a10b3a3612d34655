use borrow.Author.Tests.{eq-eqb, ne_eqb}
use Rattle.regions.specs.Admits.{with_debugger}
use Rattle.regions.proofs.admits.with_debugger.Goals as goal

pub returns-then-mask-eq0 : goal.returns-then-mask-eq0
unfolding with_debugger
returns-then-mask-eq0 c = rw (eq-eqb c.args.mask 0 c.if-mask-eq0.true)

pub returns : goal.returns
unfolding with_debugger
returns c = rw (ne_eqb c.args.mask 0 c.if-mask-eq0.false)
