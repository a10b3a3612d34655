-- `diff::put::continues` meets its contract.
use Rattle.diff.proofs.Added.{continues-first, continues-later, continues-at}
use Rattle.diff.proofs.put.continues.Goals as goal

pub returns-then-count-eq0 : goal.returns-then-count-eq0
returns-then-count-eq0 c = let a = c.args in continues-first a.lent.now a.count a.start a.old a.new c.if-count-eq0.true

pub returns-then-start-end : goal.returns-then-start-end
returns-then-start-end c =
    let a = c.args in
    continues-later a.lent.now a.count a.start a.old a.new c.if-start-end.true

pub returns : goal.returns
returns c =
    let a = c.args in
    continues-at a.lent.now a.count a.start a.old a.new c.if-count-eq0.false c.if-start-end.false
