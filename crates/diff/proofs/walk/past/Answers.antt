-- `diff::walk::past` meets its contract.
use borrow.Author.Tests.{lt-ltb, le-ltb}
use Rattle.diff.specs.Put.{past_row}
use Rattle.diff.proofs.walk.past.Goals as goal

pub returns-then-rows-i : goal.returns-then-rows-i
unfolding past_row
returns-then-rows-i c = simp (lt-ltb _ _ c.if-rows-i.true)

pub returns : goal.returns
unfolding past_row
returns c = simp (le-ltb _ _ c.if-rows-i.false)
