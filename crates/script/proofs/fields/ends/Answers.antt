-- `script::fields::ends` meets its contract.
use borrow.Author.Tests.{lt-ltb, le-ltb}
use Rattle.script.proofs.fields.ends.Goals as goal

pub returns-then-place-line : goal.returns-then-place-line
returns-then-place-line c = rw (lt-ltb _ _ c.if-place-line.true)

pub returns : goal.returns
returns c = rw (le-ltb _ _ c.if-place-line.false)
