-- `spans::near` meets its contract. Assumes nothing.
use borrow.Author.Tests.{lt-ltb, le-ltb}
use mathlib.Core.Logic.{⊎_elim}
use native.Mathlib.Omega.{arith}
use Rattle.spans.proofs.Order.{below_or}
use Rattle.spans.proofs.near.Goals as goal

pub returns-then-at-boundary : goal.returns-then-at-boundary
returns-then-at-boundary c =
    let a = c.args in
    ⊎_elim
    (λ l. simp (lt-ltb a.at a.boundary c.if-at-boundary.true, lt-ltb a.boundary a.nearest l) (omega arith))
    (λ l. simp (lt-ltb a.at a.boundary c.if-at-boundary.true, le-ltb a.boundary a.nearest l) (omega arith))
    (below_or a.boundary a.nearest)

pub returns : goal.returns
returns c = simp (le-ltb _ _ c.if-at-boundary.false)
