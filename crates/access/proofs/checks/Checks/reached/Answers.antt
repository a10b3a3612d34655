-- The tests that the check is not deep enough for.
use borrow.Author.Tests.{not-true, not-false}
use Rattle.access.specs.Checks.{reached_with}
use Rattle.access.proofs.checks.Checks.reached.Goals as goal

pub returns-then-not-self-4 : goal.returns-then-not-self-4
unfolding reached_with
returns-then-not-self-4 c =
    let s = c.args.self in
    rw (
      not-false s.known c.if-not-self.false,
      not-false s.allowed c.if-not-self-2.false,
      not-false s.direction c.if-not-self-3.false,
      not-true s.unlocked c.if-not-self-4.true,
    )

pub returns : goal.returns
unfolding reached_with
returns c =
    let s = c.args.self in
    rw (
      not-false s.known c.if-not-self.false,
      not-false s.allowed c.if-not-self-2.false,
      not-false s.direction c.if-not-self-3.false,
      not-false s.unlocked c.if-not-self-4.false,
    )
