use borrow.Author.Tests.{eq-eqb, ne_eqb}
use mathlib.Core.Path.{refl}
use lib.Dec.{lit<}
use Rattle.device.specs.Applied.{line_answer}
use Rattle.device.specs.Layout.{line_part, state_of}
use Rattle.device.proofs.StateLayout.{head-word}
use Rattle.device.proofs.applied.interrupt_line.Goals as goal

pub returns-in_default : goal.returns-in_default
unfolding line_answer
returns-in_default c = simp (ne_eqb _ _ c.in_default.ensures.cases)

pub returns : goal.returns
unfolding line_answer state_of
returns c =
    let p = c.in-Some.ensures.cases in
    simp (eq-eqb _ _ p.long, c.bit_of.ensures, p.same, head-word c.args.state.now line_part (lit< tt) refl)
