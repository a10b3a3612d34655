-- `print::print::print_answer` meets its contract: its parts, one after the other, are the line.
use native.Mathlib.Omega.{arith}
use lib.ListN.{length-append}
use Rattle.print.specs.Print.{answer_line, decimal_text}
use Rattle.print.proofs.Digits.{answer-length, digits-length}
use Rattle.print.proofs.Writing.{join, part-ends, refused, whole}
use Rattle.print.proofs.print.print_answer.Goals as goal

pub returns-then-saturating_sub-count : goal.returns-then-saturating_sub-count
returns-then-saturating_sub-count c =
    let a = c.args in
    let all = refused a.out.now a.at (answer_line a.number a.value) (omega (arith, answer-length a.number a.value)) in
    record { next = all.0; bytes = all.1 }

pub put_value-requires : goal.put_value-requires
put_value-requires c =
    omega (arith, simp (length-append, digits-length) at (part-ends (join c.put-a.ensures c.put_digits-b.ensures)))

pub returns : goal.returns
unfolding decimal_text answer_line
returns c =
    rw (← c.width-count.ensures.0)
    (let all = (whole (join (join c.put-a.ensures c.put_digits-b.ensures) c.put_value.ensures)) in record { next = all.0; bytes = all.1 })
