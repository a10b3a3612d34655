-- `print::print::print_labelled` meets its contract: its parts, one after the other, are the line.
use native.Mathlib.Omega.{arith}
use Rattle.print.specs.Print.{decimal_text, label_line}
use Rattle.print.proofs.Digits.{label-length}
use Rattle.print.proofs.Writing.{join, refused, whole}
use Rattle.print.proofs.print.print_labelled.Goals as goal

pub returns-then-saturating_sub-label : goal.returns-then-saturating_sub-label
returns-then-saturating_sub-label c =
    let a = c.args in
    let all = refused a.out.now a.at (label_line a.label.now a.n) (omega (arith, label-length a.label.now a.n)) in
    record { next = all.0; bytes = all.1 }

pub returns : goal.returns
unfolding decimal_text label_line
returns c =
    rw (← c.width-count.ensures.0)
    (let all = (whole (join c.put-a.ensures c.put_digits.ensures)) in record { next = all.0; bytes = all.1 })
