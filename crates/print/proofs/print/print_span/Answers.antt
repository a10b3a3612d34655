-- `print::print::print_span` meets its contract: its parts, one after the other, are the line.
use native.Mathlib.Omega.{arith}
use lib.ListN.{length-append}
use Rattle.print.specs.Print.{span_line}
use Rattle.print.proofs.Digits.{digits-length, span-length}
use Rattle.print.proofs.Writing.{join, part-ends, refused, whole}
use Rattle.print.proofs.print.print_span.Goals as goal

pub returns-then-saturating_sub-lt-SPAN_LENGTH : goal.returns-then-saturating_sub-lt-SPAN_LENGTH
returns-then-saturating_sub-lt-SPAN_LENGTH c =
    let a = c.args in
    let all = refused a.out.now a.at (span_line a.start a.end a.rights)
    (omega (arith, span-length a.start a.end a.rights)) in
    record { next = all.0; bytes = all.1 }

pub put_hex-c-requires : goal.put_hex-c-requires
put_hex-c-requires c =
    omega (arith, simp (length-append, digits-length) at (part-ends (join c.put-a.ensures c.put_hex-b.ensures)))

pub put_rights-requires : goal.put_rights-requires
put_rights-requires c =
    let w = join (join c.put-a.ensures c.put_hex-b.ensures) c.put_hex-c.ensures in
    omega (arith, simp (length-append, digits-length) at (part-ends w))

pub returns : goal.returns
unfolding span_line
returns c =
    let all = whole
    (join
    (join (join c.put-a.ensures c.put_hex-b.ensures) c.put_hex-c.ensures)
    c.put_rights.ensures) in
    record { next = all.0; bytes = all.1 }
