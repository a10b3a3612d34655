-- `print::print::print_diff` meets its contract: its parts, one after the other, are the line.
use native.Mathlib.Omega.{arith}
use lib.ListN.{length-append}
use Rattle.print.specs.Print.{decimal_text, diff_line}
use Rattle.print.proofs.Digits.{diff-length, digits-length}
use Rattle.print.proofs.Writing.{join, part-ends, refused, whole}
use Rattle.print.proofs.print.print_diff.Goals as goal

pub returns-then-saturating_sub-digits : goal.returns-then-saturating_sub-digits
returns-then-saturating_sub-digits c =
    let a = c.args in
    let all = refused a.out.now a.at (diff_line a.start a.end a.old a.new a.count)
    (omega (arith, diff-length a.start a.end a.old a.new a.count)) in
    record { next = all.0; bytes = all.1 }

pub put_hex-c-requires : goal.put_hex-c-requires
put_hex-c-requires c =
    omega (arith, simp (length-append, digits-length) at (part-ends (join c.put-a.ensures c.put_hex-b.ensures)))

pub put_rights-d-requires : goal.put_rights-d-requires
put_rights-d-requires c =
    let w = join c.put-a.ensures (join c.put_hex-b.ensures c.put_hex-c.ensures) in
    omega (arith, simp (length-append, digits-length) at (part-ends w))

pub put_rights-e-requires : goal.put_rights-e-requires
put_rights-e-requires c =
    let w = join (join c.put-a.ensures (join c.put_hex-b.ensures c.put_hex-c.ensures)) c.put_rights-d.ensures in
    omega (arith, simp (length-append, digits-length) at (part-ends w))

pub put_digits-requires : goal.put_digits-requires
put_digits-requires c =
    let w = join (join c.put-a.ensures (join c.put_hex-b.ensures c.put_hex-c.ensures)) (join c.put_rights-d.ensures c.put_rights-e.ensures) in
    omega (arith, simp (length-append, digits-length) at (part-ends w))

pub returns : goal.returns
unfolding decimal_text diff_line
returns c =
    rw (← c.width-digits.ensures.0)
    (let all = (whole
    (join (join (join c.put-a.ensures (join c.put_hex-b.ensures c.put_hex-c.ensures)) (join c.put_rights-d.ensures c.put_rights-e.ensures))
    c.put_digits.ensures)) in record { next = all.0; bytes = all.1 })
