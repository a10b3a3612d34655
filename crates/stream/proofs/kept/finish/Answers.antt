-- `stream::kept::finish` meets its contract: `bad` where bytes are kept.
use Rattle.stream.proofs.Memory.{end-bad, end_empty}
use Rattle.stream.proofs.kept.finish.Goals as goal

pub returns-then-held-eq0 : goal.returns-then-held-eq0
returns-then-held-eq0 c =
    let a = c.args in
    let all = end_empty a.out.now a.at a.held.number c.if-held-eq0.true in
    record { place = all.0; bytes = all.1 }

pub returns : goal.returns
returns c =
    let a = c.args in
    let p = c.print_bad in
    let all = end-bad a.out.now a.at a.held.bytes a.held.number c.if-held-eq0.false p.ensures.next p.ensures.bytes in
    record { place = all.0; bytes = all.1 }
