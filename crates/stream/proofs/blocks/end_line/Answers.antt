-- `stream::blocks::end_line` meets its contract: where the place moved, the first byte of the text tells.
use Rattle.std.proofs.Common.{arith}
use Rattle.stream.proofs.Obeyed.{moves-tell, stays-good, within}
use Rattle.stream.proofs.blocks.end_line.Goals as goal

pub returns-then-place-at : goal.returns-then-place-at
returns-then-place-at c =
    let a = c.args in
    let q = c.respond-place in
    record { place_value = q.ensures.place; bad_value = stays-good a.line.now a.number a.state.now a.out.now a.at q.ensures.place q.ensures.bytes c.if-place-at.true; out_after = q.ensures.bytes; state_after = q.ensures.next }

pub bounds-out-at : goal.bounds-out-at
bounds-out-at c =
    let a = c.args in
    let q = c.respond-place in
    omega (arith, within a.line.now a.number a.state.now a.out.now a.at q.ensures.place q.ensures.bytes c.if-place-at.false, q.auto.out)

pub returns : goal.returns
returns c =
    let a = c.args in
    let q = c.respond-place in
    record { place_value = q.ensures.place; bad_value = moves-tell a.line.now a.number a.state.now a.out.now a.at q.ensures.place q.ensures.bytes c.if-place-at.false; out_after = q.ensures.bytes; state_after = q.ensures.next }
