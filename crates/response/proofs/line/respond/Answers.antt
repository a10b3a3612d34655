-- `response::line::respond` meets its contract: without room nothing, else the line obeyed.
use native.Mathlib.Omega.{arith}
use Rattle.response.proofs.Obeyed.{no_room, with-room}
use Rattle.response.proofs.line.respond.Goals as goal

pub returns-then-saturating_sub-lt-RESPONSE_MOST : goal.returns-then-saturating_sub-lt-RESPONSE_MOST
returns-then-saturating_sub-lt-RESPONSE_MOST c =
    let all = no_room c.args.line.now c.args.number c.args.state.now c.args.out.now c.args.at
    (omega (arith, c.if-saturating_sub-lt-RESPONSE_MOST.true)) in
    record { place = all.0; bytes = all.1.0; next = all.1.1 }

pub returns : goal.returns
returns c =
    let o = c.obey in
    let all = with-room c.args.line.now c.args.number c.args.state.now c.args.out.now c.args.at
    (omega (arith, c.if-saturating_sub-lt-RESPONSE_MOST.false)) o.ensures.wrote o.ensures.state_after in
    record { place = all.0; bytes = all.1.0; next = all.1.1 }
