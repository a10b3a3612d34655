-- `run` meets its contract: all that was read is transcribed, the end of the input too.
use Rattle.std.proofs.Common.{◌≡◌, ◌≤◌, length, arith}
use Rattle.response.specs.Response.{most}
use Rattle.stream.specs.Kept.{line_room}
use Rattle.suthrain.proofs.Ran.{transcribed}
use Rattle.suthrain.proofs.run.Goals as goal

pub returns-clause-transcribed : goal.returns-clause-transcribed
returns-clause-transcribed g c =
    let m = c.args.memory.now in
    let left = c.read_all.new.memory in
    let long : length m.line ≡ line_room = omega arith in
    let room : most ≤ length left.out = omega arith in
    let e = c.finish-memory.ensures in
    transcribed m.state m.line left.out c.in_ok-whole.ensures.step long left.numbered room e.place e.bytes c.in_ok-flush.ensures.0
