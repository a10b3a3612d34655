-- `Script::take_part` meets its contract: a call takes some of the block.
use Rattle.std.proofs.Common.{◌≡◌, ◌≤◌, length, arith, refl}
use Rattle.response.specs.Response.{most}
use Rattle.stream.specs.Kept.{kept_of, line_room}
use Rattle.stream.proofs.Given.{left-few, some-taken, took-most}
use Rattle.releases.proofs.run.Script.take_part.Goals as goal

pub invariant_of-self : goal.invariant_of-self
invariant_of-self c =
    let s = c.args.self.now in
    record { few = left-few (kept_of s.held s.line s.state) c.args.block.now s.out 0 c.take-taken.ensures.taken s.few }

pub returns : goal.returns
returns c =
    let s = c.args.self.now in
    let k = kept_of s.held s.line s.state in
    let block = c.args.block.now in
    let e = c.take-taken.ensures.taken in
    let long : length s.line ≡ line_room = omega arith in
    let room : most ≤ length s.out = omega arith in
    (some-taken k block s.out 0 e long s.few room c.requires refl, took-most k block s.out 0 e)
