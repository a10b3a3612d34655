-- `Memory::take_part` meets its contract: a call takes some of the block.
use Rattle.std.proofs.Common.{◌≡◌, length, arith, ap, le-leb}
use Rattle.stream.specs.Kept.{line_room}
use Rattle.stream.specs.declared.blocks.Taken.{Taken}
use Rattle.stream.proofs.Given.{left-few, took-most}
use Rattle.stream.proofs.Took.{takes-some}
use Rattle.suthrain.specs.Runs.{kept_by}
use Rattle.suthrain.proofs.Ran.{part-taken}
use Rattle.suthrain.proofs.memory.Memory.take_part.Goals as goal

pub invariant_of-self : goal.invariant_of-self
invariant_of-self c =
    let s = c.args.self.now in
    record { few = left-few (kept_by s) c.args.block.now s.out s.at c.take-taken.ensures.taken s.few; numbered = omega arith }

pub returns-clause-some : goal.returns-clause-some
returns-clause-some c =
    let s = c.args.self.now in
    let block = c.args.block.now in
    let e = c.take-taken.ensures.taken in
    let long : length s.line ≡ line_room = omega arith in
    let some = takes-some (kept_by s) block s.out s.at c.requires.0 long s.few (le-leb _ _ c.requires.1) in
    (omega (arith, some, ap (λ (t : Taken). t.took) e), took-most (kept_by s) block s.out s.at e)

pub returns-clause-part : goal.returns-clause-part
returns-clause-part c =
    let s = c.args.self.now in
    let e = c.take-taken.ensures in
    λ x. part-taken (kept_by s) c.args.block.now s.out s.at x e.taken e.bytes e.memory e.words
