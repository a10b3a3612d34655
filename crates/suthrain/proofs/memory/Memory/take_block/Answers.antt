-- `Memory::take_block` meets its contract: part by part it takes the whole block, and what is filled at the end is written.
use Rattle.std.proofs.Common.{rules, ◌≡◌, [], ◌++◌, length, take, refl}
use Rattle.std.proofs.lemmas.Result.{on_ok_weaker}
use Rattle.suthrain.specs.Runs.{filled_by, kept_by}
use Rattle.suthrain.proofs.Ran.{all_done, onward, part-end, part-none, part-then}
use Rattle.suthrain.proofs.memory.Memory.take_block.Goals as goal

pub loop-rest-init : goal.loop-rest-init
loop-rest-init g c =
    let s = c.args.self.now in
    ([], refl, part-none (kept_by s) (g.W.Write.contents c.args.output.now) (filled_by s))

pub loop-rest-preserved : goal.loop-rest-preserved
loop-rest-preserved g c =
    let l = c.loop-rest in
    let i = l.invariant in
    let n = c.take_part-took in (
      i.0 ++ take n.result l.rest.now,
      onward i.0 l.rest.now n.result i.1,
      part-then i.2 (part-then c.in_ok-make_room.ensures.part (n.ensures.part (g.W.Write.contents c.make_room.new.output))),
    )

pub returns-clause-part : goal.returns-clause-part
returns-clause-part g c =
    let i = c.loop-rest.invariant in
    let none : length c.loop-rest.rest.now ≡ 0 = search rules in
    on_ok_weaker c.flush.result (λ h. rw h.1 (part-end (all_done i.0 c.loop-rest.rest.now none i.1) i.2 h.0)) c.flush.ensures
