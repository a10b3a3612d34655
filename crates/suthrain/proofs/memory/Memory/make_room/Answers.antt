-- `Memory::make_room` meets its contract: nothing is taken, and what was filled is written or stays.
use Rattle.std.proofs.lemmas.Result.{on_ok_weaker}
use Rattle.suthrain.specs.Runs.{filled_by, kept_by}
use Rattle.suthrain.proofs.Ran.{part-none, part-written}
use Rattle.suthrain.proofs.memory.Memory.make_room.Goals as goal

pub returns-then-self-clause-part : goal.returns-then-self-clause-part
returns-then-self-clause-part g c =
    let s = c.args.self.now in
    let w = g.W.Write.contents in
    on_ok_weaker c.flush.result (λ h. rw h.1 (part-written (kept_by s) (w c.args.output.now) (w c.flush.new.output) (filled_by s) h.0)) c.flush.ensures

pub returns-clause-part : goal.returns-clause-part
returns-clause-part g c =
    let s = c.args.self.now in
    part-none (kept_by s) (g.W.Write.contents c.args.output.now) (filled_by s)
