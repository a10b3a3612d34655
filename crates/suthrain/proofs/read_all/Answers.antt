-- `read_all` meets its contract: from block to block it takes what it reads.
use Rattle.std.proofs.Common.{refl}
use Rattle.stream.specs.Kept.{kept_at_start}
use Rattle.suthrain.proofs.Ran.{step-block, step-none}
use Rattle.suthrain.proofs.read_all.Goals as goal

pub loop-init : goal.loop-init
loop-init g c =
    let a = c.args in
    let e = c.start-memory.ensures in
    let k = kept_at_start a.memory.now.line a.memory.now.state in
    (refl, rw (e.value, e.state_after) (step-none k (g.R.Read.remaining a.input.now) (g.W.Write.contents a.output.now)))

pub loop-preserved : goal.loop-preserved
loop-preserved g c =
    let i = c.loop.invariant in
    let e = c.in_ok-take_block-in-Ok.ensures in
    (e.emptied, step-block {k = kept_at_start c.args.memory.now.line c.args.memory.now.state} i.1 c.in-Ok.ensures.bytes.0 i.0 e.part)
