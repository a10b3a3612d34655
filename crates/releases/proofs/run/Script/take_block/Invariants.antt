-- A turn of `Script::take_block` takes some of the block.
use Rattle.std.proofs.Common.{length}
use Rattle.releases.proofs.run.Script.take_block.Given as goal

abbrev pub decreases-loop-rest : goal.decreases-loop-rest
decreases-loop-rest g l = length l.rest
