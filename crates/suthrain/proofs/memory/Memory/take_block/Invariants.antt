-- A turn of `Memory::take_block` takes some of the block; so far all that was to be written was.
use Rattle.std.proofs.Common.{◌≡◌, List, ℕ, ◌++◌, length}
use Rattle.suthrain.specs.Runs.{Part, filled_by, kept_by}
use Rattle.suthrain.proofs.memory.Memory.take_block.Given as goal

abbrev pub invariant-loop-rest : goal.invariant-loop-rest
invariant-loop-rest g l =
    (done : List ℕ) × (done ++ l.rest ≡ l.fn.block)
    × Part (kept_by l.fn.self) (kept_by l.self) done (g.W.Write.contents l.fn.output) (g.W.Write.contents l.output) (filled_by l.fn.self) (filled_by l.self)

abbrev pub decreases-loop-rest : goal.decreases-loop-rest
decreases-loop-rest g l = length l.rest
