-- From block to block `read_all` keeps that all that was read was taken and is written.
use Rattle.std.proofs.Common.{◌≡◌, []}
use Rattle.stream.specs.Kept.{kept_at_start}
use Rattle.suthrain.specs.Runs.{Step, filled_by, kept_by}
use Rattle.suthrain.proofs.read_all.Given as goal

abbrev pub invariant-loop : goal.invariant-loop
invariant-loop g l =
    (filled_by l.memory ≡ [])
    × Step (kept_at_start l.fn.memory.line l.fn.memory.state) (kept_by l.memory) (g.R.Read.remaining l.fn.input) (g.R.Read.remaining l.input)
    (g.W.Write.contents l.fn.output) (g.W.Write.contents l.output)
