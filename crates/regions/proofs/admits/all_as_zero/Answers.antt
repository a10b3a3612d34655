use Rattle.regions.specs.Admits.{as_heard}
use Rattle.regions.proofs.admits.all_as_zero.Goals as goal

pub returns : goal.returns
unfolding as_heard
returns c =
    simp (c.all_if-writes.ensures, c.all_if-reads.ensures, c.all_if-closed.ensures)
