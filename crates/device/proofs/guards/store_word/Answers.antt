use Rattle.device.proofs.GuardLayout.{word-stored}
use Rattle.device.proofs.guards.store_word.Goals as goal

pub returns : goal.returns
returns c =
    let a = c.args in
    rw c.guard_start.ensures.0 (word-stored a.state.now a.place.at a.i a.v c.told-state a.place.within c.requires)
