use mathlib.Core.Path.{sym}
use native.Mathlib.Nat.{add-sub_cancel_left}
use Rattle.device.proofs.GuardLayout.{guard-words}
use Rattle.device.proofs.guards.load_words.Goals as goal

pub returns : goal.returns
returns c = rw (c.guard_start-start.ensures.0, add-sub_cancel_left) (sym (guard-words c.args.state.now c.args.place.at c.told-state c.args.place.within))
