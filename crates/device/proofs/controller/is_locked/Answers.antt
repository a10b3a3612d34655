use mathlib.Core.Path.{refl}
use lib.Dec.{lit<}
use Rattle.device.specs.Layout.{cr_part, rimccr_part, state_of}
use Rattle.device.proofs.StateLayout.{head-word}
use Rattle.device.proofs.controller.is_locked.Goals as goal

pub returns-in-Glock : goal.returns-in-Glock
unfolding state_of
returns-in-Glock c = simp (c.in-Glock.is, c.bit_of.ensures, head-word c.args.state.now cr_part (lit< tt) refl)

pub returns-in-RimcLock : goal.returns-in-RimcLock
unfolding state_of
returns-in-RimcLock c = simp (c.in-RimcLock.is, c.bit_of-in-RimcLock.ensures, head-word c.args.state.now rimccr_part (lit< tt) refl)
