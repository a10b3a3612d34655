-- The line and the count that are kept, over any event and any events: change request Q-4, in the words of iac/specs/Kept.
use mathlib.Core.List.{List, [], ◌∷◌}
use mathlib.Core.Path.{◌≡◌, refl}
use Rattle.access.specs.declared.request.Request.{Request}
use Rattle.iac.specs.Contents as iac
use Rattle.iac.specs.Held.{held}
use Rattle.iac.specs.Kept.{True, Moves}
use Rattle.iac.specs.Registers as iac-registers
use Rattle.iac.specs.declared.contents.Iac.{Iac as IacWords}
use Rattle.iac.proofs.HeldTrue.{held-true, held-moves, moves-refl, raise-by, written-by, reset-true}
use Rattle.device.specs.Locks.{NotReset}
use Rattle.device.specs.Run.{run}
use Rattle.device.specs.State.{State, with_guard, reset_state}
use Rattle.device.specs.Step.{step}
use Rattle.device.specs.declared.event.Block.{Block}
use Rattle.device.specs.declared.event.Block.TheVariants.{Rifsc, Iac, Risaf}
use Rattle.device.specs.declared.event.Event.{Event}
use Rattle.device.specs.declared.event.Event.TheVariants.{Reset, Register, Peripheral, Memory, Master}
use Rattle.iac.specs.declared.registers.Register.{Register as IacRegister}
use Rattle.std.specs.Prelude.{Option, Some, None}
use Rattle.device.proofs.Effects.{iac_written, register_effect, effect, register_refused, refused, step_by}

-- ---- an event leaves the IAC as it was, or as it is held, or as reset makes it: P of all that it may leave is P of what it leaves

module _ (P : IacWords → Type 0) (s : State) (same : P s.iac) (kept : (t : IacWords) → P (held s.iac t)) where
  abbrev Of : State → Type 0
  Of t = P t.iac

  register-effect : (b : Block) (q : Request) → Of (register_effect b q s)
  unfolding register_effect with_guard
  register-effect Rifsc q = same
  register-effect Iac q = at (iac-registers.register_at q.offset)
    where
      at : (o : Option IacRegister) → P (iac_written o q s.iac)
      at None = same
      at (Some reg) = written-by P q s.iac reg same kept
  register-effect (Risaf n) q = same

  event-effect : (e : Event) → (e ≡ Reset → Of reset_state) → Of (effect e s)
  unfolding effect
  event-effect Reset reset = reset refl
  event-effect (Register a) reset = register-effect a.block a.request
  event-effect (Peripheral a) reset = same
  event-effect (Memory a) reset = same
  event-effect (Master a) reset = same

  register-refused : (b : Block) → Of (register_refused b s)
  unfolding register_refused with_guard
  register-refused Rifsc = raise-by P _ s.iac same kept
  register-refused Iac = raise-by P _ s.iac same kept
  register-refused (Risaf n) = raise-by P _ s.iac same kept

  event-refused : (e : Event) → Of (refused e s)
  unfolding refused with_guard
  event-refused Reset = same
  event-refused (Register a) = register-refused a.block
  event-refused (Peripheral a) = raise-by P _ s.iac same kept
  event-refused (Memory a) = raise-by P _ s.iac same kept
  event-refused (Master a) = raise-by P _ s.iac same kept

  event-by : (e : Event) → (e ≡ Reset → Of reset_state) → Of (step e s).next
  event-by e reset = step_by Of e s same (λ v d. event-effect e reset) (λ v r. event-refused e)

-- ---- one event

-- any but reset, whatever the two hold
pub event-moves : (e : Event) (s : State) → NotReset e → Moves s.iac (step e s).next.iac
event-moves e s other = event-by (Moves s.iac) s (moves-refl s.iac) (held-moves s.iac) e (λ r. absurd (other r))

-- "reset sets both to 0"
pub reset-zero : (s : State) → ((step Reset s).next.iac.line ≡ 0) × ((step Reset s).next.iac.count ≡ 0)
unfolding step reset_state iac.reset
reset-zero s = (refl, refl)

-- both stay true
pub step-true : (e : Event) (s : State) → True s.iac → True (step e s).next.iac
unfolding reset_state
step-true e s y = event-by True s y (λ t. held-true s.iac t y) e (λ r. reset-true)

-- ---- any events

-- from any state where both are true
pub run-true : (es : List Event) (s : State) → True s.iac → True (run es s).iac
unfolding run
run-true [] s y = y
run-true (e ∷ es) s y = run-true es (step e s).next (step-true e s y)

-- and so from reset
pub from-reset-true : (es : List Event) → True (run es reset_state).iac
unfolding reset_state
from-reset-true es = run-true es reset_state reset-true
