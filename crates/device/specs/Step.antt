-- What an event answers and leaves: document 01, "Events".
use Rattle.std.specs.Prelude.{Bool, true, false, not, ◌&&◌, ℕ}
use Rattle.access.specs.Answer.{left}
use Rattle.access.specs.Checks.{answered}
use Rattle.access.specs.declared.answer.Answer.{Answer}
use Rattle.access.specs.declared.answer.Answer.TheVariants.{Done}
use Rattle.access.specs.declared.checks.Checks.{Checks}
use Rattle.access.specs.declared.flag.Flag.{Flag}
use Rattle.access.specs.declared.kind.Kind.{Kind}
use Rattle.access.specs.declared.request.Request.{Request}
use Rattle.rifsc.specs.Masters.{is_master, attributes_of, carried}
use Rattle.rifsc.specs.Peripherals.{exists, filter_of, grants}
use Rattle.rifsc.specs.Port as rifsc
use Rattle.iac.specs.Port as iac
use Rattle.risaf.specs.Guards.{is_guard, shape_of}
use Rattle.risaf.specs.Memory.{memory_stepped}
use Rattle.risaf.specs.Port as risaf
use Rattle.device.specs.State.{State, guard_of, with_rifsc, with_iac, with_guard, flagged, reset_state}
use Rattle.device.specs.declared.event.Block.{Block}
use Rattle.device.specs.declared.event.Block.TheVariants.{Rifsc, Iac, Risaf}
use Rattle.device.specs.declared.event.Operation.{Operation}
use Rattle.device.specs.declared.event.Operation.TheVariants.{Read, Write, Fetch}
use Rattle.device.specs.declared.event.PeripheralAccess.{PeripheralAccess}
use Rattle.device.specs.declared.event.Event.{Event}
use Rattle.device.specs.declared.event.Event.TheVariants.{Reset, Register, Peripheral, Memory, Master}

pub record Outcome : Type 0 where
  pub answer : Answer
  pub next : State

-- done: next; refused: next with flag i raised; rejected: the state as it was
abbrev pub settled : Answer → Flag → State → State → Outcome
settled a i s next = record { answer = a; next = left a s next (flagged i next) }

-- ---- a register access; refused, it raises 158 (RIFSC), 138 (IAC) or the guard's

abbrev pub rifsc_flag : Flag
rifsc_flag = record { 0 = 158 }

abbrev pub iac_flag : Flag
iac_flag = record { 0 = 138 }

unfoldable pub register_step : Block → Request → State → Outcome
register_step Rifsc q s =
    let o = rifsc.stepped s.rifsc q in
    settled o.answer rifsc_flag s (with_rifsc s o.next)
register_step Iac q s =
    let o = iac.stepped s.iac q in
    settled o.answer iac_flag s (with_iac s o.next)
register_step (Risaf n) q s =
    let shape = shape_of n.0 in
    let o = risaf.stepped (is_guard n.0) shape (guard_of s n.0) q in
    settled o.answer shape.flag s (with_guard s n.0 o.next)

-- ---- a peripheral access; refused, it raises the peripheral's index

abbrev pub fetches : Operation → Bool
fetches Read = false
fetches Write = false
fetches Fetch = true

abbrev pub peripheral_checks : PeripheralAccess → State → Checks
peripheral_checks a s =
    record {
      present = exists a.peripheral;
      aligned = true;
      inside = true;
      fetchless = not (fetches a.operation);
      known = true;
      allowed = grants (filter_of s.rifsc a.peripheral) a.secure a.privileged;
      direction = true;
      unlocked = true;
    }

unfoldable pub peripheral_step : PeripheralAccess → State → Outcome
peripheral_step a s = settled (answered (peripheral_checks a s) 0) (record { 0 = a.peripheral.0 }) s s

-- ---- a memory access to guard n; refused, it raises the guard's flag. there: the master is one there is

unfoldable pub memory_step : Bool → ℕ → ℕ → ℕ → Kind → State → Outcome
memory_step there n o width k s =
    let shape = shape_of n in
    let r = memory_stepped (there && is_guard n) shape (guard_of s n) o width k in
    settled r.answer shape.flag s (with_guard s n r.next)

-- ---- any event

unfoldable pub step : Event → State → Outcome
step Reset s = record { answer = Done 0; next = reset_state }
step (Register a) s = register_step a.block a.request s
step (Peripheral a) s = peripheral_step a s
step (Memory a) s = memory_step true a.guard.0 a.offset a.width a.kind s
step (Master a) s =
    let k = carried (attributes_of s.rifsc a.master) a.write in
    memory_step (is_master a.master) a.guard.0 a.offset a.width k s
