-- The events that the numbers of a call from C ask for. The arguments are those of the header, in its order.
use Rattle.std.specs.Prelude.{Bool, cond, List, ℕ, Option, Some, None}
use Rattle.access.specs.Answer.{encoded_of}
use Rattle.access.specs.declared.answer.Answer.TheVariants.{Rejected}
use Rattle.access.specs.declared.answer.Why.TheVariants.{NoSuch, WrongLength}
use Rattle.device.specs.Applied.{sized, applied_answer, applied_state}
use Rattle.device.specs.declared.event.Event.{Event}
use Rattle.device.specs.declared.event.Event.TheVariants.{Register, Peripheral, Memory, Master}
use Rattle.capi.specs.Numbers.{block_numbered, operation_numbered}
use Rattle.device.specs.declared.event.Block.{Block}
use Rattle.device.specs.declared.event.Operation.{Operation}

-- ---- what is asked for: an event, or nothing, where a number stands for no block or for no operation

unfoldable pub register_asked : ℕ → ℕ → ℕ → Bool → ℕ → Bool → Bool → Option Event
register_asked block guard offset write value secure privileged = at (block_numbered block guard)
  where
    at : Option Block → Option Event
    at (Some b) =
        Some
        (Register
        (record {
          block = b;
          request = record { offset = offset; write = write; value = value; secure = secure; privileged = privileged };
        }))
    at None = None

unfoldable pub peripheral_asked : ℕ → ℕ → Bool → Bool → Option Event
peripheral_asked peripheral operation secure privileged = to (operation_numbered operation)
  where
    to : Option Operation → Option Event
    to (Some o) =
        Some
        (Peripheral
        (record { peripheral = record { 0 = peripheral }; operation = o; secure = secure; privileged = privileged }))
    to None = None

-- its answer, as C has it: 4 to nothing, but 8 comes first
unfoldable pub asked_answer : Option Event → List ℕ → ℕ
asked_answer (Some e) m = encoded_of (applied_answer e m)
asked_answer None m = encoded_of (Rejected (cond (sized m) NoSuch WrongLength))

unfoldable pub asked_state : Option Event → List ℕ → List ℕ
asked_state (Some e) m = applied_state e m
asked_state None m = m

-- ---- events whose numbers all stand for something

unfoldable pub memory_event : ℕ → ℕ → ℕ → Bool → ℕ → Bool → Bool → Event
memory_event guard offset width write cid secure privileged =
    Memory
    (record {
      guard = record { 0 = guard };
      offset = offset;
      width = width;
      kind = record { cid = record { 0 = cid }; write = write; privileged = privileged; secure = secure };
    })

unfoldable pub master_event : ℕ → ℕ → ℕ → ℕ → Bool → Event
master_event master guard offset width write =
    Master
    (record {
      master = record { 0 = master };
      guard = record { 0 = guard };
      offset = offset;
      width = width;
      write = write;
    })
