-- The memory access that the arguments of a call ask for.
use Rattle.std.specs.Prelude.{ℕ}
use Rattle.access.specs.declared.kind.Kind.{Kind}
use Rattle.risaf.specs.declared.guards.GuardNumber.{GuardNumber}
use Rattle.device.specs.declared.event.Event.{Event}
use Rattle.device.specs.declared.event.Event.TheVariants.{Memory}

abbrev pub memory_asked : GuardNumber → ℕ → ℕ → Kind → Event
memory_asked guard offset width kind = Memory (record { guard = guard; offset = offset; width = width; kind = kind })
