-- Events one after the other.
use Rattle.std.specs.Prelude.{List, [], ◌∷◌}
use Rattle.device.specs.State.{State}
use Rattle.device.specs.Step.{step}
use Rattle.device.specs.declared.event.Event.{Event}

-- the state that events leave
unfoldable pub run : List Event → State → State
run [] s = s
run (e ∷ es) s = run es (step e s).next
