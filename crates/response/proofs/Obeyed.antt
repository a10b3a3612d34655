-- A line's command, and a line with and without room.
use mathlib.Core.List.{List}
use mathlib.Core.Path.{◌≡◌, refl}
use Prim.Native.Nat.{ℕ, ◌+◌, ◌≤◌, ◌<◌}
use borrow.Author.Tests.{le-leb, lt-leb}
use lib.ListN.{length}
use Rattle.std.specs.Prelude.{Option, Some, None}
use Rattle.device.specs.declared.event.Event.{Event}
use Rattle.risaf.specs.declared.guards.GuardNumber.{GuardNumber}
use Rattle.script.specs.declared.command.Command.{Command}
use Rattle.script.specs.declared.command.Command.TheVariants.{Event as AnEvent, Map}
use Rattle.script.specs.Command.{command_of}
use Rattle.print.specs.Parts.{Wrote}
use Rattle.response.specs.Response.{bytes_after, most, left_by, place_after, state_after, text_of}

-- a line that is neither a map request nor an event is bad
pub neither : (c : Option Command) → ((e : Event) → c ≡ Some (AnEvent e) → ⊥) → ((n : GuardNumber) → c ≡ Some (Map n) → ⊥) → c ≡ None
neither (Some (AnEvent e)) h k = absurd (h e refl)
neither (Some (Map n)) h k = absurd (k n refl)
neither None h k = refl

module _ (line : List ℕ) (number : ℕ) (m out : List ℕ) (at : ℕ) where
  pub no_room : length out < at + most
      → (at ≡ place_after line number m out at) × ((out ≡ bytes_after line number m out at) × (m ≡ state_after line m out at))
  unfolding place_after bytes_after state_after
  no_room h = let t = lt-leb (at + most) (length out) h in (rw t, (rw t, rw t))

  pub with-room : {out' m' : List ℕ} {p : ℕ} → at + most ≤ length out → Wrote out at (text_of (command_of line) number m) out' p
      → m' ≡ left_by (command_of line) m
      → (p ≡ place_after line number m out at) × ((out' ≡ bytes_after line number m out at) × (m' ≡ state_after line m out at))
  unfolding place_after bytes_after state_after
  with-room h w s = let t = le-leb (at + most) (length out) h in (rw t w.next, (rw t w.bytes, rw t s))
