-- What is kept between calls: the state, and the unfinished line with its number.
use Rattle.std.specs.Prelude.{ℕ, suc, ◌+◌, ◌-◌, ◌%◌, ◌^◌, List, length, take}
use Rattle.device.specs.Applied.{applied_state}
use Rattle.device.specs.declared.event.Event.TheVariants.{Reset}
use Rattle.print.specs.Writing.{over}
use Rattle.script.specs.Fields.{line_most}
use Rattle.stream.specs.declared.kept.Held.{Held}

-- bytes of the unfinished line, one more than a line may have: with so many it is too long, however long it is
abbrev pub line_room : ℕ
line_room = suc line_most

-- the number of the next line and the count of its bytes that are kept, in the first of the memory for it; and the state's words
pub record Kept : Type 0 where
  pub held : Held
  pub memory : List ℕ
  pub words : List ℕ

-- nothing kept of the line with that number
abbrev pub nothing_of : ℕ → Held
nothing_of number = record { bytes = 0; number = number }

-- before the input
abbrev pub at_start : Held
at_start = nothing_of 1

abbrev pub kept_of : Held → List ℕ → List ℕ → Kept
kept_of h memory m = record { held = h; memory = memory; words = m }

abbrev pub kept_at_start : List ℕ → List ℕ → Kept
kept_at_start memory m = kept_of at_start memory (applied_state Reset m)

-- the bytes l behind the n that are kept, as many as there is room for: the memory, and how many there are then
unfoldable pub kept_in : List ℕ → ℕ → List ℕ → List ℕ
kept_in memory n l = over memory n (take (line_room - n) l)

unfoldable pub kept_count : ℕ → List ℕ → ℕ
kept_count n l = n + length (take (line_room - n) l)

-- numbers are of 64 bits
abbrev pub next_number : ℕ → ℕ
next_number number = (number + 1) % 2 ^ 64
