-- The map of a guard: of its rights at each offset, below its window.
use Rattle.std.specs.Prelude.{ℕ}
use Rattle.risaf.specs.Guards.{shape_of}
use Rattle.regions.specs.Rights.{rights_word}
use Rattle.spans.specs.Rows.{Rows}
use Rattle.spans.specs.Map.{map_of}
use Rattle.device.specs.State.{State, guard_of}

-- the rights word of an offset at guard n
unfoldable pub rights_of : State → ℕ → ℕ → ℕ
rights_of s n o = rights_word (shape_of n).bus (guard_of s n).regions (shape_of n).regions o

-- the rows of the map of guard n
unfoldable pub rows_of : State → ℕ → Rows
rows_of s n = map_of (rights_of s n) (shape_of n).window
