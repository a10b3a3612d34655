-- A line written at a place of a buffer.
use Rattle.std.specs.Prelude.{Bool, cond, List, ◌++◌, ℕ, ◌+◌, leb, length, take, drop}

-- out with the line in the place of as many bytes from `at` on
abbrev pub over : List ℕ → ℕ → List ℕ → List ℕ
over out at line = take at out ++ line ++ drop (at + length line) out

-- there is room for the line
abbrev pub room_for : List ℕ → ℕ → List ℕ → Bool
room_for out at line = leb (at + length line) (length out)

-- what the buffer holds: where there is no room, what it held
unfoldable pub bytes_with : List ℕ → ℕ → List ℕ → List ℕ
bytes_with out at line = cond (room_for out at line) (over out at line) out

-- the next place: where there is no room, the same
unfoldable pub place_with : List ℕ → ℕ → List ℕ → ℕ
place_with out at line = cond (room_for out at line) (at + length line) at
