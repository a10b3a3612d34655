-- What the code of a lookup goes by, row after row: no part of what a lookup is.
use Rattle.std.specs.Prelude.{List, ◌≡◌, ℕ, ◌+◌, ◌≤◌, ◌<◌, length, get_or, drop}
use Rattle.spans.specs.Lookup.{row_place}

-- behind the first i numbers the place in the rows that are left is that in the whole
abbrev pub Passed : List ℕ → ℕ → ℕ → Type 0
Passed m x i = (i ≤ length m) × (i + row_place (drop i m) x ≡ row_place m x)

-- up to r, which lies at `from` or behind it, no row encloses x; at r one begins that does not end before x, or the numbers are at an end
pub record Ended (m : List ℕ) (x from r : ℕ) : Type 0 where
  pub low : from ≤ r
  pub passed : Passed m x r
  pub found : r < length m → (r + 3 ≤ length m) × (x ≤ get_or m (r + 1) 0)
