-- What holds of a result of two states' maps, over the rules by which `step` answers.
use Rattle.std.specs.Prelude.{true, List, ◌≢◌, ◌↔◌, ◌≡◌, ℕ, ◌%◌, ◌≤◌, ◌<◌}
use Rattle.words.specs.Bit.{bit}
use Rattle.access.specs.Kind.{rights_bit}
use Rattle.access.specs.declared.kind.Kind.{Kind}
use Rattle.risaf.specs.Guards.{shape_of}
use Rattle.risaf.specs.Memory.{is_width}
use Rattle.device.specs.State.{State}
use Rattle.map.specs.Demand.{grants_at}
use Rattle.map.specs.Map.{rights_of, rows_of}
use Rattle.spans.specs.Rows.{flat}
use Rattle.diff.specs.Diff.{IsDiff}
use Rattle.diff.specs.Fill.{most_diff_rows}
use Rattle.diff.specs.Rows.{old, new, Enclosed}

-- the numbers of the map of guard n
abbrev pub sheet : State → ℕ → List ℕ
sheet s n = flat (rows_of s n)

-- one of the first count rows of the numbers m encloses x, and its old and new differ in that bit
pub record Shows (count : ℕ) (m : List ℕ) (x bit_number : ℕ) : Type 0 where
  pub at : Enclosed count m x
  pub apart : bit (old m at.row) bit_number ≢ bit (new m at.row) bit_number

-- The first count rows of the numbers m are what differs between the maps of guard n of the states s and t
pub record IsGuardDiff (s t : State) (n count : ℕ) (m : List ℕ) : Type 0 where
  pub rows : IsDiff (rights_of s n) (rights_of t n) (shape_of n).window count m
  -- a kind of asking is granted by exactly one of the two, whatever its width, exactly when a row shows it
  pub shows : (x width : ℕ) (k : Kind) → x < (shape_of n).window → is_width width ≡ true → x % width ≡ 0 → k.cid.0 ≤ 7
      → (grants_at s n x width k ≢ grants_at t n x width k) ↔ Shows count m x (rights_bit k)
  -- there is no row exactly when the two sheets are the same
  pub same : (count ≡ 0) ↔ (sheet s n ≡ sheet t n)
  pub most : count ≤ most_diff_rows
