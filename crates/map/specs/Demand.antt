-- Demand 3: what holds of a whole map, over the rules by which `step` answers.
use Rattle.std.specs.Prelude.{Bool, true, List, ◌≢◌, ◌≡◌, ℕ, ◌+◌, ◌%◌, ◌≤◌, ◌<◌, eqb}
use Rattle.words.specs.Bit.{bit}
use Rattle.access.specs.Answer.{number_of}
use Rattle.access.specs.Kind.{rights_bit}
use Rattle.access.specs.declared.kind.Kind.{Kind}
use Rattle.risaf.specs.Guards.{shape_of}
use Rattle.risaf.specs.Memory.{is_width}
use Rattle.spans.specs.Rows.{start, end, rights}
use Rattle.spans.specs.Map.{Tiles}
use Rattle.map.specs.Fill.{most_rows}
use Rattle.device.specs.State.{State}
use Rattle.device.specs.Step.{step}
use Rattle.device.specs.declared.event.Event.TheVariants.{Memory}

-- the answer to the memory access to guard n at offset x, so many bytes wide, is 0: granted
unfoldable pub grants_at : State → ℕ → ℕ → ℕ → Kind → Bool
grants_at s n x width k =
    eqb (number_of (step (Memory (record { guard = record { 0 = n }; offset = x; width = width; kind = k })) s).answer) 0

-- The first count rows of the numbers m are the map of guard n
pub record IsGuardMap (s : State) (n count : ℕ) (m : List ℕ) : Type 0 where
  -- in rising order, the window covered once, no gap and no double
  pub tiles : Tiles (shape_of n).window count m
  -- at every offset of a row, for each of the 64 kinds of asking, the bit is 1 exactly when the access is granted, whatever its width
  pub exact : (j x width : ℕ) (k : Kind) → j < count → start m j ≤ x → x ≤ end m j → is_width width ≡ true → x % width ≡ 0 → k.cid.0 ≤ 7
      → bit (rights m j) (rights_bit k) ≡ grants_at s n x width k
  -- no two neighbours with equal rights
  pub differ : (j : ℕ) → j + 1 < count → rights m j ≢ rights m (j + 1)
  pub most : count ≤ most_rows
