-- What a lookup in a map as made finds.
use mathlib.Core.List.{List, []}
use mathlib.Core.Path.{◌≡◌}
use Prim.Native.Nat.{ℕ, ◌≤◌, ◌<◌}
use Rattle.risaf.specs.Guards.{shape_of}
use Rattle.spans.specs.Lookup.{lookup_in, Finds}
use Rattle.spans.specs.Rows.{flat, filled}
use Rattle.spans.proofs.Found.{lookup-finds, lookup-past}
use Rattle.spans.proofs.Maps.{map-is-map}
use Rattle.spans.proofs.Memory.{filled-front}
use Rattle.device.specs.State.{State}
use Rattle.map.specs.Map.{rights_of, rows_of}
use Rattle.map.proofs.Demand.{is-map}

module _ (s : State) (n x : ℕ) where
  -- an offset of the window: the row around it, with the rights there; whatever numbers stand behind the map
  pub finds : (l : List ℕ) → x < (shape_of n).window → Finds (rights_of s n) x (lookup_in (filled (rows_of s n) l) x)
  finds l h = lookup-finds (is-map s n l) x h

  -- in the map's own numbers the same, and for any other offset nothing
  pub finds-own : x < (shape_of n).window → Finds (rights_of s n) x (lookup_in (flat (rows_of s n)) x)
  unfolding rows_of
  finds-own h = lookup-finds (map-is-map (rights_of s n) (shape_of n).window) x h

  pub finds-none : (shape_of n).window ≤ x → lookup_in (flat (rows_of s n)) x ≡ []
  finds-none h = rw (filled-front (rows_of s n) []) at (lookup-past (is-map s n []) x h)
