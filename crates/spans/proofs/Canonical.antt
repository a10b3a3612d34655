-- Two maps of one window are equal exactly where their rights functions agree at every offset: maps are canonical. Assumes nothing.
use Prim.Native.Nat.{ℕ, ◌<◌}
use mathlib.Core.Path.{◌≡◌, ap}
use mathlib.Core.Logic.{◌↔◌}
use Rattle.spans.specs.Rows.{flat}
use Rattle.spans.specs.Map.{map_of}
use Rattle.spans.proofs.Unique.{map_rows, unique, agree}
use Rattle.spans.proofs.Memory.{flat-same}

-- of the maps as rows, and as numbers
pub canonical-maps : (f g : ℕ → ℕ) (w : ℕ) → (map_of f w ≡ map_of g w) ↔ ((x : ℕ) → x < w → f x ≡ g x)
canonical-maps f g w = (
  (λ e. agree f g w (map_of f w) (map_rows f w) (rw e (map_rows g w))),
  (λ same. unique f g w (map_of f w) (map_of g w) same (map_rows f w) (map_rows g w)),
)

pub canonical-flat : (f g : ℕ → ℕ) (w : ℕ) → (flat (map_of f w) ≡ flat (map_of g w)) ↔ ((x : ℕ) → x < w → f x ≡ g x)
canonical-flat f g w = (
  (λ e. (canonical-maps f g w).0 (flat-same (map_of f w) (map_of g w) e)),
  (λ same. ap flat ((canonical-maps f g w).1 same)),
)
