-- A map found by computing: a window of 2 ^ 20 offsets, with one region of other rights in it. Assumes nothing.
use Prim.Native.Nat.{ℕ, ◌^◌}
use mathlib.Core.Path.{◌≡◌, refl, sym, ◌∙◌}
use mathlib.Core.Bool.{cond}
use mathlib.Core.List.{List, [], ◌∷◌}
use Rattle.spans.specs.Rows.{none, more, encloses}
use Rattle.spans.specs.Map.{join, map_of}
use Rattle.spans.specs.Sweep.{next_of, sweep_from, swept_map, bounds_of}
use Rattle.spans.proofs.Steady.{Alike, Steady, steady-pairs}
use Rattle.spans.proofs.Sweep.{swept-is-map}

abbrev region : List (ℕ × ℕ)
region = (0x10000, 0x1ffff) ∷ []

-- the rights 5 in the region, 3 elsewhere
pub rights_at : ℕ → ℕ
rights_at x = cond (encloses 0x10000 0x1ffff x) 5 3

steady : Steady rights_at (bounds_of region)
unfolding Alike rights_at
steady = steady-pairs rights_at region (λ x y a. rw a.0)

rows : swept_map rights_at (bounds_of region) (2 ^ 20) ≡ more (more (more none 0 0xffff 3) 0x10000 0x1ffff 5) 0x20000 0xfffff 3
unfolding swept_map sweep_from next_of bounds_of join rights_at
rows = refl

pub example : map_of rights_at (2 ^ 20) ≡ more (more (more none 0 0xffff 3) 0x10000 0x1ffff 5) 0x20000 0xfffff 3
example = sym (swept-is-map steady (2 ^ 20)) ∙ rows
