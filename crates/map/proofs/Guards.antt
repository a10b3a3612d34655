-- Facts on the guards: their shapes, and the words of their regions.
use mathlib.Core.List.{List}
use mathlib.Core.Path.{◌≡◌}
use Prim.Native.Nat.{ℕ, ◌^◌, ◌≤◌}
use lib.ListN.{length}
use Rattle.regions.specs.Words.{most_regions}
use Rattle.risaf.specs.Contents.{regions_words}
use Rattle.risaf.specs.Guards.{shape_of}
use Rattle.risaf.proofs.Shapes.{regions-most, window-most, place-lt}
use Rattle.device.specs.Layout.{state_words, state_of, regions_in}
use Rattle.device.specs.State.{guard_of}
use Rattle.device.proofs.GuardLayout.{regions-read, regions-length}

pub small : (n : ℕ) → ((shape_of n).regions ≤ most_regions) × ((shape_of n).window ≤ 2 ^ 32)
small n = (regions-most n, window-most n)

-- ---- the words of its regions

pub guard-regions : (m : List ℕ) (n : ℕ) → length m ≡ state_words → regions_in m (shape_of n).place ≡ (guard_of (state_of m) n).regions
unfolding guard_of
guard-regions m n h = regions-read m (shape_of n).place h (place-lt n)

pub guard-regions-length : (m : List ℕ) (n : ℕ) → length m ≡ state_words → length (guard_of (state_of m) n).regions ≡ regions_words
unfolding guard_of
guard-regions-length m n h = regions-length m (shape_of n).place h (place-lt n)
