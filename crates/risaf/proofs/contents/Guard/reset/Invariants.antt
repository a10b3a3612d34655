use mathlib.Core.List.{List}
use mathlib.Core.Path.{◌≡◌}
use Prim.Native.Nat.{ℕ, zero, suc, ◌+◌, ◌*◌, ◌≤◌, ◌-◌, ◌/◌}
use lib.ListN.{set, replicate}
use Rattle.regions.specs.Words.{subregion_words, end_at}
use Rattle.risaf.specs.Contents.{regions_words}
use Rattle.risaf.proofs.contents.Guard.reset.Given as goal

-- how many base regions and subregions there are
abbrev pub count : ℕ
count = regions_words / subregion_words

-- the first i of them reset, END to this
abbrev pub reset_to : ℕ → ℕ → List ℕ
reset_to end zero = replicate regions_words 0
reset_to end (suc i) = set (reset_to end i) (subregion_words * i + end_at) end

abbrev pub invariant-loop-i : goal.invariant-loop-i
invariant-loop-i l = (l.i ≤ count) × (l.regions ≡ reset_to l.end l.i)

abbrev pub decreases-loop-i : goal.decreases-loop-i
decreases-loop-i l = count - l.i
