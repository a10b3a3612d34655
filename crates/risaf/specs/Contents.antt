-- A guard's registers as stored, where each word lies, and reset: document 01, "Guards".
use Rattle.std.specs.Prelude.{List, [], ◌∷◌, ◌++◌, ℕ, zero, suc, ◌+◌, ◌*◌, get_or, set, drop}
use Rattle.regions.specs.Words.{most_regions, region_words}
use Rattle.risaf.specs.Guards.{low_bits}
use Rattle.risaf.specs.declared.contents.Guard.{Guard}

-- ---- a guard's words: CR, IASR, IAESR, IADDR, then the regions'

abbrev pub cr_at : ℕ
cr_at = 0

abbrev pub iasr_at : ℕ
iasr_at = 1

abbrev pub iaesr_at : ℕ
iaesr_at = 2

abbrev pub iaddr_at : ℕ
iaddr_at = 3

abbrev pub head_words : ℕ
head_words = 4

abbrev pub regions_words : ℕ
regions_words = most_regions * region_words

abbrev pub guard_size : ℕ
guard_size = head_words + regions_words

abbrev pub guard_words : Guard → List ℕ
guard_words g = g.cr ∷ g.iasr ∷ g.iaesr ∷ g.iaddr ∷ g.regions

-- words as a guard
abbrev pub guard_from : List ℕ → Guard
guard_from w =
    record {
      cr = get_or w cr_at 0;
      iasr = get_or w iasr_at 0;
      iaesr = get_or w iaesr_at 0;
      iaddr = get_or w iaddr_at 0;
      regions = drop head_words w;
    }

-- the guard with another word at a place
unfoldable pub with_word : Guard → ℕ → ℕ → Guard
with_word g place v = guard_from (set (guard_words g) place v)

-- ---- reset: all 0 but each END, the last byte of the first granule

-- Q-6: "reset END is granule less 1"
abbrev pub end_reset : ℕ → ℕ
end_reset granule = low_bits granule

abbrev pub region_reset : ℕ → List ℕ
region_reset granule =
    let end = end_reset granule in
    0 ∷ 0 ∷ end ∷ 0 ∷ 0 ∷ 0 ∷ end ∷ 0 ∷ 0 ∷ 0 ∷ end ∷ 0 ∷ []

abbrev pub regions_reset : ℕ → ℕ → List ℕ
regions_reset granule zero = []
regions_reset granule (suc n) = region_reset granule ++ regions_reset granule n

unfoldable pub reset : ℕ → Guard
reset granule = record { cr = 0; iasr = 0; iaesr = 0; iaddr = 0; regions = regions_reset granule most_regions }
