-- The boundaries between which a guard's rights stay the same: for proofs and worked examples alone, no part of what a map is.
-- w are the words of a guard's regions.
use Rattle.std.specs.Prelude.{List, [], ◌∷◌, ℕ, zero, suc, ◌+◌, get_or}
use Rattle.regions.specs.Words.{base, sub, start_at, end_at}

-- START and END of the region or subregion at p
abbrev pub pair_at : List ℕ → ℕ → ℕ × ℕ
pair_at w p = (get_or w (p + start_at) 0, get_or w (p + end_at) 0)

-- those of n base regions and their subregions, enabled or not
unfoldable pub pairs_of : List ℕ → ℕ → List (ℕ × ℕ)
pairs_of w zero = []
pairs_of w (suc x) = pair_at w (sub x 1) ∷ pair_at w (sub x 0) ∷ pair_at w (base x) ∷ pairs_of w x
