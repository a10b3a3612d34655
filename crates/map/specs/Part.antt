-- The used part of lent numbers.
use Rattle.std.specs.Prelude.{cond, List, [], ℕ, leb, length, take}

-- the first used numbers of l; none where l has fewer
unfoldable pub used_part : List ℕ → ℕ → List ℕ
used_part l used = cond (leb used (length l)) (take used l) []
