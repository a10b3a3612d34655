-- What a lookup of an offset finds in numbers that are rows, whatever the numbers are.
use Rattle.std.specs.Prelude.{ℕ, ◌+◌, ◌≤◌, ◌≡◌, cond, List, [], ◌∷◌}
use Rattle.spans.specs.Rows.{encloses}

-- the first row whose start and end enclose x, as its three numbers, or nothing; one or two numbers left over at the end are no row
unfoldable pub lookup_in : List ℕ → ℕ → List ℕ
lookup_in [] x = []
lookup_in (s ∷ []) x = []
lookup_in (s ∷ e ∷ []) x = []
lookup_in (s ∷ e ∷ q ∷ rest) x = cond (encloses s e x) (s ∷ e ∷ q ∷ []) (lookup_in rest x)

-- where among the numbers that row begins, or their count where there is none
unfoldable pub row_place : List ℕ → ℕ → ℕ
row_place [] x = 0
row_place (s ∷ []) x = 1
row_place (s ∷ e ∷ []) x = 2
row_place (s ∷ e ∷ q ∷ rest) x = cond (encloses s e x) 0 (row_place rest x + 3)

-- the numbers l are one row, which encloses x and has f's rights at x: what a lookup finds in a map of f
pub record Finds (f : ℕ → ℕ) (x : ℕ) (l : List ℕ) : Type 0 where
  pub from : ℕ
  pub to : ℕ
  pub row : l ≡ from ∷ to ∷ f x ∷ []
  pub low : from ≤ x
  pub high : x ≤ to
