-- "rows as start, end, old, new, count". A row stands for the offsets from its start to its end, both included.
use Rattle.std.specs.Prelude.{List, [], ◌∷◌, ◌++◌, ℕ, zero, suc, ◌+◌, ◌*◌, ◌≤◌, ◌<◌, get_or, drop}
use Rattle.diff.specs.Bits.{differing}

-- rows in the order of memory, the last row outermost: `more rs s e a b` is rs and then the row from s to e, with the old word a and the new word b
pub data DiffRows : Type 0 where
  none : DiffRows
  more : DiffRows → ℕ → ℕ → ℕ → ℕ → DiffRows

abbrev pub diff_row_numbers : ℕ
diff_row_numbers = 5

-- the rows as numbers in memory
unfoldable pub flat_diff : DiffRows → List ℕ
flat_diff none = []
flat_diff (more rs s e a b) = flat_diff rs ++ s ∷ e ∷ a ∷ b ∷ differing a b ∷ []

-- how many rows
unfoldable pub size_diff : DiffRows → ℕ
size_diff none = zero
size_diff (more rs s e a b) = suc (size_diff rs)

-- the numbers l with the rows rs over their front, the rest unchanged
unfoldable pub filled_diff : DiffRows → List ℕ → List ℕ
filled_diff rs l = flat_diff rs ++ drop (diff_row_numbers * size_diff rs) l

-- start, end, old, new and count of row k of the numbers m, counted from 0
abbrev pub start : List ℕ → ℕ → ℕ
start m k = get_or m (diff_row_numbers * k) 0

abbrev pub end : List ℕ → ℕ → ℕ
end m k = get_or m (diff_row_numbers * k + 1) 0

abbrev pub old : List ℕ → ℕ → ℕ
old m k = get_or m (diff_row_numbers * k + 2) 0

abbrev pub new : List ℕ → ℕ → ℕ
new m k = get_or m (diff_row_numbers * k + 3) 0

abbrev pub count : List ℕ → ℕ → ℕ
count m k = get_or m (diff_row_numbers * k + 4) 0

-- one of the first n rows of the numbers m encloses x
pub record Enclosed (n : ℕ) (m : List ℕ) (x : ℕ) : Type 0 where
  pub row : ℕ
  pub held : row < n
  pub low : start m row ≤ x
  pub high : x ≤ end m row
