-- A row, or span (document 01 has both names), is three numbers: start, end, rights. It stands for the offsets from its start to its end, both included.
use Rattle.std.specs.Prelude.{ℕ, zero, suc, ◌+◌, ◌*◌, Bool, ◌&&◌, List, [], ◌∷◌, ◌++◌, leb, get_or, drop}

-- rows in the order of memory, the last row outermost: `more rs s e q` is rs and then the row from s to e with the rights q
pub data Rows : Type 0 where
  none : Rows
  more : Rows → ℕ → ℕ → ℕ → Rows

-- the rows as numbers in memory
unfoldable pub flat : Rows → List ℕ
flat none = []
flat (more rs s e q) = flat rs ++ s ∷ e ∷ q ∷ []

-- how many rows
unfoldable pub size : Rows → ℕ
size none = zero
size (more rs s e q) = suc (size rs)

-- the numbers l with the rows rs over their front, the rest unchanged
unfoldable pub filled : Rows → List ℕ → List ℕ
filled rs l = flat rs ++ drop (3 * size rs) l

-- start, end and rights of row k of the numbers m, counted from 0
abbrev pub start : List ℕ → ℕ → ℕ
start m k = get_or m (3 * k) 0

abbrev pub end : List ℕ → ℕ → ℕ
end m k = get_or m (3 * k + 1) 0

abbrev pub rights : List ℕ → ℕ → ℕ
rights m k = get_or m (3 * k + 2) 0

-- the first n rows of the numbers m
unfoldable pub rows_in : ℕ → List ℕ → Rows
rows_in zero m = none
rows_in (suc k) m = more (rows_in k m) (start m k) (end m k) (rights m k)

-- whether x is from s to e, both included; never where e is below s
abbrev pub encloses : ℕ → ℕ → ℕ → Bool
encloses s e x = leb s x && leb x e
