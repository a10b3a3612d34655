-- Rows as numbers in memory, and rows read back from numbers.
use Prim.Native.Nat.{ℕ, zero, suc, ◌+◌, ◌*◌, ◌≤◌}
use mathlib.Core.Path.{◌≡◌, refl, ap, ◌∙◌}
use mathlib.Core.List.{List, [], ◌∷◌, ◌++◌, append_assoc}
use native.Mathlib.Omega.{arith}
use native.Mathlib.Numerals.{add-one, add-two, add-three, add-four, add_five}
use lib.ListN.{length, length-append, length-drop, get_or, take, drop}
use lib.Seq.{drop-cons, get_or-append-add, take_at, drop_at, take-add}
use Rattle.diff.specs.Bits.{differing}
use Rattle.diff.specs.Rows.{DiffRows, none, more, diff_row_numbers, flat_diff, size_diff, filled_diff, start, end, old, new, count}

pub length-flat : (rs : DiffRows) → length (flat_diff rs) ≡ diff_row_numbers * size_diff rs
unfolding flat_diff size_diff
length-flat none = refl
length-flat (more r s e a b) = length-append (flat_diff r) (s ∷ e ∷ a ∷ b ∷ differing a b ∷ []) ∙ omega (arith, length-flat r)

-- ---- the row behind rs, with any numbers behind it

module _ (rs : DiffRows) (s e a b : ℕ) (rest : List ℕ) where
  -- the same numbers, with the row's own first
  pub flat-more : flat_diff (more rs s e a b) ++ rest ≡ flat_diff rs ++ s ∷ e ∷ a ∷ b ∷ differing a b ∷ rest
  unfolding flat_diff
  flat-more = append_assoc (flat_diff rs) (s ∷ e ∷ a ∷ b ∷ differing a b ∷ []) rest

  row : List ℕ
  row = s ∷ e ∷ a ∷ b ∷ differing a b ∷ rest

  at_row : (j : ℕ) → get_or (flat_diff rs ++ row) (diff_row_numbers * size_diff rs + j) 0 ≡ get_or row j 0
  at_row j = rw (← length-flat rs) (get_or-append-add (flat_diff rs) row j 0)

  pub row-start : start (flat_diff rs ++ s ∷ e ∷ a ∷ b ∷ differing a b ∷ rest) (size_diff rs) ≡ s
  unfolding row
  row-start = let i : diff_row_numbers * size_diff rs ≡ diff_row_numbers * size_diff rs + 0 = omega arith in rw i (at_row 0)

  pub row-end : end (flat_diff rs ++ s ∷ e ∷ a ∷ b ∷ differing a b ∷ rest) (size_diff rs) ≡ e
  unfolding row
  row-end = at_row 1

  pub row_old : old (flat_diff rs ++ s ∷ e ∷ a ∷ b ∷ differing a b ∷ rest) (size_diff rs) ≡ a
  unfolding row
  row_old = at_row 2

  pub row_new : new (flat_diff rs ++ s ∷ e ∷ a ∷ b ∷ differing a b ∷ rest) (size_diff rs) ≡ b
  unfolding row
  row_new = at_row 3

  pub row_count : count (flat_diff rs ++ s ∷ e ∷ a ∷ b ∷ differing a b ∷ rest) (size_diff rs) ≡ differing a b
  unfolding row
  row_count = at_row 4

-- ---- numbers read as rows

-- the first n rows of the numbers m
unfoldable pub rows_in : ℕ → List ℕ → DiffRows
rows_in zero m = none
rows_in (suc k) m = more (rows_in k m) (start m k) (end m k) (old m k) (new m k)

pub size-rows : (n : ℕ) (m : List ℕ) → size_diff (rows_in n m) ≡ n
unfolding rows_in size_diff
size-rows zero m = refl
size-rows (suc k) m = ap suc (size-rows k m)

-- five numbers at i, and the rest
five : (m : List ℕ) (i : ℕ) → i + 5 ≤ length m
    → drop i m ≡ get_or m i 0 ∷ get_or m (i + 1) 0 ∷ get_or m (i + 2) 0 ∷ get_or m (i + 3) 0 ∷ get_or m (i + 4) 0 ∷ drop (i + 5) m
five m i h =
    simp (add-one, add-two, add-three, add-four, add_five)
    (rw (
      drop-cons m i 0 (omega arith),
      drop-cons m (suc i) 0 (omega arith),
      drop-cons m (suc (suc i)) 0 (omega arith),
      drop-cons m (suc (suc (suc i))) 0 (omega arith),
      drop-cons m (suc (suc (suc (suc i)))) 0 (omega arith),
    ))

-- where each count is that of its row's words, the rows' numbers are those that were read
pub flat_rows : (n : ℕ) (m : List ℕ) → diff_row_numbers * n ≤ length m → ((k : ℕ) → suc k ≤ n → count m k ≡ differing (old m k) (new m k))
    → flat_diff (rows_in n m) ≡ take (diff_row_numbers * n) m
unfolding rows_in flat_diff
flat_rows zero m h c = refl
flat_rows (suc k) m h c =
    let i : diff_row_numbers * suc k ≡ diff_row_numbers * k + 5 = omega arith in
    rw (i, take-add (diff_row_numbers * k) 5 m, five m (diff_row_numbers * k) (omega arith), flat_rows k m (omega arith) (λ j l. c j (omega arith)), c k (omega arith))

-- ---- rows over the front of numbers

module _ (rs : DiffRows) (l : List ℕ) where
  pub filled-front : take (diff_row_numbers * size_diff rs) (filled_diff rs l) ≡ flat_diff rs
  unfolding filled_diff
  filled-front = take_at (flat_diff rs) (drop (diff_row_numbers * size_diff rs) l) (diff_row_numbers * size_diff rs) (length-flat rs)

  pub filled-rest : drop (diff_row_numbers * size_diff rs) (filled_diff rs l) ≡ drop (diff_row_numbers * size_diff rs) l
  unfolding filled_diff
  filled-rest = drop_at (flat_diff rs) (drop (diff_row_numbers * size_diff rs) l) (diff_row_numbers * size_diff rs) (length-flat rs)

  pub filled-length : diff_row_numbers * size_diff rs ≤ length l → length (filled_diff rs l) ≡ length l
  unfolding filled_diff
  filled-length h = simp (length-append, length-drop) (omega (arith, length-flat rs))
