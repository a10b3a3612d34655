-- Rows as numbers in memory, and rows read back from numbers. Assumes nothing.
use Prim.Native.Nat.{ℕ, zero, suc, ◌+◌, ◌*◌, ◌≤◌}
use mathlib.Core.Path.{◌≡◌, refl, sym, ap, ◌∙◌}
use mathlib.Core.List.{List, [], ◌∷◌, ◌++◌, append_assoc}
use native.Mathlib.Omega.{arith}
use native.Mathlib.Numerals.{add-one, add-two, add-three}
use lib.ListN.{length, length-append, length-drop, get_or, take, drop}
use lib.Seq.{drop-cons, get_or-append-add, take_at, drop_at, take-add}
use Rattle.spans.specs.Rows.{Rows, none, more, flat, size, filled, start, end, rights, rows_in}

pub length-flat : (rs : Rows) → length (flat rs) ≡ 3 * size rs
unfolding flat size
length-flat none = refl
length-flat (more r s e q) = length-append (flat r) (s ∷ e ∷ q ∷ []) ∙ omega (arith, length-flat r)

-- ---- the row behind rs, with any numbers behind it

module _ (rs : Rows) (s e q : ℕ) (rest : List ℕ) where
  -- the same numbers, with the row's own first
  pub flat-more : flat (more rs s e q) ++ rest ≡ flat rs ++ s ∷ e ∷ q ∷ rest
  unfolding flat
  flat-more = append_assoc (flat rs) (s ∷ e ∷ q ∷ []) rest

  at_row : (j : ℕ) → get_or (flat rs ++ s ∷ e ∷ q ∷ rest) (3 * size rs + j) 0 ≡ get_or (s ∷ e ∷ q ∷ rest) j 0
  at_row j = rw (← length-flat rs) (get_or-append-add (flat rs) (s ∷ e ∷ q ∷ rest) j 0)

  pub row-start : start (flat rs ++ s ∷ e ∷ q ∷ rest) (size rs) ≡ s
  row-start = let i : 3 * size rs ≡ 3 * size rs + 0 = omega arith in rw i (at_row 0)

  pub row-end : end (flat rs ++ s ∷ e ∷ q ∷ rest) (size rs) ≡ e
  row-end = at_row 1

  pub row-rights : rights (flat rs ++ s ∷ e ∷ q ∷ rest) (size rs) ≡ q
  row-rights = at_row 2

-- ---- numbers read as rows

pub size-rows : (n : ℕ) (m : List ℕ) → size (rows_in n m) ≡ n
unfolding rows_in size
size-rows zero m = refl
size-rows (suc k) m = ap suc (size-rows k m)

-- three numbers at i, and the rest
pub three : (m : List ℕ) (i : ℕ) → i + 3 ≤ length m → drop i m ≡ get_or m i 0 ∷ get_or m (i + 1) 0 ∷ get_or m (i + 2) 0 ∷ drop (i + 3) m
three m i h =
    simp (add-one, add-two, add-three)
    (rw (drop-cons m i 0 (omega arith), drop-cons m (suc i) 0 (omega arith), drop-cons m (suc (suc i)) 0 (omega arith)))

pub rows-flat : (rs : Rows) (rest : List ℕ) → rows_in (size rs) (flat rs ++ rest) ≡ rs
unfolding rows_in size
rows-flat none rest = refl
rows-flat (more r s e q) rest =
    rw (flat-more r s e q rest, row-start r s e q rest, row-end r s e q rest, row-rights r s e q rest, rows-flat r (s ∷ e ∷ q ∷ rest))

pub flat_rows : (n : ℕ) (m : List ℕ) → 3 * n ≤ length m → flat (rows_in n m) ≡ take (3 * n) m
unfolding rows_in flat
flat_rows zero m h = refl
flat_rows (suc k) m h =
    let i : 3 * suc k ≡ 3 * k + 3 = omega arith in
    rw (i, take-add (3 * k) 3 m, three m (3 * k) (omega arith), flat_rows k m (omega arith))

-- rows with the same numbers are the same
pub flat-same : (rs rs' : Rows) → flat rs ≡ flat rs' → rs ≡ rs'
flat-same rs rs' h =
    let n : size rs ≡ size rs' = omega (arith, length-flat rs, length-flat rs', ap length h) in
    sym (rows-flat rs []) ∙ rw (h, n) (rows-flat rs' [])

-- ---- rows over the front of numbers

module _ (rs : Rows) (l : List ℕ) where
  pub filled-front : take (3 * size rs) (filled rs l) ≡ flat rs
  unfolding filled
  filled-front = take_at (flat rs) (drop (3 * size rs) l) (3 * size rs) (length-flat rs)

  pub filled-rest : drop (3 * size rs) (filled rs l) ≡ drop (3 * size rs) l
  unfolding filled
  filled-rest = drop_at (flat rs) (drop (3 * size rs) l) (3 * size rs) (length-flat rs)

  pub filled-length : 3 * size rs ≤ length l → length (filled rs l) ≡ length l
  unfolding filled
  filled-length h = simp (length-append, length-drop) (omega (arith, length-flat rs))
