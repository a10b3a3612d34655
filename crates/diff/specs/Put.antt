-- What one more span changes in numbers l whose first n rows are in use, for any l and n. Where those are the rows rs, it leaves `with_span rs` there
-- (`put-joins` of proofs/Added.antt).
use Rattle.std.specs.Prelude.{Bool, ◌&&◌, cond, List, ℕ, ◌+◌, ◌-◌, ◌*◌, ltb, eqb, get_or, set}
use Rattle.map.specs.Fill as map
use Rattle.diff.specs.Bits.{differing}
use Rattle.diff.specs.Diff.{goes_on}
use Rattle.diff.specs.Rows.{diff_row_numbers}

-- there is a last row, its end, old and new being the second, third and fourth of its numbers, and the span goes on it
unfoldable pub continues : List ℕ → ℕ → ℕ → ℕ → ℕ → Bool
continues l n s a b =
    let i = diff_row_numbers * n - diff_row_numbers in
    ltb 0 n && goes_on (get_or l (i + 1) 0) (get_or l (i + 2) 0) (get_or l (i + 3) 0) s a b

-- how many rows are in use after one more span
unfoldable pub count_with : List ℕ → ℕ → ℕ → ℕ → ℕ → ℕ
count_with l n s a b = cond (eqb a b) n (cond (continues l n s a b) n (n + 1))

-- the numbers after it
unfoldable pub numbers_with : List ℕ → ℕ → ℕ → ℕ → ℕ → ℕ → List ℕ
numbers_with l n s e a b =
    let i = diff_row_numbers * n in
    cond (eqb a b) l
    (cond (continues l n s a b)
    (set l (i - diff_row_numbers + 1) e)
    (set (set (set (set (set l i s) (i + 1) e) (i + 2) a) (i + 3) b) (i + 4) (differing a b)))

-- where in the map the row that encloses `at` begins, which is the row at i or the next
unfoldable pub past_row : List ℕ → ℕ → ℕ → ℕ
past_row m i at = cond (ltb (get_or m (i + 1) 0) at) (i + map.row_numbers) i
