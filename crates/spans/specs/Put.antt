-- What one more span changes in numbers l whose first n rows are in use, for any l and n. Where those are the rows rs, it leaves `join rs`
-- there (`put-joins` of proofs/Added.antt).
use Rattle.std.specs.Prelude.{ℕ, ◌+◌, ◌-◌, ◌*◌, ◌/◌, Bool, ◌&&◌, cond, List, ltb, eqb, length, get_or, set}

-- whether the numbers have room for a row behind the first n
abbrev pub room : List ℕ → ℕ → Bool
room l n = ltb n (length l / 3)

-- whether there is a last row and its rights, the number before 3 * n, are q
abbrev pub continues : List ℕ → ℕ → ℕ → Bool
continues l n q = ltb 0 n && eqb (get_or l (3 * n - 1) 0) q

-- how many rows are in use after one more span of the rights q
unfoldable pub put_count : List ℕ → ℕ → ℕ → ℕ
put_count l n q = cond (room l n) (cond (continues l n q) n (n + 1)) n

-- the numbers after one more span: as before without room; else with the last row's end set to e where it has the rights q; else with a row more
unfoldable pub put_in : List ℕ → ℕ → ℕ → ℕ → ℕ → List ℕ
put_in l n s e q =
    cond (room l n)
    (cond (continues l n q)
    (set l (3 * n - 2) e)
    (set (set (set l (3 * n) s) (3 * n + 1) e) (3 * n + 2) q))
    l
