-- A map worked out from boundaries, which is how code makes one. The function `near` promises `nearer`. The rest is for proofs, and for worked
-- examples, which compute a map by `swept_map`: it is the map of f where f changes only at boundaries (`swept-is-map` of proofs/Sweep.antt).
use Rattle.std.specs.Prelude.{ℕ, zero, suc, ◌+◌, ◌-◌, ◌&&◌, cond, List, [], ◌∷◌, ltb, length}
use Rattle.spans.specs.Rows.{Rows, none}
use Rattle.spans.specs.Map.{join}

-- the boundary b where it lies between at and m, else m
abbrev pub nearer : ℕ → ℕ → ℕ → ℕ
nearer at b m = cond (ltb at b && ltb b m) b m

-- the least boundary above at, or w where there is none below w
unfoldable pub next_of : List ℕ → ℕ → ℕ → ℕ
next_of [] at w = w
next_of (b ∷ bs) at w = nearer at b (next_of bs at w)

-- the rows rs, which end before at, with the spans from boundary to boundary behind them, up to w or for the given number of turns
unfoldable pub sweep_from : (ℕ → ℕ) → List ℕ → ℕ → ℕ → ℕ → Rows → Rows
sweep_from f bs w zero at rs = rs
sweep_from f bs w (suc turns) at rs =
    let on = sweep_from f bs w turns (next_of bs at w) (join rs at (next_of bs at w - 1) (f at)) in
    cond (ltb at w) on rs

-- the rows of a sweep over the whole window; each turn but the last ends at a boundary, so the turns suffice
unfoldable pub swept_map : (ℕ → ℕ) → List ℕ → ℕ → Rows
swept_map f bs w = sweep_from f bs w (suc (length bs)) 0 none

-- the boundaries of pairs of a start and an end: each start, and each offset past an end
unfoldable pub bounds_of : List (ℕ × ℕ) → List ℕ
bounds_of [] = []
bounds_of (p ∷ ps) = p.0 ∷ (p.1 + 1) ∷ bounds_of ps
