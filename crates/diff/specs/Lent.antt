-- Lent numbers that are a map of the window w, and the rights in them.
use Rattle.std.specs.Prelude.{Bool, false, ◌&&◌, List, [], ◌∷◌, ℕ, ◌+◌, leb, eqb}
use Rattle.spans.specs.Lookup.{lookup_in}
use Rattle.spans.specs.Rows.{rights}

-- the rows of l go on from the offset at to the end of the window: the first start is at, a later one the end before plus 1, no end is below its
-- start, and the last end is w less 1
unfoldable pub tiles_from : ℕ → ℕ → List ℕ → Bool
tiles_from at w [] = eqb at w
tiles_from at w (s ∷ []) = false
tiles_from at w (s ∷ e ∷ []) = false
tiles_from at w (s ∷ e ∷ q ∷ rest) = eqb s at && leb s e && tiles_from (e + 1) w rest

-- "01's rule for a map as made", of starts and ends: `tiles-are` of proofs/MapTiles.antt says it by the record `Tiles` of spans
abbrev pub tiles : ℕ → List ℕ → Bool
tiles w m = tiles_from 0 w m

-- the rights of an offset in the numbers m: those of the row that a lookup finds
unfoldable pub map_rights : List ℕ → ℕ → ℕ
map_rights m x = rights (lookup_in m x) 0
