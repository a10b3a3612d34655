-- A line's fields: document 01, "fields parted by tabs".
use Prim.Native.Char.{code}
use Rattle.std.specs.Prelude.{Bool, true, false, ◌&&◌, cond, List, [], ◌∷◌, ℕ, eqb, get_or}

-- the most bytes of a line
abbrev pub line_most : ℕ
line_most = 64

abbrev pub tab : ℕ
tab = code "\t"

-- the fields fs with b before the first
unfoldable pub onto : ℕ → List (List ℕ) → List (List ℕ)
onto b [] = (b ∷ []) ∷ []
onto b (f ∷ fs) = (b ∷ f) ∷ fs

-- what stands before, between and after the tabs: a line with n tabs has n + 1 fields
unfoldable pub fields_of : List ℕ → List (List ℕ)
fields_of [] = [] ∷ []
fields_of (b ∷ bs) =
    let fs = fields_of bs in
    cond (eqb b tab) ([] ∷ fs) (onto b fs)

-- field k, counted from 0
abbrev pub field_at : List (List ℕ) → ℕ → List ℕ
field_at fs k = get_or fs k []

-- the same bytes
unfoldable pub same : List ℕ → List ℕ → Bool
same [] [] = true
same [] (b ∷ t) = false
same (a ∷ s) [] = false
same (a ∷ s) (b ∷ t) = eqb a b && same s t
