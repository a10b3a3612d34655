-- A row that was looked up, number by number.
use mathlib.Core.List.{List, [], ◌∷◌}
use mathlib.Core.Logic.{◌⊎◌, inl, inr}
use mathlib.Core.Path.{◌≡◌, refl}
use Prim.Native.Nat.{ℕ, zero, suc, ◌<◌}
use native.Mathlib.Omega.{arith}
use lib.ListN.{length, get_or}
use Rattle.map.specs.Fill.{row_numbers}
use Rattle.spans.specs.Lookup.{lookup_in}
use Rattle.spans.proofs.Found.{found-or-none}

-- a number that there is does not depend on what stands in for one that there is not
pub read_number : (l : List ℕ) (i d d' : ℕ) → i < length l → get_or l i d ≡ get_or l i d'
read_number [] i d d' h = absurd (omega arith)
read_number (y ∷ l) zero d d' h = refl
read_number (y ∷ l) (suc i) d d' h = read_number l i d d' (omega arith)

pub none_found : (l : List ℕ) (x : ℕ) → (length (lookup_in l x) ≡ row_numbers → ⊥) → lookup_in l x ≡ []
none_found l x h = go (found-or-none l x)
  where
    go : (length (lookup_in l x) ≡ row_numbers) ⊎ (lookup_in l x ≡ []) → lookup_in l x ≡ []
    go (inl e) = absurd (h e)
    go (inr e) = e
