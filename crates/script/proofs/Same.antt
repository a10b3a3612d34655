-- Bytes compared one by one.
use Prim.Native.Char.{code}
use mathlib.Core.Bool.{Bool, true, false, ◌&&◌, ◌||◌, and-false, cond}
use mathlib.Core.List.{List, [], ◌∷◌}
use mathlib.Core.Path.{◌≡◌, refl, ap}
use Prim.Native.Nat.{ℕ, suc, ◌+◌, ◌≤◌, ◌<◌}
use native.Mathlib.Numerals.{add-one}
use borrow.Author.Tests.{ne_eqb}
use lib.Dec.{eqb}
use lib.ListN.{length, get_or, take, drop, drop_of_length-le}
use lib.Seq.{drop-cons}
use Rattle.std.specs.Prelude.{Some, None}
use Rattle.script.specs.Fields.{same}
use Rattle.script.specs.Numbers.{either_of, operation_of}

pub same-unequal : (s t : List ℕ) → (length s ≡ length t → ⊥) → same s t ≡ false
unfolding same
same-unequal [] [] h = absurd (h refl)
same-unequal [] (b ∷ t) h = refl
same-unequal (a ∷ s) [] h = refl
same-unequal (a ∷ s) (b ∷ t) h = rw (same-unequal s t (λ e. h (ap suc e))) (and-false (eqb a b))

-- the rest from place i on is compared by its first bytes, and then the rest from i + 1 on
pub same_step : (s t : List ℕ) (i : ℕ) → i < length s → i < length t
    → same (drop i s) (drop i t) ≡ (eqb (get_or s i 0) (get_or t i 0) && same (drop (i + 1) s) (drop (i + 1) t))
unfolding same
same_step s t i h h' = rw (add-one, drop-cons s i 0, drop-cons t i 0)

pub same_end : (s t : List ℕ) (i : ℕ) → length s ≤ i → length t ≤ i → same (drop i s) (drop i t) ≡ true
unfolding same
same_end s t i h h' = rw (drop_of_length-le s h, drop_of_length-le t h')

-- ---- a single letter

pub no-letter : (s : List ℕ) (b : ℕ) → (length s ≡ 1 → ⊥) → same s (b ∷ []) ≡ false
no-letter s b h = same-unequal s (b ∷ []) h

pub one_byte : (line : List ℕ) (p : ℕ) → p < length line → take 1 (drop p line) ≡ get_or line p 0 ∷ []
one_byte line p h = rw (drop-cons line p 0 h)

pub either-byte : (this that b : ℕ) → cond (eqb b this || eqb b that) (Some (eqb b this)) None ≡ either_of this that (b ∷ [])
unfolding either_of same
either-byte this that b = go (eqb b this) (eqb b that)
  where
    go : (t u : Bool) → cond (t || u) (Some t) None ≡ cond (t && true) (Some true) (cond (u && true) (Some false) None)
    go true u = refl
    go false true = refl
    go false false = refl

pub other_byte : (b : ℕ) → (b ≡ code "r" → ⊥) → (b ≡ code "w" → ⊥) → (b ≡ code "x" → ⊥) → None ≡ operation_of (b ∷ [])
unfolding operation_of same
other_byte b r w x = rw (ne_eqb b (code "r") r, ne_eqb b (code "w") w, ne_eqb b (code "x") x)
