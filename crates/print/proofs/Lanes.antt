-- Small numbers side by side in a word, worked on all at once: each as if it were alone.
use mathlib.Core.List.{List, [], ◌∷◌}
use mathlib.Core.Path.{◌≡◌, refl, ap₂, ◌∙◌}
use Prim.Native.Nat.{ℕ, ◌+◌, ◌*◌, ◌^◌, ◌<◌}
use lib.Bits.{bit_and, and_block}

-- f of each, j bits apart, the first lowest
unfoldable pub lanes : ℕ → (ℕ → ℕ) → List ℕ → ℕ
lanes j f [] = 0
lanes j f (x ∷ xs) = lanes j f xs * 2 ^ j + f x

pub lanes-same : (j : ℕ) (f g : ℕ → ℕ) → ((x : ℕ) → f x ≡ g x) → (xs : List ℕ) → lanes j f xs ≡ lanes j g xs
unfolding lanes
lanes-same j f g e [] = refl
lanes-same j f g e (x ∷ xs) = ap₂ (λ (a b : ℕ). a * 2 ^ j + b) (lanes-same j f g e xs) (e x)

-- a mask that is m in each
pub and-lanes : (j m : ℕ) (f g : ℕ → ℕ) → m < 2 ^ j → ((x : ℕ) → f x < 2 ^ j) → ((x : ℕ) → bit_and (f x) m ≡ g x) → (xs : List ℕ)
    → bit_and (lanes j f xs) (lanes j (λ x. m) xs) ≡ lanes j g xs
unfolding lanes
and-lanes j m f g h few e [] = refl
and-lanes j m f g h few e (x ∷ xs) =
    and_block j (lanes j f xs) (lanes j (λ x. m) xs) (f x) m (few x) h
    ∙ ap₂ (λ (a b : ℕ). a * 2 ^ j + b) (and-lanes j m f g h few e xs) (e x)
