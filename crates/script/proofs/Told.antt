-- What a reading says, from what was read, and of tests that hold together each.
use mathlib.Core.Bool.{Bool, true, false, ◌&&◌, false≢true}
use mathlib.Core.Path.{◌≡◌, refl, sym, ◌∙◌}

-- r is the reading f, and is v
pub told {ℓ} : {A : Type ℓ} {r f v : A} → r ≡ f → r ≡ v → f ≡ v
told p q = sym p ∙ q

pub both_true : (t u : Bool) → (t && u) ≡ true → (t ≡ true) × (u ≡ true)
both_true true u h = (refl, h)
both_true false u h = absurd (false≢true h)
