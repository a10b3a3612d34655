-- Folds over numbers of which each gives the same.
use mathlib.Core.Bool.{Bool, ◌&&◌, ◌||◌}
use mathlib.Core.Path.{◌≡◌, refl, ap₂}
use Prim.Native.Nat.{ℕ, zero, suc, ◌<◌}
use native.Mathlib.Omega.{arith}
use Rattle.access.specs.Fold.{any, all}

pub any_same : (n : ℕ) (p q : ℕ → Bool) → ((x : ℕ) → x < n → p x ≡ q x) → any n p ≡ any n q
any_same zero p q h = refl
any_same (suc n) p q h = ap₂ ◌||◌ (any_same n p q (λ x l. h x (omega arith))) (h n (omega arith))

pub all_same : (n : ℕ) (p q : ℕ → Bool) → ((x : ℕ) → x < n → p x ≡ q x) → all n p ≡ all n q
all_same zero p q h = refl
all_same (suc n) p q h = ap₂ ◌&&◌ (all_same n p q (λ x l. h x (omega arith))) (h n (omega arith))
