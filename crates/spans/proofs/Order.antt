-- Cases on the order of two numbers. Assumes nothing.
use Prim.Native.Nat.{ℕ, ◌≤◌, ◌<◌}
use mathlib.Core.Path.{◌≡◌, refl, sym, ◌∙◌}
use mathlib.Core.Bool.{Bool, true, false}
use mathlib.Core.Logic.{◌⊎◌, inl, inr, ⊎_elim, ◌≢◌}
use native.Mathlib.Omega.{arith}
use lib.Dec.{leb, ltb, eqb}
use borrow.Author.Tests.{ltb-true, ltb-false, eqb-true, eqb-false, le-leb, lt-leb}

pub below_or : (x w : ℕ) → (x < w) ⊎ (w ≤ x)
below_or x w = by (ltb x w) refl
  where
    by : (t : Bool) → ltb x w ≡ t → (x < w) ⊎ (w ≤ x)
    by true e = inl (ltb-true x w e)
    by false e = inr (ltb-false x w e)

pub below-or-at : (x w : ℕ) → x ≤ w → (x < w) ⊎ (x ≡ w)
below-or-at x w h = ⊎_elim (λ l. inl l) (λ g. inr (omega arith)) (below_or x w)

pub equal-or : (a b : ℕ) → (a ≡ b) ⊎ (a ≢ b)
equal-or a b = by (eqb a b) refl
  where
    by : (t : Bool) → eqb a b ≡ t → (a ≡ b) ⊎ (a ≢ b)
    by true e = inl (eqb-true a b e)
    by false e = inr (eqb-false a b e)

-- two tests are the same where each passes if the other does
pub same_test : (a b c d : ℕ) → (a ≤ b → c ≤ d) → (c ≤ d → a ≤ b) → leb a b ≡ leb c d
same_test a b c d f g =
    ⊎_elim
    (λ l.
    ⊎_elim
    (λ k. lt-leb a b l ∙ sym (lt-leb c d k))
    (λ k. let h : a ≤ b = g k in absurd (omega arith))
    (below_or d c))
    (λ l. le-leb a b l ∙ sym (le-leb c d (f l)))
    (below_or b a)
