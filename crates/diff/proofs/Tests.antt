-- What tests that were passed say, and cases on them.
use Prim.Native.Nat.{ℕ, ◌+◌}
use mathlib.Core.Path.{◌≡◌, refl}
use mathlib.Core.Bool.{Bool, true, false, ◌&&◌, ◌||◌, false≢true, true≢false}
use mathlib.Core.Logic.{◌⊎◌, inl, inr}
use lib.Dec.{eqb}
use borrow.Author.Tests.{eq-eqb, eqb-true}
use Rattle.diff.specs.Diff.{goes_on}

pub both : (p q : Bool) → (p && q) ≡ true → (p ≡ true) × (q ≡ true)
both true q h = (refl, h)
both false q h = absurd (false≢true h)

pub neither : (p q : Bool) → (p || q) ≡ false → (p ≡ false) × (q ≡ false)
neither true q h = absurd (true≢false h)
neither false q h = (refl, h)

-- whether a span goes on a row
pub goes : (e₀ a₀ b₀ s a b : ℕ) → e₀ + 1 ≡ s → a₀ ≡ a → b₀ ≡ b → goes_on e₀ a₀ b₀ s a b ≡ true
goes e₀ a₀ b₀ s a b h k l = simp (eq-eqb (e₀ + 1) s h, eq-eqb a₀ a k, eq-eqb b₀ b l)

pub gone : (e₀ a₀ b₀ s a b : ℕ) → goes_on e₀ a₀ b₀ s a b ≡ true → (e₀ + 1 ≡ s) × (a₀ ≡ a) × (b₀ ≡ b)
gone e₀ a₀ b₀ s a b h =
    let p = both (eqb (e₀ + 1) s && eqb a₀ a) (eqb b₀ b) h in
    let q = both (eqb (e₀ + 1) s) (eqb a₀ a) p.0 in
    (eqb-true (e₀ + 1) s q.0, eqb-true a₀ a q.1, eqb-true b₀ b p.1)

pub true-or-false : (t : Bool) → (t ≡ true) ⊎ (t ≡ false)
true-or-false true = inl refl
true-or-false false = inr refl
