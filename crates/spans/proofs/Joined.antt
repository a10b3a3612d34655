-- One more span behind rows, and the map over a stretch where f stays the same, which is one more span. Assumes nothing.
use Prim.Native.Nat.{ℕ, zero, suc, ◌≤◌}
use mathlib.Core.Path.{◌≡◌, refl}
use mathlib.Core.Logic.{⊎_elim, ◌≢◌}
use native.Mathlib.Omega.{arith}
use borrow.Author.Tests.{eq-eqb, ne_eqb}
use Rattle.spans.specs.Rows.{Rows, none, more, size}
use Rattle.spans.specs.Map.{join, map_of}
use Rattle.spans.proofs.Order.{below-or-at, equal-or}

-- the two ways of a join
module _ (rs : Rows) (s₀ e₀ q₀ s e q : ℕ) where
  pub join-same : q₀ ≡ q → join (more rs s₀ e₀ q₀) s e q ≡ more rs s₀ e q₀
  unfolding join
  join-same h = simp (eq-eqb q₀ q h)

  pub join-other : q₀ ≢ q → join (more rs s₀ e₀ q₀) s e q ≡ more (more rs s₀ e₀ q₀) s e q
  unfolding join
  join-other h = simp (ne_eqb q₀ q h)

-- two spans of the same rights, one behind the other, are one span
pub join-again : (rs : Rows) (s e q s' e' : ℕ) → join (join rs s e q) s' e' q ≡ join rs s e' q
unfolding join
join-again none s e q s' e' = simp (eq-eqb q q refl)
join-again (more r s₀ e₀ q₀) s e q s' e' =
    ⊎_elim (λ h. simp (eq-eqb q₀ q h)) (λ h. simp (ne_eqb q₀ q h, eq-eqb q q refl)) (equal-or q₀ q)

-- a join adds one row at most
pub size-join : (rs : Rows) (s e q : ℕ) → size (join rs s e q) ≤ suc (size rs)
unfolding join size
size-join none s e q = omega arith
size-join (more r s₀ e₀ q₀) s e q =
    ⊎_elim (λ h. simp (eq-eqb q₀ q h) (omega arith)) (λ h. simp (ne_eqb q₀ q h) (omega arith)) (equal-or q₀ q)

-- where f is the same from a to b, its map goes on from a to b by one span
pub run : (f : ℕ → ℕ) (a b : ℕ) → a ≤ b → ((x : ℕ) → a ≤ x → x ≤ b → f x ≡ f a) → map_of f (suc b) ≡ join (map_of f a) a b (f a)
unfolding map_of
run f a zero h same = let e : a ≡ 0 = omega arith in rw e
run f a (suc b) h same =
    ⊎_elim
    (λ l. rw (run f a b (omega arith) (λ x g u. same x g (omega arith)), same (suc b) h (omega arith)) (join-again (map_of f a) a b (f a) (suc b) (suc b)))
    (λ e. rw e)
    (below-or-at a (suc b) h)
