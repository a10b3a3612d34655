-- One more span behind rows, and a stretch on which both functions stay the same, which is one more span.
use Prim.Native.Nat.{ℕ, zero, suc, ◌≤◌, ◌<◌}
use mathlib.Core.Path.{◌≡◌, refl}
use mathlib.Core.Bool.{true, false}
use mathlib.Core.Logic.{⊎_elim, ◌≢◌}
use native.Mathlib.Omega.{arith}
use borrow.Author.Tests.{eq-eqb, ne_eqb}
use Rattle.spans.proofs.Order.{below-or-at, equal-or}
use Rattle.diff.specs.Diff.{goes_on, behind, with_span, diff_of}
use Rattle.diff.specs.Rows.{DiffRows, none, more, size_diff}
use Rattle.diff.proofs.Tests.{goes, gone, true-or-false}

-- ---- the ways of a join

module _ (rs : DiffRows) (s e a b : ℕ) where
  pub join-equal : a ≡ b → with_span rs s e a b ≡ rs
  unfolding with_span
  join-equal h = simp (eq-eqb a b h)

  pub join_apart : a ≢ b → with_span rs s e a b ≡ behind rs s e a b
  unfolding with_span
  join_apart h = simp (ne_eqb a b h)

module _ (rs : DiffRows) (s₀ e₀ a₀ b₀ s e a b : ℕ) where
  pub behind-on : goes_on e₀ a₀ b₀ s a b ≡ true → behind (more rs s₀ e₀ a₀ b₀) s e a b ≡ more rs s₀ e a₀ b₀
  unfolding behind
  behind-on h = rw h

  pub behind-new : goes_on e₀ a₀ b₀ s a b ≡ false → behind (more rs s₀ e₀ a₀ b₀) s e a b ≡ more (more rs s₀ e₀ a₀ b₀) s e a b
  unfolding behind
  behind-new h = rw h

-- two spans of the same words, one right behind the other, are one span
behind-again : (rs : DiffRows) (s e a b e' : ℕ) → behind (behind rs s e a b) (suc e) e' a b ≡ behind rs s e' a b
unfolding behind
behind-again none s e a b e' = behind-on none s e a b (suc e) e' a b (goes e a b (suc e) a b (omega arith) refl refl)
behind-again (more r s₀ e₀ a₀ b₀) s e a b e' =
    ⊎_elim
    (λ h.
    let g = gone e₀ a₀ b₀ s a b h in
    rw (behind-on r s₀ e₀ a₀ b₀ s e a b h, behind-on r s₀ e₀ a₀ b₀ s e' a b h)
    (behind-on r s₀ e a₀ b₀ (suc e) e' a b (goes e a₀ b₀ (suc e) a b (omega arith) g.1 g.2)))
    (λ h.
    rw (behind-new r s₀ e₀ a₀ b₀ s e a b h, behind-new r s₀ e₀ a₀ b₀ s e' a b h)
    (behind-on (more r s₀ e₀ a₀ b₀) s e a b (suc e) e' a b (goes e a b (suc e) a b (omega arith) refl refl)))
    (true-or-false (goes_on e₀ a₀ b₀ s a b))

join-again : (rs : DiffRows) (s e a b e' : ℕ) → with_span (with_span rs s e a b) (suc e) e' a b ≡ with_span rs s e' a b
join-again rs s e a b e' =
    ⊎_elim
    (λ h. rw (join-equal rs s e a b h, join-equal rs (suc e) e' a b h, join-equal rs s e' a b h))
    (λ h.
    rw (join_apart rs s e a b h, join_apart (behind rs s e a b) (suc e) e' a b h, join_apart rs s e' a b h)
    (behind-again rs s e a b e'))
    (equal-or a b)

-- a join adds one row at most
pub size-join : (rs : DiffRows) (s e a b : ℕ) → size_diff (with_span rs s e a b) ≤ suc (size_diff rs)
unfolding behind size_diff
size-join rs s e a b =
    ⊎_elim (λ h. rw (join-equal rs s e a b h) (omega arith)) (λ h. rw (join_apart rs s e a b h) (behind-size rs)) (equal-or a b)
  where
    behind-size : (rs : DiffRows) → size_diff (behind rs s e a b) ≤ suc (size_diff rs)
    behind-size none = omega arith
    behind-size (more r s₀ e₀ a₀ b₀) =
        ⊎_elim
        (λ h. rw h (omega arith))
        (λ h. rw h (omega arith))
        (true-or-false (goes_on e₀ a₀ b₀ s a b))

module _ (f g : ℕ → ℕ) where
  -- where f and g are the same from x to y, what differs goes on from x to y by one span
  pub run : (x y : ℕ) → x ≤ y → ((z : ℕ) → x ≤ z → z ≤ y → (f z ≡ f x) × (g z ≡ g x)) → diff_of f g (suc y) ≡ with_span (diff_of f g x) x y (f x) (g x)
  unfolding diff_of
  run x zero h same = let e : x ≡ 0 = omega arith in rw e
  run x (suc y) h same =
      ⊎_elim
      (λ l.
      let s = same (suc y) h (omega arith) in
      rw (run x y (omega arith) (λ z k u. same z k (omega arith)), s.0, s.1) (join-again (diff_of f g x) x y (f x) (g x) (suc y)))
      (λ e. rw e)
      (below-or-at x (suc y) h)

-- where two pairs of functions agree, what differs is the same
pub diff-cong : (f g f' g' : ℕ → ℕ) (w : ℕ) → ((x : ℕ) → x < w → (f x ≡ f' x) × (g x ≡ g' x)) → diff_of f g w ≡ diff_of f' g' w
unfolding diff_of
diff-cong f g f' g' zero same = refl
diff-cong f g f' g' (suc x) same =
    let s = same x (omega arith) in
    rw (diff-cong f g f' g' x (λ y h. same y (omega arith)), s.0, s.1)
