-- A result said of rows, one row at a time from the last: what differs is one, and it is the only one. Proofs use this form; `IsDiff` says the same
-- of numbers in memory (Results.antt).
use Prim.Native.Nat.{ℕ, zero, suc, ◌-◌, ◌≤◌, ◌<◌}
use mathlib.Core.Path.{◌≡◌, refl, sym, ap, ◌∙◌, subst}
use mathlib.Core.Bool.{false, true≢false}
use mathlib.Core.Logic.{⊎_elim, ◌≢◌}
use native.Mathlib.Omega.{arith}
use Rattle.spans.proofs.Order.{below_or, below-or-at, equal-or}
use Rattle.diff.specs.Diff.{goes_on, behind, diff_of}
use Rattle.diff.specs.Rows.{DiffRows, none, more}
use Rattle.diff.proofs.Joined.{join-equal, join_apart}
use Rattle.diff.proofs.Tests.{goes, gone, true-or-false}

-- a span from s of the words a and b does not go on the last row, if there is one
unfoldable pub Apart : DiffRows → ℕ → ℕ → ℕ → Type 0
Apart none s a b = Unit {0}
Apart (more rs s₀ e₀ a₀ b₀) s a b = goes_on e₀ a₀ b₀ s a b ≡ false

-- a row from s to e of the words a and b, behind which nothing differs below w
pub record IsRow (f g : ℕ → ℕ) (w s e a b : ℕ) : Type 0 where
  pub order : s ≤ e
  pub within : e < w
  pub words : (x : ℕ) → s ≤ x → x ≤ e → (a ≡ f x) × (b ≡ g x)
  pub apart : a ≢ b
  pub last : (x : ℕ) → e < x → x < w → f x ≡ g x

-- rs are what differs between f and g below w
unfoldable pub AreRows : (ℕ → ℕ) → (ℕ → ℕ) → ℕ → DiffRows → Type 0
AreRows f g w none = (x : ℕ) → x < w → f x ≡ g x
AreRows f g w (more rs s e a b) = IsRow f g w s e a b × Apart rs s a b × AreRows f g s rs

module _ (f g : ℕ → ℕ) where
  -- ---- what differs is one

  -- one more offset, at which nothing differs
  longer : (rs : DiffRows) (w : ℕ) → f w ≡ g w → AreRows f g w rs → AreRows f g (suc w) rs
  unfolding AreRows
  longer none w same d = λ x h. ⊎_elim (λ l. d x l) (λ e. rw e same) (below-or-at x w (omega arith))
  longer (more r s e a b) w same d =
      let i = d.0 in (
        record {
          order = i.order;
          within = omega (arith, i.within);
          words = i.words;
          apart = i.apart;
          last = λ x l h. ⊎_elim (λ k. i.last x l k) (λ k. rw k same) (below-or-at x w (omega arith));
        },
        d.1,
        d.2,
      )

  -- the offset w alone is a row
  own : (w : ℕ) → f w ≢ g w → IsRow f g (suc w) w w (f w) (g w)
  own w h =
      record {
        order = omega arith;
        within = omega arith;
        words = λ x l u. let e : w ≡ x = omega arith in (ap f e, ap g e);
        apart = h;
        last = λ x l u. absurd (omega arith);
      }

  -- one more offset, at which f and g differ
  one_more : (rs : DiffRows) (w : ℕ) → f w ≢ g w → AreRows f g w rs → AreRows f g (suc w) (behind rs w w (f w) (g w))
  unfolding AreRows Apart behind
  one_more none w h d = (own w h, tt, d)
  one_more (more r s e a b) w h d =
      ⊎_elim
      (λ t.
      let k = gone e a b w (f w) (g w) t in
      let i = d.0 in
      rw t (
        record {
          order = omega (arith, i.order, k.0);
          within = omega arith;
          words =
              λ x l u.
              ⊎_elim (λ v. i.words x l (omega (arith, k.0))) (λ v. rw v (k.1, k.2)) (below-or-at x w u);
          apart = i.apart;
          last = λ x l u. absurd (omega arith);
        },
        d.1,
        d.2,
      ))
      (λ t. rw t (own w h, t, d))
      (true-or-false (goes_on e a b w (f w) (g w)))

  pub diff-rows : (w : ℕ) → AreRows f g w (diff_of f g w)
  unfolding diff_of AreRows
  diff-rows zero = λ x h. absurd (omega arith)
  diff-rows (suc w) =
      let rs = diff_of f g w in
      ⊎_elim
      (λ h. rw (join-equal rs w w (f w) (g w) h) (longer rs w h (diff-rows w)))
      (λ h. rw (join_apart rs w w (f w) (g w) h) (one_more rs w h (diff-rows w)))
      (equal-or (f w) (g w))

  -- ---- there is no other

  -- an offset of a row differs
  differs : {w s e a b x : ℕ} → IsRow f g w s e a b → s ≤ x → x ≤ e → f x ≢ g x
  differs {w} {s} {e} {a} {b} {x} i l u h = let q = i.words x l u in i.apart (q.0 ∙ h ∙ sym q.1)

  -- the last row of one result does not start before that of another: the row before that one would go on
  starts : (rs : DiffRows) (w s e a b s' : ℕ) → IsRow f g w s e a b → s' ≤ e → Apart rs s' a b → AreRows f g s' rs → s < s' → ⊥
  unfolding AreRows Apart
  starts none w s e a b s' i le p d lt = differs i (omega arith) (omega arith) (d (s' - 1) (omega arith))
  starts (more r s₀ e₀ a₀ b₀) w s e a b s' i le p d lt =
      let i₀ = d.0 in
      ⊎_elim
      (λ k. differs {x = s' - 1} i (omega arith) (omega arith) (i₀.last (s' - 1) k (omega arith)))
      (λ k.
      let q = i.words e₀ (omega (arith, i₀.within)) (omega (arith, i₀.within)) in
      let q₀ = i₀.words e₀ i₀.order (omega arith) in
      absurd (true≢false (sym (goes e₀ a₀ b₀ s' a b (omega (arith, i₀.within)) (q₀.0 ∙ sym q.0) (q₀.1 ∙ sym q.1)) ∙ p)))
      (below_or e₀ (s' - 1))

  -- the last row of one result does not end before that of another
  ends : {w s e a b s' e' a' b' : ℕ} → IsRow f g w s e a b → IsRow f g w s' e' a' b' → e < e' → ⊥
  ends {w} {s} {e} {a} {b} {s'} {e'} i i' h = differs i' i'.order (omega arith) (i.last e' h i'.within)

  same_from : (a b : ℕ) → (a < b → ⊥) → (b < a → ⊥) → a ≡ b
  same_from a b h k = ⊎_elim (λ l. absurd (h l)) (λ l. ⊎_elim (λ m. absurd (k m)) (λ m. sym m) (below-or-at b a l)) (below_or a b)

  pub unique : (w : ℕ) (rs rs' : DiffRows) → AreRows f g w rs → AreRows f g w rs' → rs ≡ rs'
  unfolding AreRows
  unique w none none d d' = refl
  unique w none (more r s e a b) d d' = absurd (differs d'.0 d'.0.order (omega arith) (d e d'.0.within))
  unique w (more r s e a b) none d d' = absurd (differs d.0 d.0.order (omega arith) (d' e d.0.within))
  unique w (more r s e a b) (more r' s' e' a' b') d d' =
      let i = d.0 in
      let i' = d'.0 in
      let ee : e ≡ e' = same_from e e' (ends i i') (ends i' i) in
      let q = i.words e i.order (omega arith) in
      let q' = i'.words e (omega (arith, i'.order)) (omega arith) in
      let aa : a ≡ a' = q.0 ∙ sym q'.0 in
      let bb : b ≡ b' = q.1 ∙ sym q'.1 in
      let ss : s ≡ s' = same_from s s'
      (starts r' w s e a b s' i (omega (arith, i'.order)) (rw (aa, bb) d'.1) d'.2)
      (starts r w s' e' a' b' s i' (omega (arith, i.order)) (rw (← aa, ← bb) d.1) d.2) in
      let rr : r ≡ r' = unique s r r' d.2 (subst (λ (k : ℕ). AreRows f g k r') (sym ss) d'.2) in
      cc
