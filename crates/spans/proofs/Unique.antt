-- A map said of rows, one row at a time from the last: the map of f is one, and it is the only one. Proofs use this form; `IsMap` says the same of
-- numbers in memory (Maps.antt). Assumes nothing.
use Prim.Native.Nat.{ℕ, zero, suc, ◌≤◌, ◌<◌}
use mathlib.Core.Path.{◌≡◌, refl, sym, ap, ◌∙◌, subst}
use mathlib.Core.Logic.{⊎_elim, ◌≢◌}
use native.Mathlib.Omega.{arith}
use Rattle.spans.specs.Rows.{Rows, none, more}
use Rattle.spans.specs.Map.{join, map_of}
use Rattle.spans.proofs.Order.{below_or, below-or-at, equal-or}
use Rattle.spans.proofs.Joined.{join-same, join-other}

-- the rights of the last row, if there is one, are not q
unfoldable pub Differs : Rows → ℕ → Type 0
Differs none q = Unit {0}
Differs (more rs s e p) q = p ≢ q

-- rs are the map of f below w: the last row ends right before w and has f's rights, and the rows before it, of other rights next to it, are the map of f below its start
unfoldable pub MapRows : (ℕ → ℕ) → ℕ → Rows → Type 0
MapRows f w none = w ≡ 0
MapRows f w (more rs s e q) = (s ≤ e) × (suc e ≡ w) × ((x : ℕ) → s ≤ x → x ≤ e → q ≡ f x) × Differs rs q × MapRows f s rs

-- ---- the map of f is one

one_more : (f : ℕ → ℕ) (rs : Rows) (w : ℕ) → MapRows f w rs → MapRows f (suc w) (join rs w w (f w))
unfolding join MapRows Differs
one_more f none w m = (omega arith, refl, (λ x l u. ap f (omega arith)), tt, m)
one_more f (more r s e q) w m =
    ⊎_elim
    (λ h.
    rw (join-same r s e q w w (f w) h)
    (omega arith, refl, (λ x l u. ⊎_elim (λ g. m.2 x l (omega arith)) (λ g. h ∙ ap f (sym g)) (below-or-at x w u)), m.3, m.4))
    (λ h. rw (join-other r s e q w w (f w) h) (omega arith, refl, (λ x l u. ap f (omega arith)), h, m))
    (equal-or q (f w))

pub map_rows : (f : ℕ → ℕ) (w : ℕ) → MapRows f w (map_of f w)
unfolding map_of MapRows
map_rows f zero = refl
map_rows f (suc w) = one_more f (map_of f w) w (map_rows f w)

-- ---- there is no other

-- where f and g agree, the last row of a map of f does not start before the last row of a map of g: the row before that one would have the same rights
starts : (f g : ℕ → ℕ) (rs : Rows) (s e q s' : ℕ) → ((x : ℕ) → x ≤ e → f x ≡ g x) → ((x : ℕ) → s ≤ x → x ≤ e → q ≡ f x)
    → s' ≤ e → Differs rs q → MapRows g s' rs → s < s' → ⊥
unfolding MapRows Differs
starts f g none s e q s' same row le d m lt = omega arith
starts f g (more r a b p) s e q s' same row le d m lt =
    d (m.2 b m.0 (omega arith) ∙ sym (same b (omega arith)) ∙ sym (row b (omega arith) (omega arith)))

pub unique : (f g : ℕ → ℕ) (w : ℕ) (rs rs' : Rows) → ((x : ℕ) → x < w → f x ≡ g x) → MapRows f w rs → MapRows g w rs' → rs ≡ rs'
unfolding MapRows
unique f g w none none same m m' = refl
unique f g w none (more r s e q) same m m' = absurd (omega arith)
unique f g w (more r s e q) none same m m' = absurd (omega arith)
unique f g w (more r s e q) (more r' s' e' q') same m m' =
    let ee : e ≡ e' = omega arith in
    let qq : q ≡ q' = m.2 e m.0 (omega arith) ∙ same e (omega arith) ∙ sym (m'.2 e (omega arith) (omega arith)) in
    let a : s < s' → ⊥ = starts f g r' s e q s' (λ x h. same x (omega arith)) m.2 (omega arith) (rw qq m'.3) m'.4 in
    let b : s' < s → ⊥ = starts g f r s' e' q' s (λ x h. sym (same x (omega arith))) m'.2 (omega arith) (rw qq at m.3) m.4 in
    let ss : s ≡ s' = ⊎_elim (λ h. absurd (a h)) (λ h. ⊎_elim (λ k. absurd (b k)) (λ k. sym k) (below-or-at s' s h)) (below_or s s') in
    let rr : r ≡ r' = unique f g s r r' (λ x h. same x (omega arith)) m.4 (subst (λ (k : ℕ). MapRows g k r') (sym ss) m'.4) in
    cc

-- one list of rows is the map of two functions only where they agree
pub agree : (f g : ℕ → ℕ) (w : ℕ) (rs : Rows) → MapRows f w rs → MapRows g w rs → (x : ℕ) → x < w → f x ≡ g x
unfolding MapRows
agree f g w none m m' x h = omega arith
agree f g w (more r s e q) m m' x h =
    ⊎_elim (λ l. agree f g s r m.4 m'.4 x l) (λ l. sym (m.2 x l (omega arith)) ∙ m'.2 x l (omega arith)) (below_or x s)
