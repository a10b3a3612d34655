-- Sums and folds over numbers of which all, or all but one, give the same.
use mathlib.Core.Bool.{Bool, true, false, not, ◌||◌, or-true, or-false, true≢false}
use mathlib.Core.Path.{◌≡◌, refl, sym, ap, ap₂, ◌∙◌}
use Prim.Native.Nat.{ℕ, zero, suc, ◌+◌, ◌*◌, ◌≤◌, ◌<◌}
use native.Mathlib.Decide.{dec_lt}
use native.Mathlib.Omega.{arith}
use borrow.Author.Tests.{ne_eqb}
use lib.Dec.{eqb}
use Rattle.access.specs.Fold.{any}
use Rattle.iac.specs.Held.{sum}

pub sum_same : (n : ℕ) (f g : ℕ → ℕ) → ((x : ℕ) → x < n → f x ≡ g x) → sum n f ≡ sum n g
sum_same zero f g h = refl
sum_same (suc n) f g h = ap₂ ◌+◌ (sum_same n f g (λ x l. h x (omega arith))) (h n (omega arith))

pub sum-most : (n m : ℕ) (f : ℕ → ℕ) → ((x : ℕ) → f x ≤ m) → sum n f ≤ n * m
sum-most zero m f h = omega arith
sum-most (suc n) m f h = omega (arith, sum-most n m f h, h n)

-- but at x the two are the same, and there too where x is past the last
pub sum-but : (n x : ℕ) (f g : ℕ → ℕ) → ((y : ℕ) → y < n → (y ≡ x → ⊥) → f y ≡ g y) → (n ≤ x → f x ≡ g x) → sum n f + g x ≡ sum n g + f x
sum-but zero x f g h past = omega (arith, past (omega arith))
sum-but (suc n) x f g h past = go (dec_lt n x) (dec_lt x n) (λ p. sum-but n x f g (λ y l. h y (omega arith)) p)
  where
    go : Dec (n < x) → Dec (x < n) → ((n ≤ x → f x ≡ g x) → sum n f + g x ≡ sum n g + f x) → sum n f + f n + g x ≡ sum n g + g n + f x
    go (yes l) d ih = omega (arith, ih (λ m. past (omega arith)), h n (omega arith) (λ (e : n ≡ x). omega arith))
    go (no r) (yes l) ih = omega (arith, ih (λ m. absurd (omega arith)), h n (omega arith) (λ (e : n ≡ x). omega arith))
    go (no r) (no q) ih =
        let e : n ≡ x = omega arith in
        let k : sum n f ≡ sum n g = sum_same n f g (λ y l. h y (omega arith) (λ (z : y ≡ x). omega arith)) in
        rw (← e) (omega (arith, k))

-- and x is one of the numbers, where g has 0
pub sum_more : (n x : ℕ) (f g : ℕ → ℕ) → ((y : ℕ) → y < n → (y ≡ x → ⊥) → f y ≡ g y) → x < n → g x ≡ 0 → sum n f ≡ sum n g + f x
sum_more n x f g h l z = omega (arith, sum-but n x f g h (λ p. absurd (omega arith)))

-- a sum is not 0 where some of its numbers is not
pub any_sum : (n : ℕ) (f : ℕ → ℕ) → any n (λ x. not (eqb (f x) 0)) ≡ not (eqb (sum n f) 0)
any_sum zero f = refl
any_sum (suc n) f = go (f n) (any_sum n f)
  where
    go : (k : ℕ) → any n (λ x. not (eqb (f x) 0)) ≡ not (eqb (sum n f) 0)
        → (any n (λ x. not (eqb (f x) 0)) || not (eqb k 0)) ≡ not (eqb (sum n f + k) 0)
    go zero e =
        let z : sum n f + 0 ≡ sum n f = omega arith in
        or-false (any n (λ x. not (eqb (f x) 0))) ∙ e ∙ sym (ap (λ (k : ℕ). not (eqb k 0)) z)
    go (suc k) e =
        ap (λ (b : Bool). any n (λ x. not (eqb (f x) 0)) || not b) (ne_eqb (suc k) 0 (λ (z : suc k ≡ 0). omega arith))
        ∙ or-true (any n (λ x. not (eqb (f x) 0)))
        ∙ sym (ap not (ne_eqb (sum n f + suc k) 0 (λ (z : sum n f + suc k ≡ 0). omega arith)))

pub any_none : (n : ℕ) (p : ℕ → Bool) → ((x : ℕ) → x < n → p x ≡ false) → any n p ≡ false
any_none zero p h = refl
any_none (suc n) p h = ap₂ ◌||◌ (any_none n p (λ x l. h x (omega arith))) (h n (omega arith))

pub none_any : (n : ℕ) (p : ℕ → Bool) → any n p ≡ false → (x : ℕ) → x < n → p x ≡ false
none_any zero p h x l = absurd (omega arith)
none_any (suc n) p h x l = go (any n p) (p n) refl h (dec_lt x n) (λ e m. none_any n p e x m)
  where
    go : (a b : Bool) → p n ≡ b → (a || b) ≡ false → Dec (x < n) → (a ≡ false → x < n → p x ≡ false) → p x ≡ false
    go true b eb e d ih = absurd (true≢false e)
    go false b eb e (yes m) ih = ih refl m
    go false b eb e (no r) ih = let z : x ≡ n = omega arith in ap p z ∙ eb ∙ e

-- but at x there is none, and none there where x is past the last
pub any-but : (n x : ℕ) (p : ℕ → Bool) → ((y : ℕ) → y < n → (y ≡ x → ⊥) → p y ≡ false) → (n ≤ x → p x ≡ false) → any n p ≡ p x
any-but zero x p h past = sym (past (omega arith))
any-but (suc n) x p h past = go (dec_lt n x) (dec_lt x n) (λ q. any-but n x p (λ y l. h y (omega arith)) q)
  where
    go : Dec (n < x) → Dec (x < n) → ((n ≤ x → p x ≡ false) → any n p ≡ p x) → (any n p || p n) ≡ p x
    go (yes l) d ih =
        ap₂ ◌||◌ (ih (λ m. past (omega arith))) (h n (omega arith) (λ (e : n ≡ x). omega arith)) ∙ or-false (p x)
    go (no r) (yes l) ih =
        ap₂ ◌||◌ (ih (λ m. absurd (omega arith))) (h n (omega arith) (λ (e : n ≡ x). omega arith)) ∙ or-false (p x)
    go (no r) (no q) ih =
        let e : n ≡ x = omega arith in
        ap (λ (b : Bool). b || p n) (any_none n p (λ y l. h y (omega arith) (λ (z : y ≡ x). omega arith))) ∙ ap p e
