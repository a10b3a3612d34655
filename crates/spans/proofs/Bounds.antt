-- The next boundary above an offset, and how many there are. Assumes nothing.
use Prim.Native.Nat.{ℕ, ◌+◌, ◌≤◌, ◌<◌}
use mathlib.Core.Path.{◌≡◌, refl}
use mathlib.Core.Bool.{Bool, true, false, cond}
use mathlib.Core.List.{List, [], ◌∷◌}
use mathlib.Core.Logic.{◌⊎◌, inl, inr, ⊎_elim}
use native.Mathlib.Omega.{arith}
use lib.Dec.{ltb}
use lib.ListN.{length}
use borrow.Author.Tests.{lt-ltb, le-ltb}
use Rattle.spans.specs.Sweep.{nearer, next_of}
use Rattle.spans.proofs.Order.{below_or}
use Rattle.spans.proofs.Steady.{Clear}

-- r is the nearer of b and m above at
record Nearer (at b m r : ℕ) : Type 0 where
  low : r ≤ m
  here : at < b → r ≤ b
  is : (r ≡ m) ⊎ ((r ≡ b) × (at < b))

is-nearer : (at b m : ℕ) → Nearer at b m (nearer at b m)
is-nearer at b m =
    ⊎_elim
    (λ p.
    ⊎_elim
    (λ q. simp (lt-ltb at b p, lt-ltb b m q) (record { low = omega arith; here = λ l. omega arith; is = inr (refl, p) }))
    (λ q. simp (lt-ltb at b p, le-ltb b m q) (record { low = omega arith; here = λ l. q; is = inl refl }))
    (below_or b m))
    (λ p. simp (le-ltb at b p) (record { low = omega arith; here = λ l. omega arith; is = inl refl }))
    (below_or at b)

-- ---- the next boundary

pub next-clear : (bs : List ℕ) (at w y : ℕ) → y < next_of bs at w → Clear at y bs
unfolding next_of Clear
next-clear [] at w y h = tt
next-clear (b ∷ bs) at w y h =
    let n = is-nearer at b (next_of bs at w) in
    ((λ l u. omega (arith, n.here l)), next-clear bs at w y (omega arith))

pub next_le : (bs : List ℕ) (at w : ℕ) → next_of bs at w ≤ w
unfolding next_of
next_le [] at w = omega arith
next_le (b ∷ bs) at w = omega (arith, (is-nearer at b (next_of bs at w)).low, next_le bs at w)

pub next-above : (bs : List ℕ) (at w : ℕ) → at < w → at < next_of bs at w
unfolding next_of
next-above [] at w h = h
next-above (b ∷ bs) at w h =
    ⊎_elim (λ e. omega (arith, next-above bs at w h)) (λ e. omega (arith, e.0)) (is-nearer at b (next_of bs at w)).is

-- ---- how many boundaries lie above an offset

unfoldable pub above : List ℕ → ℕ → ℕ
above [] at = 0
above (b ∷ bs) at = cond (ltb at b) 1 0 + above bs at

fewer-one : (b x y : ℕ) → x ≤ y → cond (ltb y b) 1 0 ≤ cond (ltb x b) 1 0
fewer-one b x y h =
    ⊎_elim (λ l. simp (lt-ltb y b l, lt-ltb x b (omega arith)) (omega arith)) (λ l. simp (le-ltb y b l) (omega arith)) (below_or y b)

fewer : (bs : List ℕ) (x y : ℕ) → x ≤ y → above bs y ≤ above bs x
unfolding above
fewer [] x y h = omega arith
fewer (b ∷ bs) x y h = omega (arith, fewer-one b x y h, fewer bs x y h)

pub above-le : (bs : List ℕ) (at : ℕ) → above bs at ≤ length bs
unfolding above
above-le [] at = omega arith
above-le (b ∷ bs) at = omega (arith, at_most_one (ltb at b), above-le bs at)
  where
    at_most_one : (t : Bool) → cond t 1 0 ≤ 1
    at_most_one true = omega arith
    at_most_one false = omega arith

-- the next boundary has fewer above it
pub next-fewer : (bs : List ℕ) (at w : ℕ) → at < w → next_of bs at w < w → above bs (next_of bs at w) < above bs at
unfolding next_of above
next-fewer [] at w h g = omega arith
next-fewer (b ∷ bs) at w h g =
    let t = next_of bs at w in
    ⊎_elim
    (λ e. rw e (omega (arith, fewer-one b at t (omega (arith, next-above bs at w h)), next-fewer bs at w h (omega arith))))
    (λ e. rw (e.0, le-ltb b b (omega arith), lt-ltb at b e.1) (omega (arith, fewer bs at b (omega arith))))
    (is-nearer at b t).is

-- ---- a boundary of the list

unfoldable pub Among : ℕ → List ℕ → Type 0
Among b [] = ⊥
Among b (c ∷ bs) = (b ≡ c) ⊎ Among b bs

-- it has fewer above it than what lies before it
pub among-fewer : (bs : List ℕ) (at b : ℕ) → Among b bs → at < b → above bs b < above bs at
unfolding Among above
among-fewer [] at b m h = absurd m
among-fewer (c ∷ bs) at b m h =
    ⊎_elim
    (λ e. rw (← e, le-ltb b b (omega arith), lt-ltb at b h) (omega (arith, fewer bs at b (omega arith))))
    (λ k. omega (arith, fewer-one c at b (omega arith), among-fewer bs at b k h))
    m
