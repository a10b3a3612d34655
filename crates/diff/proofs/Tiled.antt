-- Rows that go on one another to the end of the window: row after row, as the code tests them.
use Prim.Native.Nat.{ℕ, ◌+◌, ◌%◌, ◌≤◌, ◌<◌}
use mathlib.Core.Path.{◌≡◌, refl, sym, ◌∙◌}
use mathlib.Core.Bool.{true, false, not, ◌&&◌, ◌||◌, false≢true, true≢false}
use mathlib.Core.List.{List, [], ◌∷◌, ◌++◌}
use mathlib.Core.Logic.{⊎_elim}
use native.Mathlib.Omega.{arith}
use lib.Dec.{leb, ltb, eqb}
use lib.ListN.{length, get_or, drop, length-drop}
use borrow.Author.Tests.{eq-eqb, le-leb, lt-leb, le-ltb, eqb-true, leb-true, ltb-false, leb-false, not-false}
use Rattle.spans.proofs.Memory.{three}
use Rattle.diff.specs.Lent.{tiles_from}
use Rattle.diff.proofs.Tests.{both, neither, true-or-false}

-- a row of rows that go on one another
pub row-tiles : (at w s e q : ℕ) (rest : List ℕ) → tiles_from at w (s ∷ e ∷ q ∷ rest) ≡ true
    → (s ≡ at) × (s ≤ e) × (tiles_from (e + 1) w rest ≡ true)
unfolding tiles_from
row-tiles at w s e q rest h =
    let p = both (eqb s at && leb s e) (tiles_from (e + 1) w rest) h in
    let r = both (eqb s at) (leb s e) p.0 in
    (eqb-true s at r.0, leb-true s e r.1, p.1)

pub tiles-le : (at w : ℕ) (l : List ℕ) → tiles_from at w l ≡ true → at ≤ w
unfolding tiles_from
tiles-le at w [] h = let e : at ≡ w = eqb-true at w h in omega arith
tiles-le at w (s ∷ []) h = absurd (false≢true h)
tiles-le at w (s ∷ e ∷ []) h = absurd (false≢true h)
tiles-le at w (s ∷ e ∷ q ∷ rest) h =
    let r = row-tiles at w s e q rest h in
    omega (arith, r.0, r.1, tiles-le (e + 1) w rest r.2)

-- before the end of the window there is a row
some-row : (at w : ℕ) (l : List ℕ) → tiles_from at w l ≡ true → at < w → 3 ≤ length l
unfolding tiles_from
some-row at w [] h k = let e : at ≡ w = eqb-true at w h in absurd (omega arith)
some-row at w (s ∷ []) h k = absurd (false≢true h)
some-row at w (s ∷ e ∷ []) h k = absurd (false≢true h)
some-row at w (s ∷ e ∷ q ∷ rest) h k = omega arith

-- ---- the row at i of the numbers m

module _ (m : List ℕ) (w at i : ℕ) where
  pub tiles-held : tiles_from at w (drop i m) ≡ true → at < w → i + 3 ≤ length m
  tiles-held h k = omega (arith, some-row at w (drop i m) h k, length-drop i m)

  pub tiles-row : i + 3 ≤ length m → tiles_from at w (drop i m) ≡ true
      → (get_or m i 0 ≡ at) × (get_or m i 0 ≤ get_or m (i + 1) 0) × (tiles_from (get_or m (i + 1) 0 + 1) w (drop (i + 3) m) ≡ true)
  tiles-row h k = row-tiles at w _ _ (get_or m (i + 2) 0) _ (rw (three m i h) at k)

-- ---- the code's tests of a row r, before the numbers t

a-row : (r t : List ℕ) → length r ≡ 3 → r ++ t ≡ get_or r 0 0 ∷ get_or r 1 0 ∷ get_or r 2 0 ∷ t
a-row [] t n = absurd (omega (arith, n))
a-row (s ∷ []) t n = absurd (omega (arith, n))
a-row (s ∷ e ∷ []) t n = absurd (omega (arith, n))
a-row (s ∷ e ∷ q ∷ []) t n = refl
a-row (s ∷ e ∷ q ∷ x ∷ r) t n = absurd (omega (arith, n))

module _ (at w : ℕ) (r t : List ℕ) (n : length r ≡ 3) where
  -- they fail
  pub tiles-broken : (not (eqb (get_or r 0 0) at) || ltb (get_or r 1 0) at || leb w (get_or r 1 0)) ≡ true → tiles_from at w (r ++ t) ≡ false
  tiles-broken k =
      ⊎_elim
      (λ (h : tiles_from at w (r ++ t) ≡ true).
      let p = row-tiles at w _ _ (get_or r 2 0) t (rw (a-row r t n) at h) in
      let l = tiles-le (get_or r 1 0 + 1) w t p.2 in
      absurd
      (true≢false
      (sym k
      ∙ rw (
        eq-eqb (get_or r 0 0) at p.0,
        le-ltb (get_or r 1 0) at (omega (arith, p.0, p.1)),
        lt-leb w (get_or r 1 0) (omega (arith, l)),
      ))))
      (λ h. h)
      (true-or-false (tiles_from at w (r ++ t)))

  -- they are passed
  pub tiles-on : (not (eqb (get_or r 0 0) at) || ltb (get_or r 1 0) at || leb w (get_or r 1 0)) ≡ false
      → (get_or r 1 0 < w) × (tiles_from (get_or r 1 0 + 1) w t ≡ tiles_from at w (r ++ t))
  unfolding tiles_from
  tiles-on k =
      let p = neither (not (eqb (get_or r 0 0) at) || ltb (get_or r 1 0) at) (leb w (get_or r 1 0)) k in
      let q = neither (not (eqb (get_or r 0 0) at)) (ltb (get_or r 1 0) at) p.0 in
      let s : get_or r 0 0 ≡ at = eqb-true _ _ (not-false (eqb (get_or r 0 0) at) q.0) in
      let o : at ≤ get_or r 1 0 = ltb-false (get_or r 1 0) at q.1 in (
        leb-false w (get_or r 1 0) p.1,
        rw (a-row r t n, eq-eqb (get_or r 0 0) at s, le-leb (get_or r 0 0) (get_or r 1 0) (omega arith)),
      )

-- no row is left
pub tiles-end : (at w : ℕ) (l : List ℕ) → length l < 3 → (eqb (length l % 3) 0 && eqb at w) ≡ tiles_from at w l
unfolding tiles_from
tiles-end at w [] k = refl
tiles-end at w (x ∷ []) k = refl
tiles-end at w (x ∷ y ∷ []) k = refl
tiles-end at w (x ∷ y ∷ z ∷ l) k = absurd (omega arith)
