-- The code's rule for starts and ends is that of the record `Tiles`: 01's rule for a map as made.
use Prim.Native.Nat.{ℕ, zero, suc, ◌+◌, ◌-◌, ◌*◌, ◌/◌, ◌%◌, ◌≤◌, ◌<◌}
use mathlib.Core.Path.{◌≡◌, refl, sym}
use mathlib.Core.Bool.{true, false≢true}
use mathlib.Core.List.{List, [], ◌∷◌}
use mathlib.Core.Logic.{◌↔◌, ⊎_elim}
use native.Mathlib.Omega.{arith}
use lib.ListN.{length, drop, drop_of_length-le}
use borrow.Author.Tests.{eq-eqb, le-leb, eqb-true}
use Rattle.spans.specs.Map.{Tiles}
use Rattle.spans.specs.Rows.{start, end}
use Rattle.spans.proofs.Memory.{three}
use Rattle.spans.proofs.Order.{below-or-at}
use Rattle.diff.specs.Lent.{tiles_from, tiles}
use Rattle.diff.proofs.Tiled.{row-tiles, tiles-row}

-- the rows of m from row j on, of n in all, go on from the offset at to the end of the window
record Rest (at w j n : ℕ) (m : List ℕ) : Type 0 where
  none : j ≡ n → at ≡ w
  first : j < n → start m j ≡ at
  next : (k : ℕ) → j ≤ k → k + 1 < n → start m (k + 1) ≡ end m k + 1
  last : j < n → end m (n - 1) + 1 ≡ w
  order : (k : ℕ) → j ≤ k → k < n → start m k ≤ end m k

module _ (m : List ℕ) (w n : ℕ) (l : length m ≡ 3 * n) where
  no_more : (j : ℕ) → j ≡ n → drop (3 * j) m ≡ []
  no_more j e = let h : length m ≤ 3 * j = omega arith in drop_of_length-le m h

  tiled-rest : (d j at : ℕ) → j + d ≡ n → tiles_from at w (drop (3 * j) m) ≡ true → Rest at w j n m
  unfolding tiles_from
  tiled-rest zero j at e t =
      let f : j ≡ n = omega arith in
      let h : at ≡ w = eqb-true at w (rw (no_more j f) at t) in
      record {
        none = λ _. h;
        first = λ g. absurd (omega arith);
        next = λ k g u. absurd (omega arith);
        last = λ g. absurd (omega arith);
        order = λ k g u. absurd (omega arith);
      }
  tiled-rest (suc d) j at e t =
      let r = tiles-row m w at (3 * j) (omega arith) t in
      let i : 3 * j + 3 ≡ 3 * (j + 1) = omega arith in
      let R = tiled-rest d (j + 1) (end m j + 1) (omega arith) (rw i at r.2) in
      record {
        none = λ g. absurd (omega arith);
        first = λ _. r.0;
        next = λ k g u. ⊎_elim (λ p. R.next k (omega arith) u) (λ p. rw (← p) (R.first (omega arith))) (below-or-at j k g);
        last =
            λ _.
            ⊎_elim
            (λ p. R.last p)
            (λ p. let q : n - 1 ≡ j = omega arith in rw q (R.none (omega arith)))
            (below-or-at (j + 1) n (omega arith));
        order = λ k g u. ⊎_elim (λ p. R.order k (omega arith) u) (λ p. rw (← p) r.1) (below-or-at j k g);
      }

  rest-tiled : (d j at : ℕ) → j + d ≡ n → Rest at w j n m → tiles_from at w (drop (3 * j) m) ≡ true
  unfolding tiles_from
  rest-tiled zero j at e R = rw (no_more j (omega arith)) (eq-eqb at w (R.none (omega arith)))
  rest-tiled (suc d) j at e R =
      let i : 3 * j + 3 ≡ 3 * (j + 1) = omega arith in
      let h : j < n = omega arith in
      let on : tiles_from (end m j + 1) w (drop (3 * (j + 1)) m) ≡ true =
      rest-tiled d (j + 1) (end m j + 1) (omega arith)
      (record {
        none = λ g. let q : n - 1 ≡ j = omega arith in rw q at (R.last h);
        first = λ g. R.next j (omega arith) g;
        next = λ k g u. R.next k (omega arith) u;
        last = λ g. R.last h;
        order = λ k g u. R.order k (omega arith) u;
      }) in
      rw (three m (3 * j) (omega arith), eq-eqb (start m j) at (R.first h), le-leb (start m j) (end m j) (R.order j (omega arith) h), i) on

whole-rows : (at w : ℕ) (m : List ℕ) → tiles_from at w m ≡ true → length m % 3 ≡ 0
unfolding tiles_from
whole-rows at w [] t = refl
whole-rows at w (s ∷ []) t = absurd (false≢true t)
whole-rows at w (s ∷ e ∷ []) t = absurd (false≢true t)
whole-rows at w (s ∷ e ∷ q ∷ rest) t = omega (arith, whole-rows (e + 1) w rest (row-tiles at w s e q rest t).2)

pub tiles-are : (w : ℕ) (m : List ℕ) → (tiles w m ≡ true) ↔ (Tiles w (length m / 3) m × (length m % 3 ≡ 0))
tiles-are w m = (
  (λ t.
      let z = whole-rows 0 w m t in
      let R = tiled-rest m w (length m / 3) (omega arith) (length m / 3) 0 0 (omega arith) t in (
        record {
          held = omega arith;
          empty = λ e. sym (R.none (sym e));
          first = λ h. R.first h;
          next = λ k h. R.next k (omega arith) h;
          last = λ h. R.last h;
          order = λ k h. R.order k (omega arith) h;
        },
        z,
      )),
  (λ p.
      let T = p.0 in
      rest-tiled m w (length m / 3) (omega (arith, p.1)) (length m / 3) 0 0 (omega arith)
      (record {
        none = λ e. sym (T.empty (sym e));
        first = λ h. T.first h;
        next = λ k _ h. T.next k h;
        last = λ h. T.last h;
        order = λ k _ h. T.order k h;
      })),
)
