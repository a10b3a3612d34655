-- What the record `IsMap` says of numbers is what `MapRows` says of the rows in them. So the map of f has the record, and nothing else has it. Assumes nothing.
use Prim.Native.Nat.{ℕ, zero, suc, ◌+◌, ◌-◌, ◌*◌, ◌≤◌, ◌<◌}
use mathlib.Core.Path.{◌≡◌, refl, sym, ap, ◌∙◌}
use mathlib.Core.Logic.{⊎_elim, ◌≢◌}
use mathlib.Core.List.{List, [], ◌∷◌, ◌++◌, append-nil}
use native.Mathlib.Omega.{arith}
use native.Mathlib.Numerals.{add-one}
use lib.ListN.{length, length-append, take, drop}
use Rattle.spans.specs.Rows.{Rows, none, more, flat, size, filled, start, end, rights, rows_in}
use Rattle.spans.specs.Map.{IsMap, map_of}
use Rattle.spans.proofs.Order.{below_or, below-or-at}
use Rattle.spans.proofs.Unique.{Differs, MapRows, map_rows, unique}
use Rattle.spans.proofs.Memory.{length-flat, flat-more, row-start, row-end, row-rights, size-rows, flat_rows}

-- ---- numbers that have the record are the numbers of the map

module _ {f : ℕ → ℕ} {w n : ℕ} {m : List ℕ} (I : IsMap f w n m) where
  differs-before : (k : ℕ) → k < n → Differs (rows_in k m) (rights m k)
  unfolding rows_in Differs
  differs-before zero h = tt
  differs-before (suc k) h = rw add-one at (I.differ k (omega arith))

  -- the first k rows are the map below v, which is 0 or the end before plus 1
  rows_before : (k v : ℕ) → k ≤ n → (k ≡ 0 → v ≡ 0) → ((j : ℕ) → j + 1 ≡ k → end m j + 1 ≡ v) → MapRows f v (rows_in k m)
  unfolding rows_in MapRows
  rows_before zero v h z s = z refl
  rows_before (suc k) v h z s = (
    I.tiles.order k h,
    omega (arith, s k (omega arith)),
    (λ x l u. I.exact k x h l u),
    differs-before k h,
    rows_before k (start m k) (omega arith) (λ i. rw i (I.tiles.first (omega arith))) (λ j i. rw (← i) (sym (I.tiles.next j (omega arith)))),
  )

  are-rows : rows_in n m ≡ map_of f w
  are-rows =
      let last : (j : ℕ) → j + 1 ≡ n → end m j + 1 ≡ w = λ j i. let k : n - 1 ≡ j = omega arith in rw k at (I.tiles.last (omega arith)) in
      unique f f w (rows_in n m) (map_of f w) (λ x h. refl) (rows_before n w (omega arith) I.tiles.empty last) (map_rows f w)

  -- a map of f has the numbers of the map of f
  pub is-the-map : (n ≡ size (map_of f w)) × (take (3 * n) m ≡ flat (map_of f w))
  is-the-map = (sym (size-rows n m) ∙ ap size are-rows, sym (flat_rows n m I.tiles.held) ∙ ap flat are-rows)

-- ---- rows that are a map have the record

-- the row before row n, if there is one, has other rights than q
differ-last : (r : Rows) (rest : List ℕ) (q k : ℕ) → Differs r q → k + 1 ≡ size r → rights (flat r ++ rest) k ≢ q
unfolding Differs size
differ-last none rest q k d h e = omega arith
differ-last (more r s₀ e₀ q₀) rest q k d h e =
    let i : size r ≡ k = omega arith in
    d (sym (row-rights r s₀ e₀ q₀ rest) ∙ rw i (rw flat-more at e))

one-row : (f : ℕ → ℕ) (s e q n w : ℕ) (m : List ℕ) → IsMap f s n m → 3 * n + 3 ≤ length m → start m n ≡ s → end m n ≡ e → rights m n ≡ q
    → s ≤ e → suc e ≡ w → ((x : ℕ) → s ≤ x → x ≤ e → q ≡ f x) → ((k : ℕ) → k + 1 ≡ n → rights m k ≢ q) → IsMap f w (suc n) m
one-row f s e q n w m I held rs re rq o ew row d =
    let t = I.tiles in
    record {
      tiles =
          record {
            held = omega arith;
            empty = λ h. omega arith;
            first = λ h. ⊎_elim (λ p. t.first p) (λ p. let i : n ≡ 0 = omega arith in (rw i at rs) ∙ t.empty i) (below_or 0 n);
            next =
                λ k h.
                ⊎_elim
                (λ p. t.next k p)
                (λ i. let j : n - 1 ≡ k = omega arith in rw i (rs ∙ sym (rw j at (t.last (omega arith)))))
                (below-or-at (k + 1) n (omega arith));
            last = λ h. let i : suc n - 1 ≡ n = omega arith in rw i (omega arith);
            order = λ k h. ⊎_elim (λ p. t.order k p) (λ i. rw i (omega arith)) (below-or-at k n (omega arith));
          };
      exact =
          λ k x h l u.
          ⊎_elim
          (λ p. I.exact k x p l u)
          (λ i. rw i (rq ∙ row x (omega (arith, rw i at l)) (omega (arith, rw i at u))))
          (below-or-at k n (omega arith));
      differ = λ k h g. ⊎_elim (λ p. I.differ k p g) (λ i. d k i (g ∙ rw i rq)) (below-or-at (k + 1) n (omega arith));
    }

has-record : (f : ℕ → ℕ) (w : ℕ) (rs : Rows) (rest : List ℕ) → MapRows f w rs → IsMap f w (size rs) (flat rs ++ rest)
unfolding MapRows size
has-record f w none rest m = omega arith
has-record f w (more r s e q) rest m =
    rw flat-more
    (one-row f s e q (size r) w (flat r ++ s ∷ e ∷ q ∷ rest) (has-record f s r (s ∷ e ∷ q ∷ rest) m.4) (simp length-append (omega (arith, length-flat r)))
    (row-start r s e q rest) (row-end r s e q rest) (row-rights r s e q rest) m.0 m.1 m.2 (λ k h. differ-last r (s ∷ e ∷ q ∷ rest) q k m.3 h))

-- the map of f has the record: alone, and over the front of any numbers
pub map-is-map : (f : ℕ → ℕ) (w : ℕ) → IsMap f w (size (map_of f w)) (flat (map_of f w))
map-is-map f w = rw append-nil at (has-record f w (map_of f w) [] (map_rows f w))

pub map-in-memory : (f : ℕ → ℕ) (w : ℕ) (l : List ℕ) → IsMap f w (size (map_of f w)) (filled (map_of f w) l)
unfolding filled
map-in-memory f w l = has-record f w (map_of f w) (drop (3 * size (map_of f w)) l) (map_rows f w)
