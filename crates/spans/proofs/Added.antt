-- One more span in memory that holds rows is a join: `put_in` and `put_count` are what `join` says. Assumes nothing.
use Prim.Native.Nat.{ℕ, suc, ◌+◌, ◌-◌, ◌*◌, ◌/◌, ◌≤◌, ◌<◌}
use mathlib.Core.Path.{◌≡◌, refl, sym, ap, ◌∙◌}
use mathlib.Core.Logic.{⊎_elim, ◌≢◌}
use mathlib.Core.List.{List, [], ◌∷◌, ◌++◌, append_assoc}
use native.Mathlib.Omega.{arith}
use native.Mathlib.Nat.{zero-add, suc-add}
use native.Mathlib.Numerals.{add-one, add-two}
use lib.ListN.{length, get_or, set, drop}
use lib.Seq.{get_or-append-add, drop-drop, sets-eq}
use borrow.Author.Tests.{lt-ltb, le-ltb, eq-eqb, ne_eqb}
use Rattle.spans.specs.Rows.{Rows, none, more, flat, size, filled}
use Rattle.spans.specs.Map.{join}
use Rattle.spans.specs.Put.{put_count, put_in}
use Rattle.spans.proofs.Order.{below_or, equal-or}
use Rattle.spans.proofs.Memory.{length-flat, flat-more, filled-front, filled-rest}

-- ---- the three ways of one more span

module _ (l : List ℕ) (n s e q : ℕ) where
  pub put_full : length l / 3 ≤ n → (n ≡ put_count l n q) × (l ≡ put_in l n s e q)
  unfolding put_count put_in
  put_full full = simp (le-ltb n (length l / 3) full) (refl, refl)

  pub put-grows : n < length l / 3 → 0 < n → get_or l (3 * n - 1) 0 ≡ q → (n ≡ put_count l n q) × (set l (3 * n - 2) e ≡ put_in l n s e q)
  unfolding put_count put_in
  put-grows free some same = simp (lt-ltb n (length l / 3) free, lt-ltb 0 n some, eq-eqb (get_or l (3 * n - 1) 0) q same) (refl, refl)

  pub put-adds : n < length l / 3 → (0 < n → get_or l (3 * n - 1) 0 ≢ q)
      → (n + 1 ≡ put_count l n q) × (set (set (set l (3 * n) s) (3 * n + 1) e) (3 * n + 2) q ≡ put_in l n s e q)
  unfolding put_count put_in
  put-adds free other =
      ⊎_elim
      (λ some. simp (lt-ltb n (length l / 3) free, lt-ltb 0 n some, ne_eqb (get_or l (3 * n - 1) 0) q (other some)) (refl, refl))
      (λ none. simp (lt-ltb n (length l / 3) free, le-ltb 0 n none) (refl, refl))
      (below_or 0 n)

-- ---- a number behind rows

set_past : (xs ys : List ℕ) (j a : ℕ) → set (xs ++ ys) (length xs + j) a ≡ xs ++ set ys j a
set_past [] ys j a = rw zero-add
set_past (x ∷ xs) ys j a = rw suc-add (ap (λ (l : List ℕ). x ∷ l) (set_past xs ys j a))

set-row : (rs : Rows) (ys : List ℕ) (j a : ℕ) → set (flat rs ++ ys) (3 * size rs + j) a ≡ flat rs ++ set ys j a
set-row rs ys j a = rw (← length-flat rs) (set_past (flat rs) ys j a)

-- ---- the last row grows

module _ (r : Rows) (s₀ e₀ q₀ : ℕ) (l : List ℕ) where
  last_row : filled (more r s₀ e₀ q₀) l ≡ flat r ++ s₀ ∷ e₀ ∷ q₀ ∷ drop (3 * suc (size r)) l
  unfolding filled size
  last_row = flat-more r s₀ e₀ q₀ (drop (3 * suc (size r)) l)

  last-rights : get_or (filled (more r s₀ e₀ q₀) l) (3 * suc (size r) - 1) 0 ≡ q₀
  last-rights =
      let i : 3 * suc (size r) - 1 ≡ length (flat r) + 2 = omega (arith, length-flat r) in
      rw (last_row, i, get_or-append-add)

grown : (r : Rows) (s₀ e₀ q₀ : ℕ) (l : List ℕ) (e : ℕ) → set (filled (more r s₀ e₀ q₀) l) (3 * suc (size r) - 2) e ≡ filled (more r s₀ e q₀) l
grown r s₀ e₀ q₀ l e =
    let i : 3 * suc (size r) - 2 ≡ 3 * size r + 1 = omega arith in
    rw (last_row r s₀ e₀ q₀ l, last_row r s₀ e q₀ l, i) (set-row r (s₀ ∷ e₀ ∷ q₀ ∷ drop (3 * suc (size r)) l) 1 e)

-- ---- a row more

added : (rs : Rows) (l : List ℕ) (s e q : ℕ) → 3 * size rs + 3 ≤ length (filled rs l)
    → set (set (set (filled rs l) (3 * size rs) s) (3 * size rs + 1) e) (3 * size rs + 2) q ≡ filled (more rs s e q) l
added rs l s e q h =
    let n = 3 * size rs in
    let i : 3 * suc (size rs) ≡ n + 3 = omega arith in
    let rest : drop (n + 3) (filled rs l) ≡ drop (n + 3) l = rw (← drop-drop 3 n (filled rs l), filled-rest) (drop-drop 3 n l) in
    rw (last_row rs s e q l, i, add-one, add-two) (sets-eq (s ∷ e ∷ q ∷ []) (filled rs l) n h ∙ rw (filled-front, rest, append_assoc))

-- l₀ with the rows rs over its front, where there is room for a row more: one more span leaves l₀ with their join over its front
pub put-joins : (rs : Rows) (l₀ l : List ℕ) (n s e q : ℕ) → n ≡ size rs → l ≡ filled rs l₀ → 3 * n + 3 ≤ length l
    → (put_count l n q ≡ size (join rs s e q)) × (put_in l n s e q ≡ filled (join rs s e q) l₀)
unfolding join size
put-joins none l₀ l n s e q k h g =
    let free : n < length l / 3 = omega arith in
    let p = put-adds l n s e q free (λ some. omega arith) in
    (sym p.0 ∙ omega arith, sym p.1 ∙ rw (h, k) (added none l₀ s e q (rw (h, k) at g)))
put-joins (more r s₀ e₀ q₀) l₀ l n s e q k h g =
    let free : n < length l / 3 = omega arith in
    let some : 0 < n = omega arith in
    let last : get_or l (3 * n - 1) 0 ≡ q₀ = rw (h, k) (last-rights r s₀ e₀ q₀ l₀) in
    ⊎_elim
    (λ i.
    let p = put-grows l n s e q free some (last ∙ i) in
    simp (eq-eqb q₀ q i) (sym p.0 ∙ k, sym p.1 ∙ rw (h, k) (grown r s₀ e₀ q₀ l₀ e)))
    (λ i.
    let p = put-adds l n s e q free (λ _ x. i (sym last ∙ x)) in
    let c : n + 1 ≡ suc (suc (size r)) = omega arith in
    simp (ne_eqb q₀ q i) (sym p.0 ∙ c, sym p.1 ∙ rw (h, k) (added (more r s₀ e₀ q₀) l₀ s e q (rw (h, k) at g))))
    (equal-or q₀ q)
