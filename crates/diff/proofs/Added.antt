-- One more span in memory that holds rows is a join: `numbers_with` and `count_with` are what `with_span` says.
use Prim.Native.Nat.{ℕ, suc, ◌+◌, ◌-◌, ◌*◌, ◌≤◌, ◌<◌}
use mathlib.Core.Path.{◌≡◌, refl, sym, ap, ◌∙◌}
use mathlib.Core.Bool.{Bool, true, false, ◌&&◌}
use mathlib.Core.Logic.{⊎_elim, ◌≢◌}
use mathlib.Core.List.{List, [], ◌∷◌, ◌++◌, append_assoc}
use native.Mathlib.Omega.{arith}
use native.Mathlib.Nat.{zero-add, suc-add}
use native.Mathlib.Numerals.{add-one, add-two, add-three, add-four}
use lib.Dec.{eqb, ltb}
use lib.ListN.{length, get_or, set, drop}
use lib.Seq.{get_or-append-add, drop-drop, sets-eq}
use borrow.Author.Tests.{lt-ltb, le-ltb, eq-eqb, ne_eqb, ltb-true}
use Rattle.spans.proofs.Order.{equal-or}
use Rattle.diff.specs.Bits.{differing}
use Rattle.diff.specs.Diff.{goes_on, behind, with_span}
use Rattle.diff.specs.Put.{continues, count_with, numbers_with}
use Rattle.diff.specs.Rows.{DiffRows, none, more, diff_row_numbers, flat_diff, size_diff, filled_diff}
use Rattle.diff.proofs.Joined.{join-equal, join_apart}
use Rattle.diff.proofs.Memory.{length-flat, flat-more, filled-front, filled-rest}
use Rattle.diff.proofs.Tests.{both, true-or-false}

-- ---- whether a span goes on the last row, as the code finds it

module _ (l : List ℕ) (n s a b : ℕ) where
  pub continues-first : n ≡ 0 → false ≡ continues l n s a b
  unfolding continues
  continues-first h = simp (le-ltb 0 n (omega arith))

  pub continues-later : s ≤ get_or l (diff_row_numbers * n - diff_row_numbers + 1) 0 → false ≡ continues l n s a b
  unfolding continues
  continues-later h = by (ltb 0 n)
    where
      off : eqb (get_or l (diff_row_numbers * n - diff_row_numbers + 1) 0 + 1) s ≡ false
      off = ne_eqb _ s (λ e. omega arith)

      by : (t : Bool) → false ≡ (t && goes_on (get_or l (diff_row_numbers * n - diff_row_numbers + 1) 0) (get_or l (diff_row_numbers * n - diff_row_numbers + 2) 0) (get_or l (diff_row_numbers * n - diff_row_numbers + 3) 0) s a b)
      by true = rw off
      by false = refl

  pub continues-at : n ≢ 0 → get_or l (diff_row_numbers * n - diff_row_numbers + 1) 0 < s
      → (eqb (s - get_or l (diff_row_numbers * n - diff_row_numbers + 1) 0) 1 && eqb (get_or l (diff_row_numbers * n - diff_row_numbers + 2) 0) a && eqb (get_or l (diff_row_numbers * n - diff_row_numbers + 3) 0) b)
      ≡ continues l n s a b
  unfolding continues
  continues-at h k = rw (lt-ltb 0 n (omega arith), next (get_or l (diff_row_numbers * n - diff_row_numbers + 1) 0) k)
    where
      next : (e : ℕ) → e < s → eqb (s - e) 1 ≡ eqb (e + 1) s
      next e h =
          ⊎_elim
          (λ p. eq-eqb (s - e) 1 (omega arith) ∙ sym (eq-eqb (e + 1) s p))
          (λ p. ne_eqb (s - e) 1 (λ q. p (omega arith)) ∙ sym (ne_eqb (e + 1) s p))
          (equal-or (e + 1) s)

  -- then there is one
  pub continues-some : continues l n s a b ≡ true → 0 < n
  unfolding continues
  continues-some h = ltb-true 0 n (both (ltb 0 n) _ h).0

-- ---- the three ways of one more span

module _ (l : List ℕ) (n s e a b : ℕ) where
  pub put-none : a ≡ b → (n ≡ count_with l n s a b) × (l ≡ numbers_with l n s e a b)
  unfolding count_with numbers_with
  put-none h = simp (eq-eqb a b h) (refl, refl)

  pub put-grows : a ≢ b → continues l n s a b ≡ true → (n ≡ count_with l n s a b) × (set l (diff_row_numbers * n - diff_row_numbers + 1) e ≡ numbers_with l n s e a b)
  unfolding count_with numbers_with
  put-grows h k = simp (ne_eqb a b h, k) (refl, refl)

  pub put-adds : a ≢ b → continues l n s a b ≡ false
      → (n + 1 ≡ count_with l n s a b)
      × (set (set (set (set (set l (diff_row_numbers * n) s) (diff_row_numbers * n + 1) e) (diff_row_numbers * n + 2) a) (diff_row_numbers * n + 3) b) (diff_row_numbers * n + 4) (differing a b)
      ≡ numbers_with l n s e a b)
  unfolding count_with numbers_with
  put-adds h k = simp (ne_eqb a b h, k) (refl, refl)

-- ---- a number behind rows

set_past : (xs ys : List ℕ) (j v : ℕ) → set (xs ++ ys) (length xs + j) v ≡ xs ++ set ys j v
set_past [] ys j v = rw zero-add
set_past (x ∷ xs) ys j v = rw suc-add (ap (λ (l : List ℕ). x ∷ l) (set_past xs ys j v))

-- ---- the last row grows

module _ (r : DiffRows) (s₀ e₀ a₀ b₀ : ℕ) (l : List ℕ) where
  last_row : filled_diff (more r s₀ e₀ a₀ b₀) l ≡ flat_diff r ++ s₀ ∷ e₀ ∷ a₀ ∷ b₀ ∷ differing a₀ b₀ ∷ drop (diff_row_numbers * suc (size_diff r)) l
  unfolding filled_diff size_diff
  last_row = flat-more r s₀ e₀ a₀ b₀ (drop (diff_row_numbers * suc (size_diff r)) l)

  last-number : (i j : ℕ) → i ≡ diff_row_numbers * size_diff r + j
      → get_or (filled_diff (more r s₀ e₀ a₀ b₀) l) i 0 ≡ get_or (s₀ ∷ e₀ ∷ a₀ ∷ b₀ ∷ differing a₀ b₀ ∷ drop (diff_row_numbers * suc (size_diff r)) l) j 0
  last-number i j h =
      let k : i ≡ length (flat_diff r) + j = omega (arith, length-flat r) in
      rw (last_row, k) (get_or-append-add (flat_diff r) _ j 0)

  last-continues : (s a b : ℕ) → continues (filled_diff (more r s₀ e₀ a₀ b₀) l) (suc (size_diff r)) s a b ≡ goes_on e₀ a₀ b₀ s a b
  unfolding continues
  last-continues s a b =
      rw (
        lt-ltb 0 (suc (size_diff r)) (omega arith),
        last-number (diff_row_numbers * suc (size_diff r) - diff_row_numbers + 1) 1 (omega arith),
        last-number (diff_row_numbers * suc (size_diff r) - diff_row_numbers + 2) 2 (omega arith),
        last-number (diff_row_numbers * suc (size_diff r) - diff_row_numbers + 3) 3 (omega arith),
      )

grown : (r : DiffRows) (s₀ e₀ a₀ b₀ : ℕ) (l : List ℕ) (e : ℕ)
    → set (filled_diff (more r s₀ e₀ a₀ b₀) l) (diff_row_numbers * suc (size_diff r) - diff_row_numbers + 1) e ≡ filled_diff (more r s₀ e a₀ b₀) l
grown r s₀ e₀ a₀ b₀ l e =
    let i : diff_row_numbers * suc (size_diff r) - diff_row_numbers + 1 ≡ length (flat_diff r) + 1 = omega (arith, length-flat r) in
    rw (last_row r s₀ e₀ a₀ b₀ l, last_row r s₀ e a₀ b₀ l, i)
    (set_past (flat_diff r) (s₀ ∷ e₀ ∷ a₀ ∷ b₀ ∷ differing a₀ b₀ ∷ drop (diff_row_numbers * suc (size_diff r)) l) 1 e)

-- ---- a row more

added : (rs : DiffRows) (l : List ℕ) (s e a b : ℕ) → diff_row_numbers * size_diff rs + diff_row_numbers ≤ length (filled_diff rs l)
    → set (set (set (set (set (filled_diff rs l) (diff_row_numbers * size_diff rs) s) (diff_row_numbers * size_diff rs + 1) e) (diff_row_numbers * size_diff rs + 2) a)
    (diff_row_numbers * size_diff rs + 3) b) (diff_row_numbers * size_diff rs + 4) (differing a b)
    ≡ filled_diff (more rs s e a b) l
added rs l s e a b h =
    let n = diff_row_numbers * size_diff rs in
    let i : diff_row_numbers * suc (size_diff rs) ≡ n + 5 = omega arith in
    let rest : drop (n + 5) (filled_diff rs l) ≡ drop (n + 5) l = rw (← drop-drop 5 n (filled_diff rs l), filled-rest) (drop-drop 5 n l) in
    rw (last_row rs s e a b l, i, add-one, add-two, add-three, add-four)
    (sets-eq (s ∷ e ∷ a ∷ b ∷ differing a b ∷ []) (filled_diff rs l) n h ∙ rw (filled-front, rest, append_assoc))

-- l₀ with the rows rs over its front, where there is room for a row more: one more span leaves l₀ with their join over its front
pub put-joins : (rs : DiffRows) (l₀ l : List ℕ) (n s e a b : ℕ) → n ≡ size_diff rs → l ≡ filled_diff rs l₀ → diff_row_numbers * n + diff_row_numbers ≤ length l
    → (count_with l n s a b ≡ size_diff (with_span rs s e a b)) × (numbers_with l n s e a b ≡ filled_diff (with_span rs s e a b) l₀)
unfolding behind size_diff
put-joins rs l₀ l n s e a b k h g =
    ⊎_elim
    (λ q. let p = put-none l n s e a b q in rw (join-equal rs s e a b q) (sym p.0 ∙ k, sym p.1 ∙ h))
    (λ q. rw (join_apart rs s e a b q) (apart rs q k h))
    (equal-or a b)
  where
    new : (rs : DiffRows) → a ≢ b → n ≡ size_diff rs → l ≡ filled_diff rs l₀ → continues l n s a b ≡ false
        → (count_with l n s a b ≡ suc (size_diff rs)) × (numbers_with l n s e a b ≡ filled_diff (more rs s e a b) l₀)
    new rs q k h c =
        let p = put-adds l n s e a b q c in
        (sym p.0 ∙ omega arith, sym p.1 ∙ rw (h, k) (added rs l₀ s e a b (rw (h, k) at g)))

    apart : (rs : DiffRows) → a ≢ b → n ≡ size_diff rs → l ≡ filled_diff rs l₀
        → (count_with l n s a b ≡ size_diff (behind rs s e a b)) × (numbers_with l n s e a b ≡ filled_diff (behind rs s e a b) l₀)
    apart none q k h = new none q k h (sym (continues-first l n s a b k))
    apart (more r s₀ e₀ a₀ b₀) q k h =
        let c : continues l n s a b ≡ goes_on e₀ a₀ b₀ s a b = rw (h, k) (last-continues r s₀ e₀ a₀ b₀ l₀ s a b) in
        ⊎_elim
        (λ t.
        let p = put-grows l n s e a b q (c ∙ t) in
        rw t (sym p.0 ∙ k, sym p.1 ∙ rw (h, k) (grown r s₀ e₀ a₀ b₀ l₀ e)))
        (λ t. rw t (new (more r s₀ e₀ a₀ b₀) q k h (c ∙ t)))
        (true-or-false (goes_on e₀ a₀ b₀ s a b))
