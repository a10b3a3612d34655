-- What the record `IsDiff` says of numbers is what `AreRows` says of the rows in them. So what differs has the record, and nothing else has it.
use Prim.Native.Nat.{ℕ, zero, suc, ◌+◌, ◌-◌, ◌*◌, ◌≤◌, ◌<◌}
use mathlib.Core.Path.{◌≡◌, sym, ap, ◌∙◌}
use mathlib.Core.Bool.{true≢false}
use mathlib.Core.Logic.{⊎_elim, ◌≢◌}
use mathlib.Core.List.{List, [], ◌∷◌, ◌++◌, append-nil}
use native.Mathlib.Omega.{arith}
use native.Mathlib.Numerals.{add-one}
use lib.ListN.{length, length-append, take, drop}
use Rattle.spans.proofs.Order.{below_or, below-or-at, equal-or}
use Rattle.diff.specs.Bits.{differing}
use Rattle.diff.specs.Diff.{IsDiff, goes_on, diff_of}
use Rattle.diff.specs.Rows.{DiffRows, none, more, diff_row_numbers, flat_diff, size_diff, filled_diff, start, end, old, new, count, Enclosed}
use Rattle.diff.proofs.Memory.{length-flat, flat-more, row-start, row-end, row_old, row_new, row_count, rows_in, size-rows, flat_rows}
use Rattle.diff.proofs.Tests.{goes, gone, true-or-false}
use Rattle.diff.proofs.Unique.{Apart, IsRow, AreRows, diff-rows, unique}

-- ---- numbers that have the record are the numbers of what differs

module _ {f g : ℕ → ℕ} {w n : ℕ} {m : List ℕ} (I : IsDiff f g w n m) where
  -- a later row ends later
  rises : (d k : ℕ) → k + d < n → end m k ≤ end m (k + d)
  rises zero k h = let e : k + 0 ≡ k = omega arith in rw e (omega arith)
  rises (suc d) k h =
      let e : k + suc d ≡ k + d + 1 = omega arith in
      rw e (omega (arith, rises d k (omega arith), I.rising (k + d) (omega arith), I.order (k + d + 1) (omega arith)))

  later : (j k : ℕ) → j ≤ k → k < n → end m j ≤ end m k
  later j k h l = let e : j + (k - j) ≡ k = omega arith in rw e at (rises (k - j) j (omega arith))

  -- "exactly one": two rows that enclose an offset are the same row
  pub one-row : (x : ℕ) (p q : Enclosed n m x) → p.row ≡ q.row
  one-row x p q =
      let no : (p q : Enclosed n m x) → p.row < q.row → ⊥ =
      λ p q h.
      let k = q.row - 1 in
      let e : k + 1 ≡ q.row = omega arith in
      let s : end m k < start m q.row = rw e at (I.rising k (omega (arith, q.held))) in
      omega (arith, later p.row k (omega arith) (omega (arith, q.held)), p.high, q.low) in
      ⊎_elim (λ h. absurd (no p q h)) (λ h. ⊎_elim (λ k. absurd (no q p k)) (λ k. sym k) (below-or-at q.row p.row h)) (below_or p.row q.row)

  apart-before : (k : ℕ) → k < n → Apart (rows_in k m) (start m k) (old m k) (new m k)
  unfolding rows_in Apart
  apart-before zero h = tt
  apart-before (suc k) h =
      ⊎_elim
      (λ t.
      let p = gone (end m k) (old m k) (new m k) (start m (suc k)) (old m (suc k)) (new m (suc k)) t in
      absurd ((rw (add-one k) at (I.joined k (omega arith))) p.0 p.1 p.2))
      (λ t. t)
      (true-or-false (goes_on (end m k) (old m k) (new m k) (start m (suc k)) (old m (suc k)) (new m (suc k))))

  -- the first k rows are what differs below v, where the row before ends below v and they have all that differs there
  rows_before : (k v : ℕ) → k ≤ n → v ≤ w → ((j : ℕ) → j + 1 ≡ k → end m j < v) → ((x : ℕ) → x < v → f x ≢ g x → Enclosed k m x)
      → AreRows f g v (rows_in k m)
  unfolding rows_in AreRows
  rows_before zero v h l before all = λ x u. ⊎_elim (λ e. e) (λ d. absurd (omega (arith, (all x u d).held))) (equal-or (f x) (g x))
  rows_before (suc k) v h l before all =
      let ends : end m k < v = before k (omega arith) in (
        record {
          order = I.order k h;
          within = ends;
          words = λ x a b. I.words k x h a b;
          apart =
              λ e.
              let q = I.words k (end m k) h (I.order k h) (omega arith) in
              I.apart k (end m k) h (I.order k h) (omega arith) (sym q.0 ∙ e ∙ q.1);
          last =
              λ x a b.
              ⊎_elim
              (λ e. e)
              (λ d.
              let p = all x b d in
              absurd (omega (arith, later p.row k (omega (arith, p.held)) h, p.high)))
              (equal-or (f x) (g x));
        },
        apart-before k h,
        rows_before k (start m k) (omega arith) (omega (arith, I.order k h)) (λ j e. rw (← e) (I.rising j (omega arith)))
            (λ x a d.
            let p = all x (omega (arith, I.order k h)) d in
            let r : p.row < k = ⊎_elim (λ u. u) (λ e. absurd (omega (arith, rw e at p.low))) (below-or-at p.row k (omega (arith, p.held))) in
            record { row = p.row; held = r; low = p.low; high = p.high }),
      )

  are-rows : rows_in n m ≡ diff_of f g w
  are-rows =
      unique f g w (rows_in n m) (diff_of f g w)
      (rows_before n w (omega arith) (omega arith) (λ j e. I.within j (omega arith)) (λ x h d. I.every x h d))
      (diff-rows f g w)

  -- a result has the numbers of what differs
  pub is-the-diff : (n ≡ size_diff (diff_of f g w)) × (take (diff_row_numbers * n) m ≡ flat_diff (diff_of f g w))
  is-the-diff = (sym (size-rows n m) ∙ ap size_diff are-rows, sym (flat_rows n m I.held (λ k h. I.counts k h)) ∙ ap flat_diff are-rows)

-- two results are the same
pub one-result : {f g : ℕ → ℕ} {w n n' : ℕ} {m m' : List ℕ} → IsDiff f g w n m → IsDiff f g w n' m'
    → (n ≡ n') × (take (diff_row_numbers * n) m ≡ take (diff_row_numbers * n') m')
one-result I J =
    let p = is-the-diff I in
    let q = is-the-diff J in
    (p.0 ∙ sym q.0, p.1 ∙ sym q.1)

-- ---- rows that are what differs have the record

-- the row before row n, if there is one, is not gone on by the span of row n
joined-last : (r : DiffRows) (rest : List ℕ) (s a b k : ℕ) → Apart r s a b → k + 1 ≡ size_diff r → end (flat_diff r ++ rest) k + 1 ≡ s → old (flat_diff r ++ rest) k ≡ a
    → new (flat_diff r ++ rest) k ≢ b
unfolding Apart size_diff
joined-last none rest s a b k d h e p q = omega arith
joined-last (more r s₀ e₀ a₀ b₀) rest s a b k d h e p q =
    let i : k ≡ size_diff r = omega arith in
    let e' : e₀ + 1 ≡ s = ap (λ (x : ℕ). x + 1) (sym (row-end r s₀ e₀ a₀ b₀ rest)) ∙ rw (flat-more r s₀ e₀ a₀ b₀ rest, i) at e in
    let p' : a₀ ≡ a = sym (row_old r s₀ e₀ a₀ b₀ rest) ∙ rw (flat-more r s₀ e₀ a₀ b₀ rest, i) at p in
    let q' : b₀ ≡ b = sym (row_new r s₀ e₀ a₀ b₀ rest) ∙ rw (flat-more r s₀ e₀ a₀ b₀ rest, i) at q in
    absurd (true≢false (sym (goes e₀ a₀ b₀ s a b e' p' q') ∙ d))

module _ (f g : ℕ → ℕ) where
  add_row : (s e a b n w : ℕ) (m : List ℕ) → IsDiff f g s n m → diff_row_numbers * n + 5 ≤ length m
      → start m n ≡ s → end m n ≡ e → old m n ≡ a → new m n ≡ b → count m n ≡ differing a b
      → IsRow f g w s e a b → ((k : ℕ) → k + 1 ≡ n → end m k + 1 ≡ s → old m k ≡ a → new m k ≢ b) → IsDiff f g w (suc n) m
  add_row s e a b n w m I held rs re ra rb rc i j =
      let split : (k : ℕ) (P : ℕ → Type 0) → k < suc n → (k < n → P k) → P n → P k =
      λ k P h p q. ⊎_elim p (λ (x : k ≡ n). rw x q) (below-or-at k n (omega arith)) in
      record {
        held = omega arith;
        order = λ k h. split k (λ k. start m k ≤ end m k) h (λ l. I.order k l) (omega (arith, i.order));
        rising =
            λ k h.
            ⊎_elim
            (λ l. I.rising k l)
            (λ x. rw x (rw rs (I.within k (omega arith))))
            (below-or-at (k + 1) n (omega arith));
        within = λ k h. split k (λ k. end m k < w) h (λ l. omega (arith, I.within k l, i.order, i.within)) (omega (arith, i.within));
        words =
            λ k x h.
            split k (λ k. start m k ≤ x → x ≤ end m k → (old m k ≡ f x) × (new m k ≡ g x)) h (λ l. I.words k x l)
            (λ l u. let q = i.words x (omega arith) (omega arith) in (ra ∙ q.0, rb ∙ q.1));
        apart =
            λ k x h.
            split k (λ k. start m k ≤ x → x ≤ end m k → f x ≢ g x) h (λ l. I.apart k x l)
            (λ l u q. let p = i.words x (omega arith) (omega arith) in i.apart (p.0 ∙ q ∙ sym p.1));
        every =
            λ x h d.
            ⊎_elim
            (λ l. let p = I.every x l d in record { row = p.row; held = omega (arith, p.held); low = p.low; high = p.high })
            (λ l.
            ⊎_elim
            (λ u. absurd (d (i.last x u h)))
            (λ u. record { row = n; held = omega arith; low = omega arith; high = omega arith })
            (below_or e x))
            (below_or x s);
        joined =
            λ k h.
            ⊎_elim
            (λ l. I.joined k l)
            (λ x. rw x (rw (rs, ra, rb) (j k x)))
            (below-or-at (k + 1) n (omega arith));
        counts = λ k h. split k (λ k. count m k ≡ differing (old m k) (new m k)) h (λ l. I.counts k l) (rw (ra, rb) rc);
      }

  has-record : (w : ℕ) (rs : DiffRows) (rest : List ℕ) → AreRows f g w rs → IsDiff f g w (size_diff rs) (flat_diff rs ++ rest)
  unfolding AreRows size_diff
  has-record w none rest d =
      record {
        held = omega arith;
        order = λ k h. absurd (omega arith);
        rising = λ k h. absurd (omega arith);
        within = λ k h. absurd (omega arith);
        words = λ k x h. absurd (omega arith);
        apart = λ k x h. absurd (omega arith);
        every = λ x h p. absurd (p (d x h));
        joined = λ k h. absurd (omega arith);
        counts = λ k h. absurd (omega arith);
      }
  has-record w (more r s e a b) rest d =
      rw flat-more
      (add_row s e a b (size_diff r) w (flat_diff r ++ s ∷ e ∷ a ∷ b ∷ differing a b ∷ rest)
      (has-record s r (s ∷ e ∷ a ∷ b ∷ differing a b ∷ rest) d.2) (simp length-append (omega (arith, length-flat r)))
      (row-start r s e a b rest) (row-end r s e a b rest) (row_old r s e a b rest) (row_new r s e a b rest) (row_count r s e a b rest) d.0
      (λ k h. joined-last r (s ∷ e ∷ a ∷ b ∷ differing a b ∷ rest) s a b k d.1 h))

  -- what differs has the record: alone, and over the front of any numbers
  pub diff-is-diff : (w : ℕ) → IsDiff f g w (size_diff (diff_of f g w)) (flat_diff (diff_of f g w))
  diff-is-diff w = rw append-nil at (has-record w (diff_of f g w) [] (diff-rows f g w))

  pub diff-in-memory : (w : ℕ) (l : List ℕ) → IsDiff f g w (size_diff (diff_of f g w)) (filled_diff (diff_of f g w) l)
  unfolding filled_diff
  diff-in-memory w l = has-record w (diff_of f g w) (drop (diff_row_numbers * size_diff (diff_of f g w)) l) (diff-rows f g w)
