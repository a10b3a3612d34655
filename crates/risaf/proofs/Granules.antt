-- START and END follow the granule: a write leaves START where a granule starts, and END where one ends.
use mathlib.Core.Bool.{Bool, true, false, not, ◌&&◌, ◌||◌, cond, true≢false, and-true, and-false, or-true, or-false}
use mathlib.Core.Path.{◌≡◌, refl, sym, ap, ◌∙◌, subst}
use Prim.Native.Nat.{ℕ, zero, suc, ◌+◌, ◌-◌, ◌*◌, ◌/◌, ◌^◌, ◌≤◌, ◌<◌}
use native.Mathlib.Decide.{dec_lt}
use native.Mathlib.Omega.{arith}
use lib.Arith.{digits_lt}
use lib.Dec.{eqb}
use lib.Pow.{pow_pos, pow-add, pow-sub-lt, shr_lt}
use borrow.Author.Tests.{eqb-true}
use Rattle.words.specs.Bit.{bit, less, united}
use Rattle.words.proofs.Laws.{word-ext, bit_high, bit-upper, bit-lower, bit-zero, bit-ones, bit-shr}
use Rattle.access.specs.Fold.{any}
use Rattle.risaf.specs.Guards.{GuardRow, guards, low_bits, shape_of, is_guard}
use Rattle.risaf.specs.Port.{word_in}
use Rattle.risaf.specs.declared.guards.Shape.{Shape}
use Rattle.risaf.specs.declared.port.Port.{Port}
use Rattle.risaf.specs.declared.rows.Form.TheVariants.{GranuleStart, GranuleEnd}
use Rattle.risaf.proofs.Shapes.{every, passed, by-row}

-- ---- a granule of 2 ^ k bytes: v with other bits within it

module _ (n k v : ℕ) (h : k ≤ n) (l : v < 2 ^ n) where
  abbrev with-low : ℕ → ℕ
  with-low low = v / 2 ^ k * 2 ^ k + low

  low_fits : (low : ℕ) → low < 2 ^ k → with-low low < 2 ^ n
  low_fits low m =
      let e : n ≡ n - k + k = omega arith in
      subst (λ (x : ℕ). with-low low < x) (sym (ap (λ (x : ℕ). 2 ^ x) e ∙ pow-add 2 (n - k) k))
      (digits_lt (shr_lt (n - k) k (subst (λ (x : ℕ). v < 2 ^ x) e l)) m)

  low_bit : (low i : ℕ) → low < 2 ^ k → bit (with-low low) i ≡ cond (bit (low_bits (2 ^ k)) i) (bit low i) (bit v i)
  low_bit low i m = go (dec_lt i k)
    where
      go : Dec (i < k) → bit (with-low low) i ≡ cond (bit (low_bits (2 ^ k)) i) (bit low i) (bit v i)
      go (yes j) = rw (bit-ones k i j) (bit-lower (v / 2 ^ k) k low i m j)
      go (no r) =
          let e : i ≡ k + (i - k) = omega arith in
          let past : bit (low_bits (2 ^ k)) i ≡ false = bit_high k (low_bits (2 ^ k)) i (pow-sub-lt k (omega arith)) (omega arith) in
          rw past
          (ap (bit (with-low low)) e ∙ bit-upper (v / 2 ^ k) k low (i - k) m ∙ bit-shr v k (i - k) ∙ sym (ap (bit v) e))

  start_is : less n v (low_bits (2 ^ k)) ≡ v / 2 ^ k * 2 ^ k
  unfolding less
  start_is =
      let z : v / 2 ^ k * 2 ^ k ≡ with-low 0 = omega arith in
      sym
      (z ∙ word-ext n (with-low 0) _ (low_fits 0 (pow_pos k))
      (λ i _. low_bit 0 i (pow_pos k) ∙ rw (bit-zero i) (cleared (bit (low_bits (2 ^ k)) i) (bit v i))))
    where
      cleared : (m b : Bool) → cond m false b ≡ (b && not m)
      cleared true b = sym (and-false b)
      cleared false b = sym (and-true b)

  end_is : united n v (low_bits (2 ^ k)) ≡ v / 2 ^ k * 2 ^ k + low_bits (2 ^ k)
  unfolding united
  end_is =
      let m : low_bits (2 ^ k) < 2 ^ k = pow-sub-lt k (omega arith) in
      sym (word-ext n (with-low (low_bits (2 ^ k))) _ (low_fits _ m)
      (λ i _. low_bit _ i m ∙ raised (bit (low_bits (2 ^ k)) i) (bit v i)))
    where
      raised : (m b : Bool) → cond m m b ≡ (b || m)
      raised true b = sym (or-true b)
      raised false b = sym (or-false b)

-- ---- every guard's is such a one

powered : GuardRow → Bool
powered g = any 33 (λ k. eqb g.granule (2 ^ k))

all-powered : every powered guards ≡ true
unfolding every powered
all-powered = refl

by-power : (P : ℕ → Type 0) (n g : ℕ) → any n (λ k. eqb g (2 ^ k)) ≡ true → ((k : ℕ) → k < n → P (2 ^ k)) → P g
by-power P zero g e each = absurd (true≢false (sym e))
by-power P (suc n) g e each = go (eqb g (2 ^ n)) refl e (λ f. by-power P n g f (λ k l. each k (omega arith)))
  where
    go : (t : Bool) → eqb g (2 ^ n) ≡ t → (any n (λ k. eqb g (2 ^ k)) || t) ≡ true → (any n (λ k. eqb g (2 ^ k)) ≡ true → P g) → P g
    go true q f below = subst P (sym (eqb-true _ _ q)) (each n (omega arith))
    go false q f below = below (sym (or-false _) ∙ f)

-- what holds of every power of 2 holds of a guard's granule
by-granule : (P : ℕ → Type 0) → ((k : ℕ) → k ≤ 32 → P (2 ^ k)) → (n : ℕ) → is_guard n ≡ true → P (shape_of n).granule
unfolding powered
by-granule P each n h =
    by-row (λ (s : Shape). P s.granule) n h
    (λ i l q. by-power P 33 _ (passed powered guards all-powered i l) (λ k m. each k (omega arith)))

-- ---- what a write leaves

module _ (n : ℕ) (h : is_guard n ≡ true) (named : ℕ) (p : Port) (value : ℕ) (secure : Bool) (l : value < 2 ^ 32) where
  abbrev granule : ℕ
  granule = (shape_of n).granule

  pub start-written : word_in GranuleStart granule named p value secure ≡ value / granule * granule
  unfolding word_in
  start-written = by-granule (λ g. less 32 value (low_bits g) ≡ value / g * g) (λ k i. start_is 32 k value i l) n h

  pub end-written : word_in GranuleEnd granule named p value secure ≡ value / granule * granule + (granule - 1)
  unfolding word_in
  end-written = by-granule (λ g. united 32 value (low_bits g) ≡ value / g * g + low_bits g) (λ k i. end_is 32 k value i l) n h
