-- Laws of masked, less, merged, united and with_bit.
-- To show that one of these, of others, is a word of bits, state that over n and go bit by bit:
--     word-ext n _ _ (merged-lt n _ _ _) (λ k h. simp (bit-merged, bit-less, bit_masked))
use mathlib.Core.Path.{◌≡◌, refl, ap}
use mathlib.Core.Bool.{Bool, true, false, not, ◌&&◌, ◌||◌, cond}
use mathlib.Core.Bool.{and-true, and-false, or-false}
use Prim.Native.Nat.{ℕ, ◌^◌, ◌≤◌, ◌<◌}
use native.Mathlib.Omega.{arith}
use borrow.Author.Tests.{ne_eqb}
use Rattle.words.specs.Bit.{bit, word, masked, less, merged, united, with_bit}
use Rattle.words.proofs.Laws.{word-cong, bit_word, bit-ext}
use Rattle.words.proofs.Laws.{bit_masked, bit-with_bit}
use Rattle.words.proofs.Laws.{with_bit-lt}

-- ---- choices between bits

cond_same : (m a : Bool) → cond m a a ≡ a
cond_same true a = refl
cond_same false a = refl

pub cond-or : (m a b : Bool) → (b && not m || m && a) ≡ cond m a b
cond-or true a b = simp and-false
cond-or false a b = simp (and-true, or-false)

-- ---- a mask whose bits are known: those of q

module _ (n mask : ℕ) (q : ℕ → Bool) (is : (k : ℕ) → k < n → bit mask k ≡ q k) where
  pub masked-by : (x : ℕ) → masked n x mask ≡ word n (λ i. q i && bit x i)
  unfolding masked
  masked-by x = word-cong n _ _ (λ k h. ap (λ (b : Bool). b && bit x k) (is k h))

  pub less_by : (x : ℕ) → less n x mask ≡ word n (λ i. bit x i && not (q i))
  unfolding less
  less_by x = word-cong n _ _ (λ k h. ap (λ (b : Bool). bit x k && not b) (is k h))

  pub merged_by : (old new : ℕ) → merged n old new mask ≡ word n (λ i. cond (q i) (bit new i) (bit old i))
  unfolding merged
  merged_by old new = word-cong n _ _ (λ k h. ap (λ (b : Bool). cond b (bit new k) (bit old k)) (is k h))

  pub united-by : (x : ℕ) → united n x mask ≡ word n (λ i. bit x i || q i)
  unfolding united
  united-by x = word-cong n _ _ (λ k h. ap (λ (b : Bool). bit x k || b) (is k h))

pub less-masked : (n x y m : ℕ) → less n x (masked n y m) ≡ word n (λ i. bit x i && not (bit m i && bit y i))
less-masked n x y m = less_by n (masked n y m) _ (bit_masked n y m) x

pub merged-word : (n old new : ℕ) (q : ℕ → Bool)
    → merged n old new (word n q) ≡ word n (λ i. cond (q i) (bit new i) (bit old i))
merged-word n old new q = merged_by n (word n q) q (bit_word n q) old new

pub united-masked : (n x y m : ℕ) → united n x (masked n y m) ≡ word n (λ i. bit x i || bit m i && bit y i)
united-masked n x y m = united-by n (masked n y m) _ (bit_masked n y m) x

-- ---- one bit

pub with_bit-other : (n x k : ℕ) (b : Bool) (i : ℕ) → i < n → (i ≡ k → ⊥) → bit (with_bit n x k b) i ≡ bit x i
with_bit-other n x k b i h d = simp (bit-with_bit, ne_eqb i k d)

-- a place past the width leaves x
pub with_bit-high : (n x k : ℕ) (b : Bool) → x < 2 ^ n → n ≤ k → with_bit n x k b ≡ x
with_bit-high n x k b l g = bit-ext n _ _ (with_bit-lt n _ _ _) l (λ i h. with_bit-other n x k b i h (λ e. omega arith))
