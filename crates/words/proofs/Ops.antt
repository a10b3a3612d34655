-- What the machine's operators do to each bit, and what they compute in the words of Bit.antt.
-- At width n the code's `!x` is (2 ^ n - 1) - x, `x >> k` is x / 2 ^ k, and `x << k` is (x * 2 ^ k) % 2 ^ n.
use mathlib.Core.Path.{◌≡◌, refl, ap, ◌∙◌}
use mathlib.Core.Bool.{Bool, true, false, not, ◌&&◌, ◌||◌, cond, beq, and_comm, and-true, and-false, or-true, or-false}
use Prim.Native.Nat.{ℕ, zero, suc, ◌-◌, ◌*◌, ◌/◌, ◌%◌, ◌^◌, ◌<◌}
use native.Mathlib.Nat.{mod-lt, mod-eq_of_lt, lt_of_le_of_lt}
use native.Mathlib.Omega.{arith}
use lib.Dec.{eqb}
use lib.Pow.{pow_pos, pow-lt, ones_sub-lt}
use lib.Bits.{bit_and, bit_or, bit_xor, and_shr, and_mod, or_shr, or_mod, xor_shr, xor_mod, or_lt, and_le_l, and_le_r}
use Rattle.words.specs.Bit.{bit, field, masked, less, merged, united, with_bit}
use Rattle.words.proofs.Laws.{word-ext, word-not, bit_word, bit-pow}
use Rattle.words.proofs.Masks.{cond-or}

-- ---- bit by bit

-- an operation on digits
module _ (op : ℕ → ℕ → ℕ) (f : Bool → Bool → Bool)
    (shr : (a b k : ℕ) → op a b / 2 ^ k ≡ op (a / 2 ^ k) (b / 2 ^ k))
    (rem : (a b k : ℕ) → op a b % 2 ^ k ≡ op (a % 2 ^ k) (b % 2 ^ k))
    (on : (x y : ℕ) → x < 2 → y < 2 → eqb (op x y) 1 ≡ f (eqb x 1) (eqb y 1)) where
  bit-op : (a b k : ℕ) → bit (op a b) k ≡ f (bit a k) (bit b k)
  bit-op a b k =
      ap (λ (d : ℕ). eqb (d % 2) 1) (shr a b k) ∙ ap (λ (d : ℕ). eqb d 1) (rem (a / 2 ^ k) (b / 2 ^ k) 1)
      ∙ on (a / 2 ^ k % 2) (b / 2 ^ k % 2) (mod-lt _ (omega arith)) (mod-lt _ (omega arith))

-- two digits, by the four cases
digits : (P : ℕ → ℕ → Type 0) → P 0 0 → P 0 1 → P 1 0 → P 1 1 → (x y : ℕ) → x < 2 → y < 2 → P x y
digits P a b c d zero zero h k = a
digits P a b c d zero (suc zero) h k = b
digits P a b c d zero (suc (suc y)) h k = absurd (omega arith)
digits P a b c d (suc zero) zero h k = c
digits P a b c d (suc zero) (suc zero) h k = d
digits P a b c d (suc zero) (suc (suc y)) h k = absurd (omega arith)
digits P a b c d (suc (suc x)) y h k = absurd (omega arith)

pub bit-and : (a b k : ℕ) → bit (bit_and a b) k ≡ (bit a k && bit b k)
bit-and = bit-op bit_and ◌&&◌ and_shr and_mod (digits (λ x y. eqb (bit_and x y) 1 ≡ (eqb x 1 && eqb y 1)) refl refl refl refl)

pub bit-or : (a b k : ℕ) → bit (bit_or a b) k ≡ (bit a k || bit b k)
bit-or = bit-op bit_or ◌||◌ or_shr or_mod (digits (λ x y. eqb (bit_or x y) 1 ≡ (eqb x 1 || eqb y 1)) refl refl refl refl)

pub bit-xor : (a b k : ℕ) → bit (bit_xor a b) k ≡ not (beq (bit a k) (bit b k))
bit-xor = bit-op bit_xor (λ p q. not (beq p q)) xor_shr xor_mod (digits (λ x y. eqb (bit_xor x y) 1 ≡ not (beq (eqb x 1) (eqb y 1))) refl refl refl refl)

pub bit_not : (n a k : ℕ) → a < 2 ^ n → k < n → bit ((2 ^ n - 1) - a) k ≡ not (bit a k)
bit_not n a k l h =
    ap (λ (x : ℕ). bit x k) (omega (arith, word-not n (bit a), word-ext n a (bit a) l (λ j _. refl)))
    ∙ bit_word n (λ j. not (bit a j)) k h

-- 1 << k
pub shl_one : (n k : ℕ) → k < n → (1 * 2 ^ k) % 2 ^ n ≡ 2 ^ k
shl_one n k h = ap (λ (x : ℕ). x % 2 ^ n) (omega arith) ∙ mod-eq_of_lt (pow-lt h)

pub shl-one-pos : (n k : ℕ) → k < n → 0 < (1 * 2 ^ k) % 2 ^ n
shl-one-pos n k h = rw (shl_one n k h) (pow_pos k)

-- ---- words

pub and_is : (n x mask : ℕ) → x < 2 ^ n → bit_and x mask ≡ masked n x mask
unfolding masked
and_is n x mask l =
    word-ext n (bit_and x mask) _ (lt_of_le_of_lt (and_le_l x mask) l) (λ k h. bit-and x mask k ∙ and_comm (bit x k) (bit mask k))

pub less-is : (n x mask : ℕ) → mask < 2 ^ n → bit_and x ((2 ^ n - 1) - mask) ≡ less n x mask
unfolding less
less-is n x mask l =
    word-ext n (bit_and x ((2 ^ n - 1) - mask)) _ (lt_of_le_of_lt (and_le_r x _) (ones_sub-lt n mask))
    (λ k h. simp (bit-and, bit_not n mask k l h))

pub merge-is : (n old new mask : ℕ) → mask < 2 ^ n
    → bit_or (bit_and old ((2 ^ n - 1) - mask)) (bit_and new mask) ≡ merged n old new mask
unfolding merged
merge-is n old new mask l =
    word-ext n (bit_or (bit_and old ((2 ^ n - 1) - mask)) (bit_and new mask)) _
    (or_lt n _ _ (lt_of_le_of_lt (and_le_r old _) (ones_sub-lt n mask)) (lt_of_le_of_lt (and_le_r new mask) l))
    (λ k h. simp (bit-or, bit-and, bit_not n mask k l h, and_comm (bit new k) (bit mask k), cond-or))

pub or_is : (n x y : ℕ) → x < 2 ^ n → y < 2 ^ n → bit_or x y ≡ united n x y
unfolding united
or_is n x y l m = word-ext n (bit_or x y) _ (or_lt n x y l m) (λ k h. bit-or x y k)

-- x >> at, then the rest by 1 << wide
pub field_is : (n x at wide : ℕ) → wide < n → x / 2 ^ at % ((1 * 2 ^ wide) % 2 ^ n) ≡ field x at wide
field_is n x at wide h = ap (λ (m : ℕ). x / 2 ^ at % m) (shl_one n wide h)

-- ---- one bit

on_bit : (a b : Bool) → (b || a) ≡ cond a true b
on_bit true b = simp or-true
on_bit false b = simp or-false

off-bit : (a b : Bool) → (b && not a) ≡ cond a false b
off-bit true b = simp and-false
off-bit false b = simp and-true

pub set_is : (n x k : ℕ) → x < 2 ^ n → k < n → bit_or x ((1 * 2 ^ k) % 2 ^ n) ≡ with_bit n x k true
unfolding with_bit
set_is n x k l g =
    ap (bit_or x) (shl_one n k g)
    ∙ word-ext n (bit_or x (2 ^ k)) _ (or_lt n x (2 ^ k) l (pow-lt g)) (λ i h. simp (bit-or, bit-pow, on_bit))

pub clear-is : (n x k : ℕ) → k < n → bit_and x ((2 ^ n - 1) - (1 * 2 ^ k) % 2 ^ n) ≡ with_bit n x k false
unfolding with_bit
clear-is n x k g =
    ap (λ (m : ℕ). bit_and x ((2 ^ n - 1) - m)) (shl_one n k g)
    ∙ word-ext n (bit_and x ((2 ^ n - 1) - 2 ^ k)) _ (lt_of_le_of_lt (and_le_r x _) (ones_sub-lt n (2 ^ k)))
    (λ i h. simp (bit-and, bit_not n (2 ^ k) i (pow-lt g) h, bit-pow, off-bit))
