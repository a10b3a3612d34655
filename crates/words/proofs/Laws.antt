-- Words and their bits: a number below 2 ^ n is known by its n bits.
use mathlib.Core.Path.{◌≡◌, refl, sym, ap, ap₂, ◌∙◌, subst}
use mathlib.Core.Bool.{Bool, true, false, not, ◌&&◌, ◌||◌, cond}
use Prim.Native.Nat.{ℕ, zero, suc, ◌+◌, ◌-◌, ◌*◌, ◌/◌, ◌%◌, ◌^◌, ◌≤◌, ◌<◌}
use native.Mathlib.Nat.{mod-lt, mod-eq_of_lt, div-lt_iff_lt-mul, lt_of_lt_of_le}
use native.Mathlib.Decide.{dec_lt}
use native.Mathlib.Omega.{arith}
use lib.Dec.{eqb}
use lib.Arith.{mod-mul, lt-one}
use lib.Pow.{pow_pos, pow_mono, pow-lt, high, low, mod-mod-pow, shr-shr, shr_lt, field as shr-of-mod}
use borrow.Author.Tests.{eq-eqb, ne_eqb}
use Rattle.words.specs.Bit.{bit, one, word, field, masked, less, merged, united, with_bit}

-- ---- the number of a bit

digit : (d : ℕ) → d < 2 → one (eqb d 1) ≡ d
digit zero h = refl
digit (suc zero) h = refl
digit (suc (suc d)) h = absurd (omega arith)

pub one_bit : (x k : ℕ) → one (bit x k) ≡ x / 2 ^ k % 2
one_bit x k = digit (x / 2 ^ k % 2) (mod-lt _ (omega arith))

pub bit-one : (b : Bool) → bit (one b) 0 ≡ b
bit-one true = refl
bit-one false = refl

-- ---- a word and its bits

pub word_lt : (n : ℕ) (p : ℕ → Bool) → word n p < 2 ^ n
word_lt zero p = omega arith
word_lt (suc n) p = go (p n) (word_lt n p)
  where
    go : (b : Bool) → word n p < 2 ^ n → one b * 2 ^ n + word n p < 2 ^ suc n
    go true h = omega arith
    go false h = omega arith

-- words of the same bits
pub word-cong : (n : ℕ) (p q : ℕ → Bool) → ((k : ℕ) → k < n → p k ≡ q k) → word n p ≡ word n q
word-cong zero p q h = refl
word-cong (suc n) p q h =
    ap₂ (λ (b : Bool) (w : ℕ). one b * 2 ^ n + w) (h n (omega arith)) (word-cong n p q (λ k l. h k (omega arith)))

-- the word of x's first n bits is x % 2 ^ n
pub word-bits : (n x : ℕ) (p : ℕ → Bool) → ((k : ℕ) → k < n → bit x k ≡ p k) → word n p ≡ x % 2 ^ n
word-bits zero x p h = omega arith
word-bits (suc n) x p h =
    ap₂ (λ (a b : ℕ). a * 2 ^ n + b) (ap one (sym (h n (omega arith))) ∙ one_bit x n)
    (word-bits n x p (λ k l. h k (omega arith)))
    ∙ sym (ap (λ (m : ℕ). x % m) (omega arith) ∙ mod-mul x {m = 2} {c = 2 ^ n} (omega arith) (pow_pos n))

-- a number below 2 ^ n is the word of its bits
pub word-ext : (n x : ℕ) (p : ℕ → Bool) → x < 2 ^ n → ((k : ℕ) → k < n → bit x k ≡ p k) → x ≡ word n p
word-ext n x p l h = sym (word-bits n x p h ∙ mod-eq_of_lt l)

-- two numbers below 2 ^ n with the same bits are equal
pub bit-ext : (n x y : ℕ) → x < 2 ^ n → y < 2 ^ n → ((k : ℕ) → k < n → bit x k ≡ bit y k) → x ≡ y
bit-ext n x y l m h = word-ext n x (bit y) l h ∙ sym (word-ext n y (bit y) m (λ k _. refl))

-- past its width a number has no bit
pub bit_high : (n x k : ℕ) → x < 2 ^ n → n ≤ k → bit x k ≡ false
bit_high n x k l h =
    ap (λ (d : ℕ). eqb (d % 2) 1)
    (lt-one ((div-lt_iff_lt-mul (pow_pos k)).1 (lt_of_lt_of_le l (subst (λ (m : ℕ). 2 ^ n ≤ m) (omega arith) (pow_mono h)))))

-- x % 2 ^ n has x's bits below n
pub bit-mod : (n x k : ℕ) → k < n → bit (x % 2 ^ n) k ≡ bit x k
bit-mod n x k h =
    ap (λ (d : ℕ). eqb (d % 2) 1) (ap (λ (m : ℕ). x % 2 ^ m / 2 ^ k) e ∙ shr-of-mod x (n - k - 1 + 1) k)
    ∙ ap (λ (d : ℕ). eqb d 1) (mod-mod-pow (x / 2 ^ k) (n - k - 1) 1)
  where
    e : n ≡ n - k - 1 + 1 + k
    e = omega arith

-- a number of two parts, the lower one j bits wide
pub bit-upper : (hi j lo k : ℕ) → lo < 2 ^ j → bit (hi * 2 ^ j + lo) (j + k) ≡ bit hi k
bit-upper hi j lo k l =
    ap (λ (d : ℕ). eqb (d % 2) 1) (sym (shr-shr (hi * 2 ^ j + lo) j k) ∙ ap (λ (d : ℕ). d / 2 ^ k) (high hi j l))

pub bit-lower : (hi j lo k : ℕ) → lo < 2 ^ j → k < j → bit (hi * 2 ^ j + lo) k ≡ bit lo k
bit-lower hi j lo k l h = sym (bit-mod j (hi * 2 ^ j + lo) k h) ∙ ap (λ (x : ℕ). bit x k) (low hi j l)

pub bit_word : (n : ℕ) (p : ℕ → Bool) (k : ℕ) → k < n → bit (word n p) k ≡ p k
bit_word zero p k h = absurd (omega arith)
bit_word (suc n) p k h = go (bit_word n p k) (dec_lt k n)
  where
    go : (k < n → bit (word n p) k ≡ p k) → Dec (k < n) → bit (one (p n) * 2 ^ n + word n p) k ≡ p k
    go ih (yes l) = bit-lower (one (p n)) n (word n p) k (word_lt n p) l ∙ ih l
    go ih (no r) =
        subst (λ (m : ℕ). bit (one (p n) * 2 ^ n + word n p) m ≡ p k) (omega arith)
        (bit-upper (one (p n)) n (word n p) 0 (word_lt n p) ∙ bit-one (p n) ∙ ap p (omega arith))

-- ---- numbers of known bits

pub bit-zero : (k : ℕ) → bit 0 k ≡ false
bit-zero k = bit_high 0 0 k (omega arith) (omega arith)

pub word-zero : (n : ℕ) (p : ℕ → Bool) → ((k : ℕ) → k < n → p k ≡ false) → word n p ≡ 0
word-zero n p h = sym (word-ext n 0 p (pow_pos n) (λ k l. bit-zero k ∙ sym (h k l)))

-- the word of the other bits
pub word-not : (n : ℕ) (p : ℕ → Bool) → word n (λ k. not (p k)) + word n p + 1 ≡ 2 ^ n
word-not zero p = refl
word-not (suc n) p = go (p n) (word-not n p)
  where
    go : (b : Bool) → word n (λ k. not (p k)) + word n p + 1 ≡ 2 ^ n
        → one (not b) * 2 ^ n + word n (λ k. not (p k)) + (one b * 2 ^ n + word n p) + 1 ≡ 2 ^ suc n
    go true h = omega arith
    go false h = omega arith

pub bit-ones : (n k : ℕ) → k < n → bit (2 ^ n - 1) k ≡ true
bit-ones n k h =
    ap (λ (x : ℕ). bit x k) (omega (arith, word-not n (λ i. false), word-zero n (λ i. false) (λ i l. refl)))
    ∙ bit_word n (λ i. true) k h

pub bit-pow : (k i : ℕ) → bit (2 ^ k) i ≡ eqb i k
bit-pow k i = go (dec_lt i k) (dec_lt k i)
  where
    e : 2 ^ k ≡ 1 * 2 ^ k + 0
    e = omega arith

    go : Dec (i < k) → Dec (k < i) → bit (2 ^ k) i ≡ eqb i k
    go (yes l) d =
        ap (λ (x : ℕ). bit x i) e ∙ bit-lower 1 k 0 i (pow_pos k) l ∙ bit-zero i ∙ sym (ne_eqb i k (λ e. omega arith))
    go (no r) (yes l) = bit_high (suc k) (2 ^ k) i (pow-lt (omega arith)) l ∙ sym (ne_eqb i k (λ e. omega arith))
    go (no r) (no s) =
        let f : i ≡ k + 0 = omega arith in
        ap₂ bit e f ∙ bit-upper 1 k 0 0 (pow_pos k) ∙ sym (eq-eqb i k (omega arith))

-- ---- a field of bits

pub bit-shr : (x j k : ℕ) → bit (x / 2 ^ j) k ≡ bit x (j + k)
bit-shr x j k = ap (λ (d : ℕ). eqb (d % 2) 1) (shr-shr x j k)

pub field_lt : (x at wide : ℕ) → field x at wide < 2 ^ wide
field_lt x at wide = mod-lt _ (pow_pos wide)

pub bit-field : (x at wide k : ℕ) → k < wide → bit (field x at wide) k ≡ bit x (at + k)
bit-field x at wide k h = bit-mod wide (x / 2 ^ at) k h ∙ bit-shr x at k

pub field-bits : (x at wide : ℕ) → field x at wide ≡ word wide (λ k. bit x (at + k))
field-bits x at wide = word-ext wide (field x at wide) _ (field_lt x at wide) (bit-field x at wide)

-- two numbers with the same bits there have the same field
pub field-ext : (x y at wide : ℕ) → ((k : ℕ) → k < wide → bit x (at + k) ≡ bit y (at + k))
    → field x at wide ≡ field y at wide
field-ext x y at wide h = field-bits x at wide ∙ word-cong wide _ _ h ∙ sym (field-bits y at wide)

-- a field that reaches the end of x
pub field-rest : (n x at wide : ℕ) → x < 2 ^ n → n ≤ at + wide → field x at wide ≡ x / 2 ^ at
field-rest n x at wide l h =
    mod-eq_of_lt (shr_lt wide at (lt_of_lt_of_le l (subst (λ (m : ℕ). 2 ^ n ≤ 2 ^ m) (omega arith) (pow_mono h))))

-- a field past the end of x
pub field_past : (n x at wide : ℕ) → x < 2 ^ n → n ≤ at → field x at wide ≡ 0
field_past n x at wide l h =
    field-bits x at wide ∙ word-zero wide _ (λ k g. bit_high n x (at + k) l (omega arith))

-- ---- the bits of each definition, and its bound

pub bit_masked : (n x mask k : ℕ) → k < n → bit (masked n x mask) k ≡ (bit mask k && bit x k)
unfolding masked
bit_masked n x mask k h = bit_word n (λ i. bit mask i && bit x i) k h

pub masked-lt : (n x mask : ℕ) → masked n x mask < 2 ^ n
unfolding masked
masked-lt n x mask = word_lt n (λ i. bit mask i && bit x i)

pub bit-less : (n x mask k : ℕ) → k < n → bit (less n x mask) k ≡ (bit x k && not (bit mask k))
unfolding less
bit-less n x mask k h = bit_word n (λ i. bit x i && not (bit mask i)) k h

pub less-lt : (n x mask : ℕ) → less n x mask < 2 ^ n
unfolding less
less-lt n x mask = word_lt n (λ i. bit x i && not (bit mask i))

pub bit-merged : (n old new mask k : ℕ) → k < n → bit (merged n old new mask) k ≡ cond (bit mask k) (bit new k) (bit old k)
unfolding merged
bit-merged n old new mask k h = bit_word n (λ i. cond (bit mask i) (bit new i) (bit old i)) k h

pub merged-lt : (n old new mask : ℕ) → merged n old new mask < 2 ^ n
unfolding merged
merged-lt n old new mask = word_lt n (λ i. cond (bit mask i) (bit new i) (bit old i))

pub bit-united : (n x y k : ℕ) → k < n → bit (united n x y) k ≡ (bit x k || bit y k)
unfolding united
bit-united n x y k h = bit_word n (λ i. bit x i || bit y i) k h

pub united-lt : (n x y : ℕ) → united n x y < 2 ^ n
unfolding united
united-lt n x y = word_lt n (λ i. bit x i || bit y i)

pub bit-with_bit : (n x k : ℕ) (b : Bool) (i : ℕ) → i < n → bit (with_bit n x k b) i ≡ cond (eqb i k) b (bit x i)
unfolding with_bit
bit-with_bit n x k b i h = bit_word n (λ j. cond (eqb j k) b (bit x j)) i h

pub with_bit-lt : (n x k : ℕ) (b : Bool) → with_bit n x k b < 2 ^ n
unfolding with_bit
with_bit-lt n x k b = word_lt n (λ i. cond (eqb i k) b (bit x i))
