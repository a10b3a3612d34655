-- The fresh count of one index: as the code counts it, its bound, and what it does not see.
use mathlib.Core.Bool.{Bool, true, false, ◌&&◌, and_comm}
use mathlib.Core.Path.{◌≡◌, refl, ap, ◌∙◌}
use Prim.Native.Nat.{ℕ, zero, suc, ◌≤◌, ◌<◌}
use native.Mathlib.Omega.{arith}
use lib.Count.{ones_in, ones, ones_cat}
use Rattle.words.specs.Bit.{bit, one, word, masked}
use Rattle.words.proofs.Laws.{bit_masked, word_lt}
use Rattle.words.proofs.Masks.{masked-by}
use Rattle.iac.specs.Held.{sum, fresh_of}
use Rattle.iac.proofs.Sums.{sum_same, sum-most}

-- ---- as the code counts it

-- a digit counts as itself
digit : (b : Bool) → ones (one b) ≡ one b
unfolding ones ones_in
digit true = refl
digit false = refl

none : ones 0 ≡ 0
unfolding ones ones_in
none = refl

ones-word : (n : ℕ) (p : ℕ → Bool) → ones (word n p) ≡ sum n (λ i. one (p i))
ones-word zero p = none
ones-word (suc n) p = omega (arith, ones_cat n (one (p n)) (word n p) (word_lt n p), digit (p n), ones-word n p)

fresh-by : (n named a b : ℕ) → ones (masked n b (masked n a named)) ≡ sum n (λ i. one (bit named i && bit a i && bit b i))
fresh-by n named a b = ap ones (masked-by n (masked n a named) _ (bit_masked n a named) b) ∙ ones-word n _

pub fresh-is : (named a b : ℕ) → ones (masked 32 b (masked 32 a named)) ≡ fresh_of named a b
unfolding fresh_of
fresh-is named a b = fresh-by 32 named a b

-- ---- at most 32

pub one-most : (b : Bool) → one b ≤ 1
one-most true = omega arith
one-most false = omega arith

pub fresh-most : (named a b : ℕ) → fresh_of named a b ≤ 32
unfolding fresh_of
fresh-most named a b = sum-most 32 1 (λ i. one (bit named i && bit a i && bit b i)) (λ i. one-most (bit named i && bit a i && bit b i))

-- ---- the order of the two words, and bits that are not named

pub fresh-comm : (named a b : ℕ) → fresh_of named a b ≡ fresh_of named b a
unfolding fresh_of
fresh-comm named a b = sum_same 32 _ _ (λ i l. ap one (go (bit named i) (bit a i) (bit b i)))
  where
    go : (p x y : Bool) → (p && x && y) ≡ (p && y && x)
    go true x y = and_comm x y
    go false x y = refl

-- words whose named bits are the same
pub fresh-same : (named a a' b b' : ℕ) → ((i : ℕ) → i < 32 → bit named i ≡ true → (bit a i ≡ bit a' i) × (bit b i ≡ bit b' i))
    → fresh_of named a b ≡ fresh_of named a' b'
unfolding fresh_of
fresh-same named a a' b b' h = sum_same 32 _ _ (λ i l. ap one (go i l (bit named i) refl))
  where
    go : (i : ℕ) → i < 32 → (t : Bool) → bit named i ≡ t → (t && bit a i && bit b i) ≡ (t && bit a' i && bit b' i)
    go i l true e = rw ((h i l e).0, (h i l e).1)
    go i l false e = refl
