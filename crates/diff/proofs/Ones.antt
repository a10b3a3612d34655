-- The ones of old xor new, as the code counts them, are the bits that differ.
use mathlib.Core.Path.{◌≡◌, refl, sym, ap, ap₂, ◌∙◌}
use Prim.Native.Nat.{ℕ, zero, suc, ◌+◌, ◌/◌, ◌%◌, ◌^◌, ◌<◌}
use native.Mathlib.Nat.{mod-lt, mod-eq_of_lt, div-add-mod', div-lt_iff_lt-mul}
use native.Mathlib.Omega.{arith}
use lib.Bits.{bit_xor, xor_lt}
use lib.Count.{ones_in, ones, ones_cat}
use lib.Pow.{pow_pos}
use Rattle.words.specs.Bit.{bit, one}
use Rattle.words.proofs.Laws.{one_bit, bit-mod}
use Rattle.words.proofs.Ops.{bit-xor}
use Rattle.diff.specs.Bits.{differs_at, bits_apart, differing, rights_bits}

-- a digit counts as itself
digit : (d : ℕ) → d < 2 → ones d ≡ d
unfolding ones ones_in
digit zero h = refl
digit (suc zero) h = refl
digit (suc (suc d)) h = absurd (omega arith)

-- the ones of a word of n bits that has a one where a and b differ
counted : (n c a b : ℕ) → c < 2 ^ n → ((k : ℕ) → k < n → bit c k ≡ differs_at a b k) → ones c ≡ bits_apart n a b
unfolding bits_apart
counted zero c a b h is = let e : c ≡ 0 = omega arith in rw e (digit 0 (omega arith))
counted (suc n) c a b h is =
    let top : c / 2 ^ n < 2 = (div-lt_iff_lt-mul (pow_pos n)).1 (omega arith) in
    let low : c % 2 ^ n < 2 ^ n = mod-lt c (pow_pos n) in
    ap ones (sym (div-add-mod' c (2 ^ n)))
    ∙ ones_cat n (c / 2 ^ n) (c % 2 ^ n) low
    ∙ ap₂ (λ (x y : ℕ). x + y)
    (digit (c / 2 ^ n) top ∙ sym (mod-eq_of_lt top) ∙ sym (one_bit c n) ∙ ap one (is n (omega arith)))
    (counted n (c % 2 ^ n) a b low (λ k l. bit-mod n c k l ∙ is k (omega arith)))

pub ones-differ : (a b : ℕ) → a < 2 ^ rights_bits → b < 2 ^ rights_bits → ones (bit_xor a b) ≡ differing a b
unfolding differing
ones-differ a b h g = counted rights_bits (bit_xor a b) a b (xor_lt rights_bits a b h g) (λ k _. bit-xor a b k)
