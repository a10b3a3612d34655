-- The words of Bit.antt, computed.
use Rattle.std.specs.Prelude.{◌≡◌, refl, true, false, ◌^◌, ◌-◌}
use Rattle.words.specs.Bit.{bit, word, field, masked, less, merged, united, with_bit}

bit-3 : bit 0b1010 3 ≡ true
bit-3 = refl

bit_past : bit 0xffff_ffff 32 ≡ false
bit_past = refl

word-0-31 : word 32 (λ i. bit 0x8000_0001 i) ≡ 0x8000_0001
word-0-31 = refl

field-4-8 : field 0x1234_5678 4 8 ≡ 0x67
field-4-8 = refl

masked-32 : masked 32 0x1234_5678 0x0f0f_f000 ≡ 0x0204_5000
unfolding masked
masked-32 = refl

less-32 : less 32 0x1234_5678 0x0f0f_f000 ≡ 0x1030_0678
unfolding less
less-32 = refl

merged-32 : merged 32 0x1111_1111 0xffff_ffff 0x0f0f_f000 ≡ 0x1f1f_f111
unfolding merged
merged-32 = refl

merged-64 : merged 64 0x1111_1111_1111_1111 0 0xffff_0000_0000_ffff ≡ 0x0000_1111_1111_0000
unfolding merged
merged-64 = refl

united-32 : united 32 0x1200_0000 0x0034_0001 ≡ 0x1234_0001
unfolding united
united-32 = refl

with_bit-31 : with_bit 32 1 31 true ≡ 0x8000_0001
unfolding with_bit
with_bit-31 = refl

with_bit-0 : with_bit 64 0xffff_ffff_ffff_ffff 0 false ≡ 2 ^ 64 - 2
unfolding with_bit
with_bit-0 = refl

-- a place past the width leaves the word
with_bit-32 : with_bit 32 7 32 true ≡ 7
unfolding with_bit
with_bit-32 = refl
