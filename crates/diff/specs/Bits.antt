-- "the number of rights bits that differ in each span, counted on the word"
use Rattle.std.specs.Prelude.{Bool, not, ℕ, zero, suc, ◌+◌}
use Rattle.std.specs.Bool.{beq}
use Rattle.words.specs.Bit.{bit, one}

-- bit k of a and of b differ
abbrev pub differs_at : ℕ → ℕ → ℕ → Bool
differs_at a b k = not (beq (bit a k) (bit b k))

-- how many of the lowest n bits do
unfoldable pub bits_apart : ℕ → ℕ → ℕ → ℕ
bits_apart zero a b = 0
bits_apart (suc k) a b = one (differs_at a b k) + bits_apart k a b

-- a rights word has 64 bits
abbrev pub rights_bits : ℕ
rights_bits = 64

unfoldable pub differing : ℕ → ℕ → ℕ
differing old new = bits_apart rights_bits old new
