-- Raising a flag, and what the interrupt line should be: document 01, "IAC".
use Rattle.std.specs.Prelude.{Bool, true, ◌&&◌, cond, ℕ, ◌/◌, ◌%◌, get_or}
use Rattle.words.specs.Bit.{bit, with_bit}
use Rattle.words.specs.Six.{bit_at, bit_words}
use Rattle.access.specs.Fold.{any}
use Rattle.access.specs.declared.flag.Flag.{Flag}
use Rattle.iac.specs.Registers.{iisr, iisrs}
use Rattle.iac.specs.Contents.{with_word}
use Rattle.iac.specs.Held.{held}
use Rattle.iac.specs.declared.contents.Iac.{Iac}
use Rattle.iac.specs.declared.registers.Register.TheVariants.{Icr}

-- there is a flag of index i
abbrev pub is_flag : Flag → Bool
is_flag i = bit_at iisrs i.0

-- with ISR bit i set
unfoldable pub flag_set : Flag → Iac → Iac
flag_set i s = with_word s (Icr (i.0 / 32)) (with_bit 32 (get_or s.isr (i.0 / 32) 0) (i.0 % 32) true)

-- raising index i sets ISR bit i if IISR bit i is 1, else nothing; the line and the count are kept (Held)
unfoldable pub raise : Flag → Iac → Iac
raise i s = cond (is_flag i) (held s (flag_set i s)) s

-- some flag of ISRx and its enable of IERx are both 1; the words are those two
unfoldable pub line_of : ℕ → ℕ → ℕ → Bool
line_of x isr ier = any 32 (λ i. bit (iisr x) i && bit isr i && bit ier i)

-- the line is up when some flag and its enable are both 1; what is kept of it is in Held
unfoldable pub line : Iac → Bool
line s = any bit_words (λ x. line_of x (get_or s.isr x 0) (get_or s.ier x 0))
