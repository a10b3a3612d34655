-- The registers of the IAC as stored, and reset: document 01, "IAC".
use Rattle.std.specs.Prelude.{ℕ, get_or, set, replicate}
use Rattle.words.specs.Six.{bit_words}
use Rattle.iac.specs.declared.registers.Register.{Register}
use Rattle.iac.specs.declared.registers.Register.TheVariants.{Ier, Isr, Icr, Iisr}
use Rattle.iac.specs.declared.contents.Iac.{Iac}
use Rattle.iac.specs.declared.held.Held.{Held}

-- the word stored for a register: for ICR the flags that it clears; for IISR, which is constant, none is
unfoldable pub stored : Iac → Register → ℕ
stored s (Ier x) = get_or s.ier x 0
stored s (Isr x) = get_or s.isr x 0
stored s (Icr x) = get_or s.isr x 0
stored s (Iisr x) = 0

-- the IAC with another word stored for a register that can be written
unfoldable pub with_word : Iac → Register → ℕ → Iac
with_word s (Ier x) v = record { ier = set s.ier x v; isr = s.isr; line = s.line; count = s.count }
with_word s (Isr x) v = s
with_word s (Icr x) v = record { ier = s.ier; isr = set s.isr x v; line = s.line; count = s.count }
with_word s (Iisr x) v = s

-- the words that keep the line and the count, by value
abbrev pub held_of : Iac → Held
held_of s = record { line = s.line; count = s.count }

abbrev pub with_held : Iac → Held → Iac
with_held s h = record { ier = s.ier; isr = s.isr; line = h.line; count = h.count }

-- "reset sets both to 0" (Q-4)
unfoldable pub reset : Iac
reset = record { ier = replicate bit_words 0; isr = replicate bit_words 0; line = 0; count = 0 }
