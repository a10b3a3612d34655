-- What is kept, computed: change request Q-4.
use mathlib.Core.List.{[], ◌∷◌}
use mathlib.Core.Path.{◌≡◌, refl}
use Prim.Native.Nat.{ℕ}
use Rattle.words.specs.Bit.{masked, merged, with_bit}
use Rattle.iac.specs.Held.{fresh_of, fresh_at, fresh, changes_at, changed, with_count, held}
use Rattle.iac.specs.Registers.{iisr}
use Rattle.iac.specs.declared.contents.Iac.{Iac}

-- ISR0, IER0, the line and the count; the other words are 0
abbrev iac : ℕ → ℕ → ℕ → ℕ → Iac
iac isr ier line count = record { ier = ier ∷ 0 ∷ 0 ∷ 0 ∷ 0 ∷ 0 ∷ []; isr = isr ∷ 0 ∷ 0 ∷ 0 ∷ 0 ∷ 0 ∷ []; line = line; count = count }

-- a flag that is enabled is raised: one more, and the line is up; the other bits of the two words are left
raised-one : held (iac 0 1 2 0x100) (iac 1 1 2 0x100) ≡ iac 1 1 3 0x101
unfolding held with_count changed changes_at fresh fresh_at fresh_of iisr masked merged with_bit
raised-one = refl

-- one that is not enabled counts for nothing, and the line is set by the count
raised-none : held (iac 0 2 0 5) (iac 1 2 0 5) ≡ iac 1 2 1 5
unfolding held with_count changed changes_at fresh fresh_at fresh_of iisr masked merged with_bit
raised-none = refl

-- one that is set already: both are left, whatever they hold
raised-again : held (iac 1 1 0 7) (iac 1 1 0 7) ≡ iac 1 1 0 7
unfolding held changed changes_at iisr masked
raised-again = refl

-- the last is cleared: the line is down
cleared-last : held (iac 1 1 1 1) (iac 0 1 1 1) ≡ iac 0 1 0 0
unfolding held with_count changed changes_at fresh fresh_at fresh_of iisr masked merged with_bit
cleared-last = refl

-- modulo 256, both ways
from-255 : held (iac 0 1 1 0xff) (iac 1 1 1 0xff) ≡ iac 1 1 0 0
unfolding held with_count changed changes_at fresh fresh_at fresh_of iisr masked merged with_bit
from-255 = refl

below-0 : held (iac 3 3 0 0) (iac 1 3 0 0) ≡ iac 1 3 1 0xff
unfolding held with_count changed changes_at fresh fresh_at fresh_of iisr masked merged with_bit
below-0 = refl

-- bit 7 of ISR0 is not named: it is no flag
unnamed-bit : held (iac 0 0x80 0 7) (iac 0x80 0x80 0 7) ≡ iac 0x80 0x80 0 7
unfolding held changed changes_at iisr masked
unnamed-bit = refl
