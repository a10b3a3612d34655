-- The interrupt line and the number of flags that are set and enabled, as they are kept: change request Q-4.
use Rattle.std.specs.Prelude.{Bool, not, ◌&&◌, ◌||◌, cond, ℕ, zero, suc, ◌+◌, ◌-◌, ◌%◌, eqb, get_or}
use Rattle.words.specs.Bit.{bit, one, masked, merged, with_bit}
use Rattle.words.specs.Six.{bit_words}
use Rattle.access.specs.Fold.{any}
use Rattle.iac.specs.Contents.{held_of, with_held}
use Rattle.iac.specs.Registers.{iisr}
use Rattle.iac.specs.declared.contents.Iac.{Iac}
use Rattle.iac.specs.declared.held.Held.{Held}

-- ---- what is kept: the line is bit 0 of its word, the count bits 7:0 of its word

abbrev pub held_line : Iac → Bool
held_line s = bit s.line 0

abbrev pub held_count : Iac → ℕ
held_count s = s.count % 256

-- ---- the fresh count: the number of named flags that are both set and enabled

-- f 0 + f 1 and so on, n of them
abbrev pub sum : ℕ → (ℕ → ℕ) → ℕ
sum zero f = 0
sum (suc n) f = sum n f + f n

-- those of one index: named is IISRx, the words are ISRx and IERx, either first
unfoldable pub fresh_of : ℕ → ℕ → ℕ → ℕ
fresh_of named a b = sum 32 (λ i. one (bit named i && bit a i && bit b i))

unfoldable pub fresh_at : Iac → ℕ → ℕ
fresh_at s x = fresh_of (iisr x) (get_or s.isr x 0) (get_or s.ier x 0)

-- those of every index
unfoldable pub fresh : Iac → ℕ
fresh s = sum bit_words (fresh_at s)

-- ---- what an event keeps: s is the IAC before it, and t has the flags and the enables that it leaves

-- "changes an ISR or IER bit": one that is named
abbrev pub changes : ℕ → ℕ → ℕ → Bool
changes named old new = not (eqb (masked 32 old named) (masked 32 new named))

unfoldable pub changes_at : Iac → Iac → ℕ → Bool
changes_at s t x =
    changes (iisr x) (get_or s.isr x 0) (get_or t.isr x 0) || changes (iisr x) (get_or s.ier x 0) (get_or t.ier x 0)

unfoldable pub changed : Iac → Iac → Bool
changed s t = any bit_words (changes_at s t)

-- "adds the change in the fresh count to the stored number, modulo 256": before is the fresh count that was, at most 192, after that which is
abbrev pub added : ℕ → ℕ → ℕ → ℕ
added stored before after = (stored % 256 + 256 - before + after) % 256

-- "and holds the line up exactly when the result is not 0": the result is n, and the other bits of the two words are left
unfoldable pub with_count : Held → ℕ → Held
with_count h n = record { line = with_bit 32 h.line 0 (not (eqb n 0)); count = merged 32 h.count n 0xff }

-- "any other event leaves both"
unfoldable pub held : Iac → Iac → Iac
held s t =
    with_held t (cond (changed s t) (with_count (held_of s) (added s.count (fresh s) (fresh t))) (held_of s))
