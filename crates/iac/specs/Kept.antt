-- What Q-4 says of the line and the count, in the words of its theorems; how they are kept (`held`) is not named here. The theorems are
-- held-true and held-moves of proofs/HeldTrue, and over any event and any events those of device/proofs/HeldRuns.
use Rattle.std.specs.Prelude.{not, true, ◌≡◌, ℕ, ◌+◌, ◌%◌, ◌≤◌, ◌<◌, eqb, get_or}
use Rattle.words.specs.Bit.{bit}
use Rattle.words.specs.Six.{bit_words}
use Rattle.iac.specs.Flags.{line}
use Rattle.iac.specs.Held.{held_line, held_count, fresh}
use Rattle.iac.specs.Registers.{iisr}
use Rattle.iac.specs.declared.contents.Iac.{Iac}

-- "must keep both true": "they equal what a fresh count gives"
pub record True (s : Iac) : Type 0 where
  pub count : held_count s ≡ fresh s
  pub line : held_line s ≡ line s

-- every ISR and IER bit that is named is the same in both
abbrev pub SameBits : Iac → Iac → Type 0
SameBits s t =
    (x i : ℕ) → x < bit_words → i < 32 → bit (iisr x) i ≡ true
    → (bit (get_or s.isr x 0) i ≡ bit (get_or t.isr x 0) i) × (bit (get_or s.ier x 0) i ≡ bit (get_or t.ier x 0) i)

-- what an event but reset does to the two, whatever they hold: s is the IAC before it, t after it
pub record Moves (s t : Iac) : Type 0 where
  -- "an event that changes an ISR or IER bit adds the change in the fresh count to the stored number, modulo 256": of one that
  -- changes none, which adds nothing, too
  pub adds : (held_count t + fresh s) % 256 ≡ (held_count s + fresh t) % 256
  -- "and holds the line up exactly when the result is not 0"
  pub line : (SameBits s t → ⊥) → held_line t ≡ not (eqb (held_count t) 0)
  -- "any other event leaves both"
  pub leaves : SameBits s t → (t.line ≡ s.line) × (t.count ≡ s.count)
  -- the other bits of the two words are never touched
  pub others : (j : ℕ) → j < 32 → (1 ≤ j → bit t.line j ≡ bit s.line j) × (8 ≤ j → bit t.count j ≡ bit s.count j)
