-- The words of the IAC and what is kept beside them, by what the code's calls give.
use mathlib.Core.Bool.{Bool, true, false}
use mathlib.Core.List.{List}
use mathlib.Core.Path.{◌≡◌, refl, sym, ap, ◌∙◌}
use Prim.Native.Nat.{ℕ, ◌/◌, ◌%◌, ◌^◌, ◌<◌}
use native.Mathlib.Omega.{arith}
use lib.Dec.{lit<}
use lib.ListN.{length, get_or}
use Rattle.words.specs.Bit.{bit, one, with_bit}
use Rattle.access.specs.declared.flag.Flag.{Flag}
use Rattle.iac.specs.Contents.{held_of, with_held, with_word}
use Rattle.iac.specs.Flags.{is_flag, flag_set, raise}
use Rattle.iac.specs.Held.{added, with_count, held}
use Rattle.iac.specs.OneWord.{kept}
use Rattle.iac.specs.Registers.{iisr}
use Rattle.iac.specs.declared.registers.Register.TheVariants.{Ier, Icr}
use Rattle.iac.proofs.HeldAt.{Sized, at-ier, at-isr, raise-sets, raise-leaves}
use Rattle.device.specs.Layout.{head_sizes, ier_part, isr_part, state_of, state_words}
use Rattle.device.specs.State.{State, flagged, with_iac}
use Rattle.device.proofs.Parts.{part_length}

-- a state in memory has all the words of IER and ISR
pub state-sized : (m : List ℕ) → length m ≡ state_words → Sized (state_of m).iac
unfolding state_of
state-sized m h = (part_length head_sizes m isr_part (lit< tt) (omega arith), part_length head_sizes m ier_part (lit< tt) (omega arith))

-- ---- a word is rewritten: t has it, and u what is kept then

module _ (s : State) (x new : ℕ) {t u : State} {named other old : ℕ} (z : Sized s.iac) (en : named ≡ iisr x)
    (eu : u ≡ with_iac t (with_held t.iac (kept named other old new (held_of t.iac)))) where
  pub ier-kept : old ≡ get_or s.iac.ier x 0 → t ≡ with_iac s (with_word s.iac (Ier x) new) → other ≡ get_or t.iac.isr x 0
      → u ≡ with_iac s (held s.iac (with_word s.iac (Ier x) new))
  unfolding with_word
  ier-kept eo et ew = eu ∙ rw (ew, et, eo, en) (ap (with_iac s) (sym (at-ier s.iac x new z)))

  pub isr-kept : old ≡ get_or s.iac.isr x 0 → t ≡ with_iac s (with_word s.iac (Icr x) new) → other ≡ get_or t.iac.ier x 0
      → u ≡ with_iac s (held s.iac (with_word s.iac (Icr x) new))
  unfolding with_word
  isr-kept eo et ew = eu ∙ rw (ew, et, eo, en) (ap (with_iac s) (sym (at-isr s.iac x new z)))

-- ---- a flag is raised: isr is the word that has its bit

module _ (s : State) (i : Flag) {isr : ℕ} (ei : isr ≡ get_or s.iac.isr (i.0 / 32) 0) (is : is_flag i ≡ true) where
  pub flag-raised : {t u : State} {word : ℕ} {enabled : Bool} → Sized s.iac → bit isr (i.0 % 32) ≡ false
      → word ≡ with_bit 32 isr (i.0 % 32) true → t ≡ with_iac s (with_word s.iac (Icr (i.0 / 32)) word)
      → enabled ≡ bit (get_or t.iac.ier (i.0 / 32) 0) (i.0 % 32)
      → u ≡ with_iac t (with_held t.iac (with_count (held_of t.iac) (added t.iac.count 0 (one enabled)))) → u ≡ flagged i s
  unfolding with_word flag_set
  flag-raised z off ew et ee eu =
      let o : bit (get_or s.iac.isr (i.0 / 32) 0) (i.0 % 32) ≡ false = rw ei at off in
      eu ∙ rw (ee, et, ew, ei) (ap (with_iac s) (sym (raise-sets i s.iac is z o)))

  pub flag-left : isr < 2 ^ 32 → bit isr (i.0 % 32) ≡ true → s ≡ flagged i s
  flag-left fits on =
      let l : get_or s.iac.isr (i.0 / 32) 0 < 2 ^ 32 = rw ei at fits in
      let o : bit (get_or s.iac.isr (i.0 / 32) 0) (i.0 % 32) ≡ true = rw ei at on in
      ap (with_iac s) (sym (raise-leaves i s.iac is l o))

pub flag-none : (s : State) (i : Flag) → is_flag i ≡ false → s ≡ flagged i s
unfolding raise
flag-none s i none = rw none refl
