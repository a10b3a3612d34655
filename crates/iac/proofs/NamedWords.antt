-- The IAC compared word by word: S has a mask for each of its words.
use mathlib.Core.Bool.{Bool, not, ◌&&◌, and-true}
use mathlib.Core.Path.{◌≡◌, refl, ap, ◌∙◌}
use Prim.Native.Nat.{ℕ}
use lib.Seq.{set-get_or}
use Rattle.words.specs.Bit.{bit}
use Rattle.words.proofs.Alike.{Within, Kept, Same, within-not, kept_refl, kept_word, same_word, kept-merged, same-merged, Each, each-get, each_set}
use Rattle.iac.specs.Contents.{stored, with_word}
use Rattle.iac.specs.Port.{word_written}
use Rattle.iac.specs.Registers.{iisr, row_of}
use Rattle.iac.specs.declared.contents.Iac.{Iac}
use Rattle.iac.specs.declared.registers.Register.{Register}
use Rattle.iac.specs.declared.registers.Register.TheVariants.{Ier, Isr, Icr, Iisr}

pub record Alike (R : ℕ → ℕ → ℕ → Type 0) (S s s' : Iac) : Type 0 where
  pub ier : Each R S.ier s.ier s'.ier
  pub isr : Each R S.isr s.isr s'.isr
  pub line : R S.line s.line s'.line
  pub count : R S.count s.count s'.count

-- S has every named bit: the registers', bit 0 of the line's word and bits 7:0 of the count's
pub record Has (S : Iac) : Type 0 where
  pub words : (reg : Register) → Within (row_of reg).named (stored S reg)
  pub line : Within 1 S.line
  pub count : Within 0xff S.count

-- ---- the word of a register

module _ {R : ℕ → ℕ → ℕ → Type 0} {S s s' : Iac} (z : R 0 0 0) (r : Alike R S s s') where
  pub stored-alike : (reg : Register) → R (stored S reg) (stored s reg) (stored s' reg)
  unfolding stored
  stored-alike (Ier x) = each-get r.ier z x
  stored-alike (Isr x) = each-get r.isr z x
  stored-alike (Icr x) = each-get r.isr z x
  stored-alike (Iisr x) = z

  pub with-alike : {w w' : ℕ} (reg : Register) → R (stored S reg) w w' → Alike R S (with_word s reg w) (with_word s' reg w')
  unfolding stored with_word
  with-alike (Ier x) e = record { ier = each_set r.ier x 0 e; isr = r.isr; line = r.line; count = r.count }
  with-alike (Isr x) e = r
  with-alike (Icr x) e = record { ier = r.ier; isr = each_set r.isr x 0 e; line = r.line; count = r.count }
  with-alike (Iisr x) e = r

-- the word that is stored, stored again
pub stored-again : (s : Iac) (reg : Register) → with_word s reg (stored s reg) ≡ s
unfolding stored with_word
stored-again s (Ier x) = rw (set-get_or s.ier x 0)
stored-again s (Isr x) = refl
stored-again s (Icr x) = rw (set-get_or s.isr x 0)
stored-again s (Iisr x) = refl

-- ---- the word that a write leaves

pub word_kept : (reg : Register) (mask old value : ℕ) → Within (row_of reg).named mask → Kept mask (word_written reg old value) old
unfolding word_written row_of
word_kept (Ier x) mask old value within = kept-merged (iisr x) mask old value within
word_kept (Isr x) mask old value within = kept_refl mask old
word_kept (Icr x) mask old value within =
    kept_word mask old _
    (λ j l h. ap (λ (b : Bool). bit old j && not (b && bit value j)) (within-not (iisr x) mask within j l h) ∙ and-true (bit old j))
word_kept (Iisr x) mask old value within = kept_refl mask old

pub word_same : (reg : Register) (mask x y value : ℕ) → Same mask x y → Same mask (word_written reg x value) (word_written reg y value)
unfolding word_written
word_same (Ier i) mask x y value r = same-merged _ mask x y value r
word_same (Isr i) mask x y value r = r
word_same (Icr i) mask x y value r =
    same_word mask _ _ (λ j l h. ap (λ (b : Bool). b && not (bit (iisr i) j && bit value j)) (r.bits j l h))
word_same (Iisr i) mask x y value r = r
