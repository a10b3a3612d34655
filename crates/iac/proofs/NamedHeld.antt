-- The line and the count that are kept: named bits of them are changed alone, and by named bits alone.
use mathlib.Core.Bool.{Bool, true, false, not, ◌||◌, cond, true≢false}
use mathlib.Core.Path.{◌≡◌, refl, sym, ap, ap₂, ◌∙◌}
use Prim.Native.Nat.{ℕ, ◌%◌}
use native.Mathlib.Omega.{arith}
use borrow.Author.Tests.{eqb-true}
use lib.Dec.{eqb}
use lib.ListN.{get_or}
use Rattle.words.specs.Bit.{bit, with_bit}
use Rattle.words.specs.Six.{bit_words}
use Rattle.words.proofs.Alike.{Within, Kept, Same, same_refl, kept_word, same_word, kept-merged, same-merged, same-masked, each-get}
use Rattle.words.proofs.Laws.{word-bits, bit-ones}
use Rattle.access.proofs.Folds.{any_same}
use Rattle.iac.specs.Contents.{stored, held_of, with_held}
use Rattle.iac.specs.Held.{fresh_at, fresh, changes, changes_at, changed, added, with_count, held}
use Rattle.iac.specs.Registers.{iisr, row_of}
use Rattle.iac.specs.declared.contents.Iac.{Iac}
use Rattle.iac.specs.declared.registers.Register.TheVariants.{Ier, Isr}
use Rattle.iac.proofs.HeldLaws.{fresh-same}
use Rattle.iac.proofs.NamedWords.{Alike, Has}
use Rattle.iac.proofs.Sums.{sum_same}

-- where b says that a named bit changes, to the count n
abbrev holding : Bool → ℕ → Iac → Iac → Iac
holding b n s t = with_held t (cond b (with_count (held_of s) n) (held_of s))

-- ---- named bits of the two words are changed alone

bit_kept : (mask x : ℕ) (b : Bool) → Within 1 mask → Kept mask (with_bit 32 x 0 b) x
unfolding with_bit
bit_kept mask x b within = kept_word mask x _ (λ j l h. go j h (eqb j 0) refl)
  where
    go : (j : ℕ) → bit mask j ≡ false → (t : Bool) → eqb j 0 ≡ t → cond t b (bit x j) ≡ bit x j
    go j h true e = absurd (true≢false (sym (ap (bit mask) (eqb-true j 0 e) ∙ within 0 (omega arith) refl) ∙ h))
    go j h false e = refl

-- s before and t after are both u but for named bits
pub held_kept : {S s t u : Iac} → Has S → Alike Kept S s u → Alike Kept S t u → Alike Kept S (held s t) u
unfolding held with_count
held_kept {S} {s} {t} {u} has before after = go (changed s t) (added s.count (fresh s) (fresh t))
  where
    go : (b : Bool) (n : ℕ) → Alike Kept S (holding b n s t) u
    go true n =
        record {
          ier = after.ier;
          isr = after.isr;
          line = λ j l h. bit_kept S.line s.line _ has.line j l h ∙ before.line j l h;
          count = λ j l h. kept-merged 0xff S.count s.count n has.count j l h ∙ before.count j l h;
        }
    go false n = record { ier = after.ier; isr = after.isr; line = before.line; count = before.count }

-- ---- by named bits alone

bit-same : (mask x y : ℕ) (b : Bool) → Same mask x y → Same mask (with_bit 32 x 0 b) (with_bit 32 y 0 b)
unfolding with_bit
bit-same mask x y b r = same_word mask _ _ (λ j l h. ap (cond (eqb j 0) b) (r.bits j l h))

low_same : (mask x y : ℕ) → Within 0xff mask → Same mask x y → x % 256 ≡ y % 256
low_same mask x y within r =
    sym (word-bits 8 x (bit x) (λ k l. refl))
    ∙ word-bits 8 y (bit x) (λ k l. sym (r.bits k (omega arith) (within k (omega arith) (bit-ones 8 k l))))

module _ {S : Iac} (has : Has S) where
  isr-named : (x : ℕ) → Within (iisr x) (get_or S.isr x 0)
  unfolding row_of stored
  isr-named x = has.words (Isr x)

  ier-named : (x : ℕ) → Within (iisr x) (get_or S.ier x 0)
  unfolding row_of stored
  ier-named x = has.words (Ier x)

  fresh-alike : {s s' : Iac} → Alike Same S s s' → fresh s ≡ fresh s'
  unfolding fresh fresh_at
  fresh-alike {s} {s'} r =
      sum_same bit_words (fresh_at s) (fresh_at s')
      (λ x m. fresh-same (iisr x) _ _ _ _ (λ j l h. ((each-get r.isr (same_refl 0 0) x).bits j l (isr-named x j l h), (each-get r.ier (same_refl 0 0) x).bits j l (ier-named x j l h))))

  changed-alike : {s s' t t' : Iac} → Alike Same S s s' → Alike Same S t t' → changed s t ≡ changed s' t'
  unfolding changed changes_at
  changed-alike {s} {s'} {t} {t'} r q =
      any_same bit_words (changes_at s t) (changes_at s' t')
      (λ x m. ap₂ ◌||◌ (at x _ _ _ _ _ (isr-named x) (each-get r.isr (same_refl 0 0) x) (each-get q.isr (same_refl 0 0) x)) (at x _ _ _ _ _ (ier-named x) (each-get r.ier (same_refl 0 0) x) (each-get q.ier (same_refl 0 0) x)))
    where
      at : (x mask a a' b b' : ℕ) → Within (iisr x) mask → Same mask a a' → Same mask b b' → changes (iisr x) a b ≡ changes (iisr x) a' b'
      at x mask a a' b b' within ra rb =
          ap₂ (λ (u v : ℕ). not (eqb u v)) (same-masked (iisr x) mask a a' within ra) (same-masked (iisr x) mask b b' within rb)

  pub held_same : {s s' t t' : Iac} → Alike Same S s s' → Alike Same S t t' → Alike Same S (held s t) (held s' t')
  unfolding held with_count
  held_same {s} {s'} {t} {t'} before after =
      rw (
        changed-alike before after,
        low_same S.count s.count s'.count has.count before.count,
        fresh-alike before,
        fresh-alike after,
      )
      (go (changed s' t') (added s'.count (fresh s') (fresh t')))
    where
      go : (b : Bool) (n : ℕ) → Alike Same S (holding b n s t) (holding b n s' t')
      go true n =
          record {
            ier = after.ier;
            isr = after.isr;
            line = bit-same S.line s.line s'.line _ before.line;
            count = same-merged 0xff S.count s.count s'.count n before.count;
          }
      go false n = record { ier = after.ier; isr = after.isr; line = before.line; count = before.count }
