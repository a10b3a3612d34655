-- Where the same regions cover two offsets, their rights are the same.
use mathlib.Core.Bool.{Bool, true, false, ◌&&◌}
use mathlib.Core.List.{List}
use mathlib.Core.Path.{◌≡◌, refl, ap, ap₂}
use Prim.Native.Nat.{ℕ, zero, suc, ◌<◌}
use native.Mathlib.Omega.{arith}
use Rattle.words.proofs.Laws.{word-cong}
use Rattle.access.specs.Kind.{kind_of}
use Rattle.access.specs.declared.bus.Bus.{Bus}
use Rattle.regions.specs.Words.{base, sub}
use Rattle.regions.specs.Rights.{rights_word}
use Rattle.regions.specs.Rules.{covers, counts, granted}
use Rattle.regions.proofs.SameVerdict.{same-verdict}

-- base region x covers both offsets or neither, and where it does, so does each of its subregions
pub record SameCover (w : List ℕ) (o o' x : ℕ) : Type 0 where
  pub own : covers w (base x) o ≡ covers w (base x) o'
  pub subs : covers w (base x) o ≡ true
      → (covers w (sub x 0) o ≡ covers w (sub x 0) o') × (covers w (sub x 1) o ≡ covers w (sub x 1) o')

module _ (w : List ℕ) (o o' : ℕ) where
  counts_same : (x : ℕ) → SameCover w o o' x → (s : ℕ) → s < 2 → counts w o x s ≡ counts w o' x s
  counts_same x a = by (covers w (base x) o) refl
    where
      by : (c : Bool) → covers w (base x) o ≡ c → (s : ℕ) → s < 2 → counts w o x s ≡ counts w o' x s
      by false e s h = simp (← a.own, e)
      by true e zero h = ap₂ ◌&&◌ a.own (a.subs e).0
      by true e (suc zero) h = ap₂ ◌&&◌ a.own (a.subs e).1
      by true e (suc (suc s)) h = absurd (omega arith)

  pub rights-by-cover : (bus : Bus) (n : ℕ) → ((x : ℕ) → x < n → SameCover w o o' x) → rights_word bus w n o ≡ rights_word bus w n o'
  unfolding rights_word
  rights-by-cover bus n a =
      word-cong 64 _ _
      (λ b h.
      ap granted
      (same-verdict bus w w n o o' (kind_of b) (λ x l. (a x l).own) (λ x l. counts_same x (a x l)) (λ x l. (refl, refl, refl)) (λ x l s i. (refl, refl, refl))))
