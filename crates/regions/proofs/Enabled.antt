-- The base regions that are enabled: where none is, none covers.
use mathlib.Core.Bool.{Bool, true, false, not, ◌||◌, not-not}
use mathlib.Core.List.{List}
use mathlib.Core.Path.{◌≡◌, refl, sym, ap, ◌∙◌}
use Prim.Native.Nat.{ℕ, zero, suc, ◌+◌, ◌≤◌, ◌<◌}
use native.Mathlib.Decide.{dec_lt}
use native.Mathlib.Numerals.{add-one}
use native.Mathlib.Omega.{arith}
use lib.Bits.{bit_or}
use lib.ListN.{get_or}
use Rattle.words.specs.Bit.{bit}
use Rattle.words.proofs.Ops.{bit-or}
use Rattle.access.specs.Fold.{any}
use Rattle.regions.specs.Words.{base, most_regions}
use Rattle.regions.specs.Rules.{covered}
use Rattle.regions.specs.Masks.{some_enabled}
use Rattle.regions.proofs.AdmitsTests.{neither, none-covered}

-- one more
pub enabled-more : (w : List ℕ) (x some : ℕ) → bit some 0 ≡ some_enabled w x
    → bit (bit_or some (get_or w (base x) 0)) 0 ≡ some_enabled w (x + 1)
enabled-more w x some e =
    bit-or some (get_or w (base x) 0) 0 ∙ ap (λ (b : Bool). b || bit (get_or w (base x) 0) 0) e ∙ sym (ap (some_enabled w) (add-one x))

pub none_of : (n : ℕ) (p : ℕ → Bool) → any n p ≡ false → (x : ℕ) → x < n → p x ≡ false
none_of zero p e x h = absurd (omega arith)
none_of (suc n) p e x h = go (dec_lt x n) (none_of n p (neither (any n p) (p n) e).0 x)
  where
    go : Dec (x < n) → (x < n → p x ≡ false) → p x ≡ false
    go (yes l) below = below l
    go (no r) below =
        let q : x ≡ n = omega arith in
        ap p q ∙ (neither (any n p) (p n) e).1

-- by the code's call
pub told_none : (w : List ℕ) {r : Bool} → r ≡ not (some_enabled w most_regions) → r ≡ true → some_enabled w most_regions ≡ false
told_none w e t = sym (not-not _) ∙ ap not (sym e ∙ t)

pub unenabled-uncovered : (w : List ℕ) (n o : ℕ) → n ≤ most_regions → some_enabled w most_regions ≡ false → covered w n o ≡ false
unenabled-uncovered w n o h e =
    none-covered w o n (λ y a b. rw (none_of most_regions (λ x. bit (get_or w (base x) 0) 0) e y (omega (arith, h, b))) refl)
