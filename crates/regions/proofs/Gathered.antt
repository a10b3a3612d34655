-- The words of n base regions, gathered one after the other.
use mathlib.Core.Bool.{Bool, true, false, cond}
use mathlib.Core.List.{List}
use mathlib.Core.Path.{◌≡◌, refl, sym, ap, ◌∙◌}
use Prim.Native.Nat.{ℕ, zero, suc, ◌+◌, ◌≤◌, ◌<◌}
use native.Mathlib.Decide.{dec_lt}
use native.Mathlib.Omega.{arith}
use native.Mathlib.Numerals.{add-one}
use lib.ListN.{get_or}
use Rattle.regions.specs.Words.{base, sub}
use Rattle.regions.specs.Rules.{covers}
use Rattle.regions.specs.Masks.{masks, with_sub, sub_gathered, base_gathered, Passed}
use Rattle.regions.specs.declared.masks.Masks.{Masks}

-- ---- base regions that are passed by

module _ (w : List ℕ) (o from : ℕ) where
  pub pass-none : Passed w o from from
  pass-none y h l = absurd (omega arith)

  pub pass-more : (x : ℕ) {c : Bool} → Passed w o from x → c ≡ covers w (base x) o → c ≡ false → Passed w o from (x + 1)
  pass-more x {c} before e out y h l = go (dec_lt y x)
    where
      go : Dec (y < x) → covers w (base y) o ≡ false
      go (yes q) = before y h q
      go (no q) =
          let same : y ≡ x = omega arith in
          rw same (sym e ∙ out)

-- they say nothing
pub masks-pass : (p : Bool) (adds : ℕ → ℕ) (w : List ℕ) (o from r : ℕ) → from ≤ r → Passed w o from r → masks p adds w from o ≡ masks p adds w r o
unfolding masks base_gathered
masks-pass p adds w o from zero h passed = let e : from ≡ 0 = omega arith in rw e
masks-pass p adds w o from (suc r) h passed =
    by (dec_lt from (suc r)) (λ l. masks-pass p adds w o from r l (λ y a b. passed y a (omega arith)))
  where
    by : Dec (from < suc r) → (from ≤ r → masks p adds w from o ≡ masks p adds w r o) → masks p adds w from o ≡ masks p adds w (suc r) o
    by (yes l) earlier = earlier (omega arith) ∙ rw (passed r (omega arith) (omega arith)) refl
    by (no l) earlier = let e : from ≡ suc r = omega arith in rw e

-- one base region more, by the code's call
pub masks-more : (p : Bool) (adds : ℕ → ℕ) (w : List ℕ) (n o : ℕ) {l m : Masks} → l ≡ masks p adds w n o → m ≡ base_gathered p adds w n o l
    → m ≡ masks p adds w (n + 1) o
unfolding masks
masks-more p adds w n o el em = em ∙ ap (base_gathered p adds w n o) el ∙ sym (ap (λ (i : ℕ). masks p adds w i o) (add-one n))

-- ---- a subregion, by whether it covers

module _ (p : Bool) (adds : ℕ → ℕ) (w : List ℕ) (x s o : ℕ) (m : Masks) where
  abbrev counted : Masks
  counted = with_sub p (get_or w (base x) 0) (get_or w (sub x s) 0) (adds (get_or w (sub x s) 0)) m

  pub sub_out : covers w (sub x s) o ≡ false → m ≡ sub_gathered p adds w x s o m
  unfolding sub_gathered
  sub_out e = sym (ap (λ (b : Bool). cond b counted m) e)

  pub sub_in : covers w (sub x s) o ≡ true → counted ≡ sub_gathered p adds w x s o m
  unfolding sub_gathered
  sub_in e = sym (ap (λ (b : Bool). cond b counted m) e)
