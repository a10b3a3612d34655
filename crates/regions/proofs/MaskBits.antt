-- What the bits of the gathered words are: a fold over the base regions that cover, or over the subregions that count.
use mathlib.Core.Bool.{Bool, true, false, not, ◌&&◌, ◌||◌, cond, and-true, and_assoc, or-false, or_assoc, true≢false}
use mathlib.Core.List.{List}
use mathlib.Core.Path.{◌≡◌, refl, sym, ap, ◌∙◌}
use Prim.Native.Nat.{ℕ, zero, suc, ◌+◌, ◌-◌, ◌/◌, ◌^◌, ◌<◌}
use native.Mathlib.Omega.{arith}
use lib.Bits.{bit_and}
use lib.Dec.{lit<}
use lib.ListN.{get_or}
use Rattle.words.specs.Bit.{bit}
use Rattle.words.proofs.Laws.{bit-zero, bit-ones, bit-shr}
use Rattle.words.proofs.Ops.{bit-and, bit-or}
use Rattle.access.specs.Fold.{any}
use Rattle.access.proofs.Folds.{any_same, all_same}
use Rattle.regions.specs.Words.{base, sub, cidcfgr_at, sec_bit, priv_bit, privc_bit}
use Rattle.regions.specs.Rules.{covers, srcid, working_sec, working_priv, every_base, some_sub, every_sub}
use Rattle.regions.specs.Masks.{masks, base_gathered, sub_gathered, with_base}
use Rattle.regions.specs.declared.masks.Masks.{Masks}

pub ap-cond : {A : Type 0} (f : A → Bool) (c : Bool) (x y : A) → f (cond c x y) ≡ cond c (f x) (f y)
ap-cond f true x y = refl
ap-cond f false x y = refl

left : (g : Masks → ℕ) (c : Bool) (l m : Masks) → g l ≡ g m → g (cond c l m) ≡ g m
left g true l m e = e
left g false l m e = refl

-- ---- one base region more, where c says whether it covers

pub or-cond : (c a q : Bool) → cond c (a || q) a ≡ (a || c && q)
or-cond true a q = refl
or-cond false a q = sym (or-false a)

and-cond : (c a q : Bool) → cond c (a && q) a ≡ (a && (not c || q))
and-cond true a q = refl
and-cond false a q = sym (and-true a)

-- two subregions, of which d and e say whether they cover
or-two : (c d e p q : Bool) → (c && (d && p || e && q)) ≡ (c && d && p || c && e && q)
or-two true d e p q = refl
or-two false d e p q = refl

and-two : (c d e p q : Bool) → (not c || (not d || p) && (not e || q)) ≡ ((not (c && d) || p) && (not (c && e) || q))
and-two true d e p q = refl
and-two false d e p q = refl

module _ (p : Bool) (adds : ℕ → ℕ) (w : List ℕ) (o : ℕ) where
  -- with base region x, which covers
  abbrev with_region : ℕ → Masks → Masks
  with_region x m = sub_gathered p adds w x 1 o (sub_gathered p adds w x 0 o (with_base (get_or w (base x) 0) (get_or w (base x + cidcfgr_at) 0) m))

  -- ---- what the words of each base region that covers add, or leave

  some-base : (f : Masks → Bool) (q : ℕ → Bool) → f (masks p adds w 0 o) ≡ false
      → ((x : ℕ) (m : Masks) → f (with_region x m) ≡ (f m || q x)) → (n : ℕ)
      → f (masks p adds w n o) ≡ any n (λ x. covers w (base x) o && q x)
  unfolding masks base_gathered
  some-base f q none more zero = none
  some-base f q none more (suc n) =
      ap-cond f (covers w (base n) o) _ _ ∙ ap (λ (b : Bool). cond (covers w (base n) o) b (f (masks p adds w n o))) (more n (masks p adds w n o))
      ∙ or-cond (covers w (base n) o) (f (masks p adds w n o)) (q n)
      ∙ ap (λ (b : Bool). b || covers w (base n) o && q n) (some-base f q none more n)

  every-base : (f : Masks → Bool) (q : ℕ → Bool) → f (masks p adds w 0 o) ≡ true
      → ((x : ℕ) (m : Masks) → f (with_region x m) ≡ (f m && q x)) → (n : ℕ) → f (masks p adds w n o) ≡ every_base w n o q
  unfolding masks base_gathered
  every-base f q none more zero = none
  every-base f q none more (suc n) =
      ap-cond f (covers w (base n) o) _ _ ∙ ap (λ (b : Bool). cond (covers w (base n) o) b (f (masks p adds w n o))) (more n (masks p adds w n o))
      ∙ and-cond (covers w (base n) o) (f (masks p adds w n o)) (q n)
      ∙ ap (λ (b : Bool). b && (not (covers w (base n) o) || q n)) (every-base f q none more n)

  -- ---- what each subregion that counts adds, or leaves

  module _ (f : Masks → Bool) (q : ℕ → ℕ → Bool) (same : (x : ℕ) (m : Masks) → f (with_base (get_or w (base x) 0) (get_or w (base x + cidcfgr_at) 0) m) ≡ f m) where
    pub some-sub : f (masks p adds w 0 o) ≡ false
        → ((x s : ℕ) (m : Masks) → f (sub_gathered p adds w x s o m) ≡ (f m || covers w (sub x s) o && q x s)) → (n : ℕ)
        → f (masks p adds w n o) ≡ some_sub w n o q
    some-sub none more n =
        some-base f (λ x. covers w (sub x 0) o && q x 0 || covers w (sub x 1) o && q x 1) none
        (λ x m.
        more x 1 _ ∙ ap (λ (b : Bool). b || covers w (sub x 1) o && q x 1) (more x 0 _ ∙ ap (λ (b : Bool). b || covers w (sub x 0) o && q x 0) (same x m))
        ∙ or_assoc (f m) (covers w (sub x 0) o && q x 0) (covers w (sub x 1) o && q x 1)) n
        ∙ any_same n _ _ (λ x h. or-two (covers w (base x) o) (covers w (sub x 0) o) (covers w (sub x 1) o) (q x 0) (q x 1))

    pub every-sub : f (masks p adds w 0 o) ≡ true
        → ((x s : ℕ) (m : Masks) → f (sub_gathered p adds w x s o m) ≡ (f m && (not (covers w (sub x s) o) || q x s))) → (n : ℕ)
        → f (masks p adds w n o) ≡ every_sub w n o q
    every-sub none more n =
        every-base f (λ x. (not (covers w (sub x 0) o) || q x 0) && (not (covers w (sub x 1) o) || q x 1)) none
        (λ x m.
        more x 1 _
        ∙ ap (λ (b : Bool). b && (not (covers w (sub x 1) o) || q x 1)) (more x 0 _ ∙ ap (λ (b : Bool). b && (not (covers w (sub x 0) o) || q x 0)) (same x m))
        ∙ and_assoc (f m) (not (covers w (sub x 0) o) || q x 0) (not (covers w (sub x 1) o) || q x 1)) n
        ∙ all_same n _ _ (λ x h. and-two (covers w (base x) o) (covers w (sub x 0) o) (covers w (sub x 1) o) (q x 0) (q x 1))

  -- ---- CFGR and CIDCFGR of the base regions

  some_left : (x s : ℕ) (m : Masks) → (sub_gathered p adds w x s o m).some ≡ m.some
  unfolding sub_gathered
  some_left x s m = left (λ (l : Masks). l.some) (covers w (sub x s) o) _ m refl

  every-left : (x s : ℕ) (m : Masks) → (sub_gathered p adds w x s o m).every ≡ m.every
  unfolding sub_gathered
  every-left x s m = left (λ (l : Masks). l.every) (covers w (sub x s) o) _ m refl

  enables-left : (x s : ℕ) (m : Masks) → (sub_gathered p adds w x s o m).enables ≡ m.enables
  unfolding sub_gathered
  enables-left x s m = left (λ (l : Masks). l.enables) (covers w (sub x s) o) _ m refl

  pub some-bit : (n j : ℕ) → bit (masks p adds w n o).some j ≡ any n (λ x. covers w (base x) o && bit (get_or w (base x) 0) j)
  unfolding masks
  some-bit n j =
      some-base (λ m. bit m.some j) (λ x. bit (get_or w (base x) 0) j) (bit-zero j)
      (λ x m. ap (λ (y : ℕ). bit y j) (some_left x 1 _ ∙ some_left x 0 _) ∙ bit-or m.some (get_or w (base x) 0) j) n

  pub every-bit : (n j : ℕ) → j < 32 → bit (masks p adds w n o).every j ≡ every_base w n o (λ x. bit (get_or w (base x) 0) j)
  unfolding masks
  every-bit n j h =
      every-base (λ m. bit m.every j) (λ x. bit (get_or w (base x) 0) j) (bit-ones 32 j h)
      (λ x m. ap (λ (y : ℕ). bit y j) (every-left x 1 _ ∙ every-left x 0 _) ∙ bit-and m.every (get_or w (base x) 0) j) n

  pub enables-bit : (n j : ℕ) → j < 32 → bit (masks p adds w n o).enables j ≡ every_base w n o (λ x. bit (get_or w (base x + cidcfgr_at) 0) j)
  unfolding masks
  enables-bit n j h =
      every-base (λ m. bit m.enables j) (λ x. bit (get_or w (base x + cidcfgr_at) 0) j) (bit-ones 32 j h)
      (λ x m. ap (λ (y : ℕ). bit y j) (enables-left x 1 _ ∙ enables-left x 0 _) ∙ bit-and m.enables (get_or w (base x + cidcfgr_at) 0) j) n

  -- ---- working SEC and PRIV

  pub secure-bit : (n : ℕ) → bit (masks p adds w n o).secure sec_bit ≡ every_sub w n o (working_sec w)
  unfolding masks sub_gathered
  secure-bit n =
      every-sub (λ m. bit m.secure sec_bit) (working_sec w) (λ x m. refl) (bit-ones 32 sec_bit (lit< tt))
      (λ x s m.
      ap-cond (λ (l : Masks). bit l.secure sec_bit) (covers w (sub x s) o) _ m
      ∙ ap (λ (b : Bool). cond (covers w (sub x s) o) b (bit m.secure sec_bit))
      (bit-and m.secure _ sec_bit ∙ ap (λ (b : Bool). bit m.secure sec_bit && b) (bit-and (get_or w (sub x s) 0) (get_or w (base x) 0) sec_bit))
      ∙ and-cond (covers w (sub x s) o) (bit m.secure sec_bit) (working_sec w x s)) n

  priv-bit : (cfgr word i : ℕ) → bit (bit_and cfgr (word / 2 ^ i / 2 ^ (privc_bit 0 - priv_bit))) priv_bit ≡ (bit cfgr priv_bit && bit word (privc_bit i))
  priv-bit cfgr word i =
      let e : i + (7 + 9) ≡ 16 + i = omega arith in
      bit-and cfgr (word / 2 ^ i / 2 ^ 7) priv_bit
      ∙ ap (λ (b : Bool). bit cfgr priv_bit && b) (bit-shr (word / 2 ^ i) 7 9 ∙ bit-shr word i (7 + 9) ∙ ap (bit word) e)

  looked : (q : Bool) → q ≡ false → (a b : ℕ) → bit (cond q a (bit_and a b)) priv_bit ≡ (bit a priv_bit && bit b priv_bit)
  looked true e a b = absurd (true≢false e)
  looked false e a b = bit-and a b priv_bit

  -- where it was looked at
  pub privileged-bit : p ≡ false → (n : ℕ) → bit (masks p adds w n o).privileged priv_bit ≡ every_sub w n o (working_priv w)
  unfolding masks sub_gathered
  privileged-bit e n =
      every-sub (λ m. bit m.privileged priv_bit) (working_priv w) (λ x m. refl) (bit-ones 32 priv_bit (lit< tt))
      (λ x s m.
      ap-cond (λ (l : Masks). bit l.privileged priv_bit) (covers w (sub x s) o) _ m
      ∙ ap (λ (b : Bool). cond (covers w (sub x s) o) b (bit m.privileged priv_bit))
      (looked p e m.privileged _
      ∙ ap (λ (b : Bool). bit m.privileged priv_bit && b) (priv-bit (get_or w (sub x s) 0) (get_or w (base x) 0) (srcid w x s).0))
      ∙ and-cond (covers w (sub x s) o) (bit m.privileged priv_bit) (working_priv w x s)) n
