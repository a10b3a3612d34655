-- Words compared at the bits that a mask has, and at those that it has not; lists compared word by word, with a mask for each.
use mathlib.Core.Bool.{Bool, true, false, ◌&&◌, cond, true≢false}
use mathlib.Core.List.{List, [], ◌∷◌, ◌++◌, map}
use mathlib.Core.Path.{◌≡◌, refl, sym, ap, ◌∙◌}
use Prim.Native.Nat.{ℕ, zero, suc, ◌+◌, ◌-◌, ◌^◌, ◌<◌}
use native.Mathlib.Omega.{arith}
use borrow.Author.Tests.{eqb-true}
use lib.Dec.{eqb}
use lib.ListN.{length, get_or, set, take, drop}
use Rattle.words.specs.Bit.{bit, word, field, masked, merged, with_bit}
use Rattle.words.proofs.Laws.{bit_word, bit-ext, bit-zero, bit-ones, bit-field, bit_masked, word-cong}

-- ---- words of 32 bits

-- every bit that is one of x's is one of the mask's
abbrev pub Within : ℕ → ℕ → Type 0
Within x mask = (j : ℕ) → j < 32 → bit x j ≡ true → bit mask j ≡ true

abbrev pub Whole : ℕ → Type 0
Whole mask = (j : ℕ) → j < 32 → bit mask j ≡ true

-- x is y but for bits of the mask
abbrev pub Kept : ℕ → ℕ → ℕ → Type 0
Kept mask x y = (j : ℕ) → j < 32 → bit mask j ≡ false → bit x j ≡ bit y j

-- x and y have the mask's bits alike; where the mask has all 32 they are one number
pub record Same (mask x y : ℕ) : Type 0 where
  pub bits : (j : ℕ) → j < 32 → bit mask j ≡ true → bit x j ≡ bit y j
  pub whole : Whole mask → x ≡ y

pub within-not : (x mask : ℕ) → Within x mask → (j : ℕ) → j < 32 → bit mask j ≡ false → bit x j ≡ false
within-not x mask within j l h = go (bit x j) refl
  where
    go : (b : Bool) → bit x j ≡ b → b ≡ false
    go true e = absurd (true≢false (sym (within j l e) ∙ h))
    go false e = refl

pub within-zero : (mask : ℕ) → Within 0 mask
within-zero mask j l h = absurd (true≢false (sym h ∙ bit-zero j))

-- for two numerals, by computing
pub within-masked : (x mask : ℕ) → masked 32 x mask ≡ x → Within x mask
within-masked x mask e j l h = go (bit mask j) (sym (bit_masked 32 x mask j l) ∙ ap (λ (w : ℕ). bit w j) e ∙ h)
  where
    go : (b : Bool) → (b && bit x j) ≡ true → b ≡ true
    go true i = refl
    go false i = i

pub kept_refl : (mask x : ℕ) → Kept mask x x
kept_refl mask x j l h = refl

pub same_refl : (mask x : ℕ) → Same mask x x
same_refl mask x = record { bits = λ j l h. refl; whole = λ e. refl }

-- numbers of 32 bits, by their bits
pub same-fits : (mask x y : ℕ) → x < 2 ^ 32 → y < 2 ^ 32 → ((j : ℕ) → j < 32 → bit mask j ≡ true → bit x j ≡ bit y j) → Same mask x y
same-fits mask x y l m h = record { bits = h; whole = λ e. bit-ext 32 x y l m (λ k i. h k i (e k i)) }

-- a word made bit by bit
pub kept_word : (mask x : ℕ) (p : ℕ → Bool) → ((j : ℕ) → j < 32 → bit mask j ≡ false → p j ≡ bit x j) → Kept mask (word 32 p) x
kept_word mask x p e j l h = bit_word 32 p j l ∙ e j l h

pub same_word : (mask : ℕ) (p q : ℕ → Bool) → ((j : ℕ) → j < 32 → bit mask j ≡ true → p j ≡ q j) → Same mask (word 32 p) (word 32 q)
same_word mask p q e =
    record {
      bits = λ j l h. bit_word 32 p j l ∙ e j l h ∙ sym (bit_word 32 q j l);
      whole = λ all. word-cong 32 p q (λ k l. e k l (all k l));
    }

-- ---- a write of named bits, one bit set, and a read

pub kept-merged : (named mask old new : ℕ) → Within named mask → Kept mask (merged 32 old new named) old
unfolding merged
kept-merged named mask old new within =
    kept_word mask old _ (λ j l h. ap (λ (b : Bool). cond b (bit new j) (bit old j)) (within-not named mask within j l h))

pub same-merged : (named mask x y new : ℕ) → Same mask x y → Same mask (merged 32 x new named) (merged 32 y new named)
unfolding merged
same-merged named mask x y new r =
    same_word mask _ _ (λ j l h. ap (λ (b : Bool). cond (bit named j) (bit new j) b) (r.bits j l h))

pub kept_set : (mask x k : ℕ) → bit mask k ≡ true → Kept mask (with_bit 32 x k true) x
unfolding with_bit
kept_set mask x k named = kept_word mask x _ (λ j l h. go j h (eqb j k) refl)
  where
    go : (j : ℕ) → bit mask j ≡ false → (b : Bool) → eqb j k ≡ b → cond b true (bit x j) ≡ bit x j
    go j h true e = absurd (true≢false (sym (ap (bit mask) (eqb-true j k e) ∙ named) ∙ h))
    go j h false e = refl

pub same_set : (mask x y k : ℕ) → Same mask x y → Same mask (with_bit 32 x k true) (with_bit 32 y k true)
unfolding with_bit
same_set mask x y k r = same_word mask _ _ (λ j l h. ap (cond (eqb j k) true) (r.bits j l h))

pub same-masked : (named mask x y : ℕ) → Within named mask → Same mask x y → masked 32 x named ≡ masked 32 y named
unfolding masked
same-masked named mask x y within r = word-cong 32 _ _ (λ j l. go j l (bit named j) refl)
  where
    go : (j : ℕ) → j < 32 → (b : Bool) → bit named j ≡ b → (b && bit x j) ≡ (b && bit y j)
    go j l true e = r.bits j l (within j l e)
    go j l false e = refl

-- the bits of a field that is all ones
pub field-full : (mask at wide : ℕ) → field mask at wide ≡ 2 ^ wide - 1 → (k : ℕ) → k < wide → bit mask (at + k) ≡ true
field-full mask at wide e k h = sym (bit-field mask at wide k h) ∙ ap (λ (x : ℕ). bit x k) e ∙ bit-ones wide k h

-- ---- lists

pub data Each {A : Type 0} (R : A → A → A → Type 0) : List A → List A → List A → Type 0 where
  none : Each R [] [] []
  more : {a x y : A} {as' xs ys : List A} → R a x y → Each R as' xs ys → Each R (a ∷ as') (x ∷ xs) (y ∷ ys)

module _ {A : Type 0} {R : A → A → A → Type 0} where
  pub each-get : {as' xs ys : List A} {a x y : A} → Each R as' xs ys → R a x y → (i : ℕ) → R (get_or as' i a) (get_or xs i x) (get_or ys i y)
  each-get none r i = r
  each-get (more h t) r zero = h
  each-get (more h t) r (suc i) = each-get t r i

  pub each_set : {as' xs ys : List A} {v w : A} → Each R as' xs ys → (i : ℕ) (a : A) → R (get_or as' i a) v w → Each R as' (set xs i v) (set ys i w)
  each_set none i a r = none
  each_set (more h t) zero a r = more r t
  each_set (more h t) (suc i) a r = more h (each_set t i a r)

  pub each_take : {as' xs ys : List A} → Each R as' xs ys → (n : ℕ) → Each R (take n as') (take n xs) (take n ys)
  each_take none zero = none
  each_take none (suc n) = none
  each_take (more h t) zero = none
  each_take (more h t) (suc n) = more h (each_take t n)

  pub each-drop : {as' xs ys : List A} → Each R as' xs ys → (n : ℕ) → Each R (drop n as') (drop n xs) (drop n ys)
  each-drop none zero = none
  each-drop none (suc n) = none
  each-drop (more h t) zero = more h t
  each-drop (more h t) (suc n) = each-drop t n

  pub each_append : {as' xs ys bs us vs : List A} → Each R as' xs ys → Each R bs us vs → Each R (as' ++ bs) (xs ++ us) (ys ++ vs)
  each_append none e = e
  each_append (more h t) e = more h (each_append t e)

  -- by their elements
  pub each-by : (a : A) (as' xs ys : List A) → length xs ≡ length as' → length ys ≡ length as'
      → ((i : ℕ) → R (get_or as' i a) (get_or xs i a) (get_or ys i a)) → Each R as' xs ys
  each-by a [] [] [] h l r = none
  each-by a [] [] (y ∷ ys) h l r = absurd (omega arith)
  each-by a [] (x ∷ xs) ys h l r = absurd (omega arith)
  each-by a (b ∷ as') [] ys h l r = absurd (omega arith)
  each-by a (b ∷ as') (x ∷ xs) [] h l r = absurd (omega arith)
  each-by a (b ∷ as') (x ∷ xs) (y ∷ ys) h l r = more (r 0) (each-by a as' xs ys (omega arith) (omega arith) (λ i. r (suc i)))

pub each_map : {A B : Type 0} {R : A → A → A → Type 0} {S : B → B → B → Type 0} {as' xs ys : List A} (f : A → B)
    → ((a x y : A) → R a x y → S (f a) (f x) (f y)) → Each R as' xs ys → Each S (map f as') (map f xs) (map f ys)
each_map f to none = none
each_map f to (more h t) = more (to _ _ _ h) (each_map f to t)
