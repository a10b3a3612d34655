-- What is kept where one word changes: what code goes by (OneWord) is Held.
use mathlib.Core.Bool.{Bool, true, false, ◌&&◌, ◌||◌, cond, or-false, true≢false}
use mathlib.Core.Path.{◌≡◌, refl, sym, ap, ap₂, ◌∙◌}
use Prim.Native.Nat.{ℕ, ◌+◌, ◌-◌, ◌/◌, ◌%◌, ◌^◌, ◌≤◌, ◌<◌}
use native.Mathlib.Decide.{dec_lt}
use native.Mathlib.Nat.{mod-lt}
use native.Mathlib.Omega.{arith}
use borrow.Author.Tests.{eqb-true, eq-eqb}
use lib.Dec.{eqb}
use lib.ListN.{length, get_or, set, get_or-eq_default}
use lib.Seq.{get_or-set_same, get_or-set_other, set-get_or}
use Rattle.words.specs.Bit.{bit, one, with_bit}
use Rattle.words.specs.Six.{bit_words}
use Rattle.words.proofs.Laws.{bit-zero, bit-ext, bit-with_bit, with_bit-lt}
use Rattle.words.proofs.Masks.{with_bit-other}
use Rattle.access.specs.declared.flag.Flag.{Flag}
use Rattle.iac.specs.Contents.{held_of, with_held, with_word}
use Rattle.iac.specs.Flags.{is_flag, flag_set, raise}
use Rattle.iac.specs.Held.{sum, fresh_of, fresh_at, fresh, changes, changes_at, changed, added, with_count, held}
use Rattle.iac.specs.OneWord.{kept}
use Rattle.iac.specs.Registers.{iisr, iisrs}
use Rattle.iac.specs.declared.contents.Iac.{Iac}
use Rattle.iac.specs.declared.registers.Register.TheVariants.{Ier, Icr}
use Rattle.iac.proofs.HeldLaws.{fresh-most, fresh-comm, fresh-same}
use Rattle.iac.proofs.HeldTrue.{all_most, same-changes, changes-same, bits-changed}
use Rattle.iac.proofs.Sums.{sum-but, sum_more, any-but}

-- every word of ISR and IER is there
abbrev pub Sized : Iac → Type 0
Sized s = (length s.isr ≡ bit_words) × (length s.ier ≡ bit_words)

-- ---- past the last index no bit is named, and so nothing counts and nothing changes

named-lt : (x i : ℕ) → bit (iisr x) i ≡ true → x < bit_words
unfolding iisr
named-lt x i h = go (dec_lt x bit_words)
  where
    go : Dec (x < bit_words) → x < bit_words
    go (yes l) = l
    go (no r) =
        let p : bit_words ≤ x = omega arith in
        let z : get_or iisrs x 0 ≡ 0 = get_or-eq_default iisrs 0 p in
        absurd (true≢false (sym h ∙ ap (λ (w : ℕ). bit w i) z ∙ bit-zero i))

fresh-named : (x a a' b b' : ℕ) → (x < bit_words → a ≡ a') → (x < bit_words → b ≡ b') → fresh_of (iisr x) a b ≡ fresh_of (iisr x) a' b'
fresh-named x a a' b b' ea eb =
    fresh-same (iisr x) a a' b b' (λ i l h. (ap (λ (w : ℕ). bit w i) (ea (named-lt x i h)), ap (λ (w : ℕ). bit w i) (eb (named-lt x i h))))

changes-none : (x a b : ℕ) → bit_words ≤ x → changes (iisr x) a b ≡ false
changes-none x a b h = same-changes (iisr x) a b (λ i l n. absurd (omega (arith, named-lt x i n)))

changes-named : (x a b b' : ℕ) → (x < bit_words → b ≡ b') → changes (iisr x) a b ≡ changes (iisr x) a b'
changes-named x a b b' e = go (dec_lt x bit_words)
  where
    go : Dec (x < bit_words) → changes (iisr x) a b ≡ changes (iisr x) a b'
    go (yes l) = ap (changes (iisr x) a) (e l)
    go (no r) = changes-none x a b (omega arith) ∙ sym (changes-none x a b' (omega arith))

changes-refl : (named a : ℕ) → changes named a a ≡ false
changes-refl named a = same-changes named a a (λ i l h. refl)

-- ---- s and t are the same but at index x: there old becomes new, beside other

module _ (s t : Iac) (x old new other : ℕ) (isr : (y : ℕ) → (y ≡ x → ⊥) → get_or t.isr y 0 ≡ get_or s.isr y 0)
    (ier : (y : ℕ) → (y ≡ x → ⊥) → get_or t.ier y 0 ≡ get_or s.ier y 0) (before : fresh_at s x ≡ fresh_of (iisr x) old other)
    (after : fresh_at t x ≡ fresh_of (iisr x) new other) (change : changes_at s t x ≡ changes (iisr x) old new) where
  fresh-but : fresh t + fresh_of (iisr x) old other ≡ fresh s + fresh_of (iisr x) new other
  unfolding fresh fresh_at
  fresh-but =
      rw (← before, ← after)
      (sum-but bit_words x (fresh_at t) (fresh_at s) (λ y l n. ap₂ (fresh_of (iisr y)) (isr y n) (ier y n))
      (λ p. fresh-named x _ _ _ _ (λ l. absurd (omega arith)) (λ l. absurd (omega arith))))

  changed-but : changed s t ≡ changes (iisr x) old new
  unfolding changed changes_at
  changed-but =
      any-but bit_words x (changes_at s t)
      (λ y l n. ap₂ ◌||◌ (ap (changes (iisr y) _) (isr y n) ∙ changes-refl _ _) (ap (changes (iisr y) _) (ier y n) ∙ changes-refl _ _))
      (λ p. change ∙ changes-none x old new p)
      ∙ change

  result-is : added s.count (fresh s) (fresh t) ≡ added s.count (fresh_of (iisr x) old other) (fresh_of (iisr x) new other)
  result-is =
      let e : s.count % 256 + 256 - fresh s + fresh t ≡ s.count % 256 + 256 - fresh_of (iisr x) old other + fresh_of (iisr x) new other =
      omega (arith, fresh-but, all_most s, fresh-most (iisr x) old other) in
      ap (λ (n : ℕ). n % 256) e

  one_word : held s t ≡ with_held t (kept (iisr x) other old new (held_of s))
  unfolding held kept
  one_word = rw (changed-but, result-is)

-- ---- a word of IER, a word of ISR

pub at-ier : (s : Iac) (x w : ℕ) → Sized s
    → held s (with_word s (Ier x) w) ≡ with_held (with_word s (Ier x) w) (kept (iisr x) (get_or s.isr x 0) (get_or s.ier x 0) w (held_of s))
unfolding with_word fresh_at changes_at
at-ier s x w z =
    let there : x < bit_words → get_or (set s.ier x w) x 0 ≡ w = λ l. get_or-set_same s.ier x w 0 (omega (arith, z.1)) in
    one_word s (with_word s (Ier x) w) x (get_or s.ier x 0) w (get_or s.isr x 0)
    (λ y n. refl)
    (λ y n. get_or-set_other s.ier x y w 0 n)
    (fresh-comm (iisr x) _ _)
    (fresh-named x _ _ _ _ (λ l. refl) there ∙ fresh-comm (iisr x) _ _)
    (ap₂ ◌||◌ (changes-refl (iisr x) _) (changes-named x _ _ _ there))

pub at-isr : (s : Iac) (x w : ℕ) → Sized s
    → held s (with_word s (Icr x) w) ≡ with_held (with_word s (Icr x) w) (kept (iisr x) (get_or s.ier x 0) (get_or s.isr x 0) w (held_of s))
unfolding with_word fresh_at changes_at
at-isr s x w z =
    let there : x < bit_words → get_or (set s.isr x w) x 0 ≡ w = λ l. get_or-set_same s.isr x w 0 (omega (arith, z.0)) in
    one_word s (with_word s (Icr x) w) x (get_or s.isr x 0) w (get_or s.ier x 0)
    (λ y n. get_or-set_other s.isr x y w 0 n)
    (λ y n. refl)
    refl
    (fresh-named x _ _ _ _ there (λ l. refl))
    (ap₂ ◌||◌ (changes-named x _ _ _ there) (changes-refl (iisr x) _) ∙ or-false _)

-- ---- nothing

pub at_none : (s : Iac) → held s s ≡ s
unfolding held
at_none s = rw (bits-changed s s (λ x i l m n. (refl, refl)))

-- ---- a flag: bit k of ISRx, which is named

module _ (named k : ℕ) (l : k < 32) (n : bit named k ≡ true) (isr ier : ℕ) (off : bit isr k ≡ false) where
  set-bit : bit (with_bit 32 isr k true) k ≡ true
  set-bit = bit-with_bit 32 isr k true k l ∙ ap (λ (b : Bool). cond b true (bit isr k)) (eq-eqb k k refl)

  flag-changes : changes named isr (with_bit 32 isr k true) ≡ true
  flag-changes = go (changes named isr (with_bit 32 isr k true)) refl
    where
      go : (b : Bool) → changes named isr (with_bit 32 isr k true) ≡ b → b ≡ true
      go true e = refl
      go false e = absurd (true≢false (sym set-bit ∙ sym (changes-same named isr (with_bit 32 isr k true) e k l n) ∙ off))

  flag-counts : fresh_of named (with_bit 32 isr k true) ier ≡ fresh_of named isr ier + one (bit ier k)
  unfolding fresh_of
  flag-counts =
      let f : ℕ → ℕ = λ i. one (bit named i && bit (with_bit 32 isr k true) i && bit ier i) in
      let g : ℕ → ℕ = λ i. one (bit named i && bit isr i && bit ier i) in
      let after : f k ≡ one (bit ier k) = rw (n, set-bit) refl in
      let before : g k ≡ 0 = rw (n, off) refl in
      sum_more 32 k f g (λ i m d. ap (λ (b : Bool). one (bit named i && b && bit ier i)) (with_bit-other 32 isr k true i m d)) l before
      ∙ ap (λ (m : ℕ). sum 32 g + m) after

module _ (i : Flag) (s : Iac) (is : is_flag i ≡ true) where
  abbrev isr : ℕ
  isr = get_or s.isr (i.0 / 32) 0

  abbrev ier : ℕ
  ier = get_or s.ier (i.0 / 32) 0

  -- a flag that is raised
  pub raise-sets : Sized s → bit isr (i.0 % 32) ≡ false
      → raise i s ≡ with_held (flag_set i s) (with_count (held_of s) (added s.count 0 (one (bit ier (i.0 % 32)))))
  unfolding raise flag_set kept iisr
  raise-sets z off =
      let named = iisr (i.0 / 32) in
      let k = i.0 % 32 in
      let l : k < 32 = mod-lt i.0 (omega arith) in
      let e : added s.count (fresh_of named isr ier) (fresh_of named (with_bit 32 isr k true) ier) ≡ added s.count 0 (one (bit ier k)) =
      omega (arith, flag-counts named k l is isr ier off, fresh-most named isr ier) in
      rw is (at-isr s (i.0 / 32) (with_bit 32 isr k true) z ∙ rw (flag-changes named k l is isr ier off, e) refl)

  -- one that is set already
  pub raise-leaves : isr < 2 ^ 32 → bit isr (i.0 % 32) ≡ true → raise i s ≡ s
  unfolding raise flag_set with_word
  raise-leaves fits on =
      let e : with_bit 32 isr (i.0 % 32) true ≡ isr = bit-ext 32 _ _ (with_bit-lt 32 isr (i.0 % 32) true) fits (λ j l. bit-with_bit 32 isr (i.0 % 32) true j l ∙ go j (eqb j (i.0 % 32)) refl) in
      rw (is, e, set-get_or s.isr (i.0 / 32) 0) (at_none s)
    where
      go : (j : ℕ) (b : Bool) → eqb j (i.0 % 32) ≡ b → cond b true (bit isr j) ≡ bit isr j
      go j true e = sym (ap (bit isr) (eqb-true j (i.0 % 32) e) ∙ on)
      go j false e = refl
