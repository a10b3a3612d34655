-- Eight hexadecimal digits read at once: what the code does to the packed bytes, byte by byte.
use mathlib.Core.Bool.{Bool, true, false, not, ◌&&◌, ◌||◌, beq, and-false, false≢true}
use mathlib.Core.List.{List, [], ◌∷◌}
use mathlib.Core.Path.{◌≡◌, refl, sym, ap, ap₂, ◌∙◌}
use Prim.Native.Nat.{ℕ, zero, suc, ◌+◌, ◌*◌, ◌/◌, ◌%◌, ◌^◌, ◌≤◌, ◌<◌}
use native.Mathlib.Decide.{dec_lt}
use native.Mathlib.Omega.{arith}
use borrow.Author.Tests.{eq-eqb, ne_eqb, eqb-true, ltb-true}
use lib.Bits.{bit_and, and_le_r}
use lib.Dec.{eqb, ltb, lit<}
use lib.ListN.{length, get_or, take, drop}
use lib.Seq.{drop-cons}
use Rattle.access.specs.Fold.{all}
use Rattle.std.specs.Prelude.{Some, None}
use Rattle.script.specs.Numbers.{is_hex, digit, every, value_from, hex_of}
use Rattle.script.specs.Places.{four_at}
use Rattle.script.proofs.Gathered.{lower_bytes, lower_pairs, gathered}
use Rattle.script.proofs.Told.{both_true}
use Rattle.script.proofs.Packed.{packed, Bytes, packed-same, packed-and, packed-add, packed-mul, packed-eqb}

-- ---- one byte

-- 1 where it may be a letter, the digit that it may stand for, 1 where that is ten or more, and the character of the digit
abbrev letter : ℕ → ℕ
letter b = bit_and b 64 / 64

abbrev value : ℕ → ℕ
value b = bit_and b 15 + 9 * letter b

abbrev ten : ℕ → ℕ
ten b = bit_and (value b + 6) 16 / 16

abbrev shown : ℕ → ℕ
shown b = value b + 48 + 39 * ten b

-- a digit's value is below 16, and its character is the byte
abbrev low : ℕ → Bool
low b = eqb (bit_and (value b) 240) 0

abbrev good : ℕ → Bool
good b = eqb (shown b) b

beq-true : (t u : Bool) → beq t u ≡ true → t ≡ u
beq-true true true h = refl
beq-true true false h = absurd (false≢true h)
beq-true false true h = absurd (false≢true h)
beq-true false false h = refl

so-true : (t u : Bool) → (not t || u) ≡ true → t ≡ true → u ≡ true
so-true true u h e = h
so-true false u h e = absurd (false≢true e)

all_true : (n : ℕ) (p : ℕ → Bool) → all n p ≡ true → (x : ℕ) → x < n → p x ≡ true
all_true zero p h x l = absurd (omega arith)
all_true (suc n) p h x l =
    let k = both_true (all n p) (p n) h in
    go k.1 (all_true n p k.0 x) (dec_lt x n)
  where
    go : p n ≡ true → (x < n → p x ≡ true) → Dec (x < n) → p x ≡ true
    go e f (yes m) = f m
    go e f (no m) =
        let q : x ≡ n = omega arith in
        ap p q ∙ e

-- each is a test that all bytes pass
module _ (b : ℕ) (h : b < 256) where
  hex-byte : is_hex b ≡ (low b && good b)
  hex-byte = beq-true (is_hex b) (low b && good b) (all_true 256 (λ b. beq (is_hex b) (low b && good b)) refl b h)

  pub digit-byte : is_hex b ≡ true → (value b ≡ digit b) × (digit b < 16)
  digit-byte e =
      let d = both_true (eqb (value b) (digit b)) (ltb (digit b) 16)
      (so-true (is_hex b) (eqb (value b) (digit b) && ltb (digit b) 16)
      (all_true 256 (λ b. not (is_hex b) || eqb (value b) (digit b) && ltb (digit b) 16) refl b h) e) in
      (eqb-true (value b) (digit b) d.0, ltb-true (digit b) 16 d.1)

  letter-byte : bit_and b 64 ≡ 64 * letter b
  letter-byte = eqb-true (bit_and b 64) (64 * letter b) (all_true 256 (λ b. eqb (bit_and b 64) (64 * letter b)) refl b h)

  ten-byte : bit_and (value b + 6) 16 ≡ 16 * ten b
  ten-byte =
      eqb-true (bit_and (value b + 6) 16) (16 * ten b) (all_true 256 (λ b. eqb (bit_and (value b + 6) 16) (16 * ten b)) refl b h)

  value-small : value b < 25
  value-small = ltb-true (value b) 25 (all_true 256 (λ b. ltb (value b) 25) refl b h)

  shown-small : shown b < 256
  shown-small = ltb-true (shown b) 256 (all_true 256 (λ b. ltb (shown b) 256) refl b h)

-- ---- packed bytes

module _ (bs : List ℕ) (bytes : Bytes bs) where
  -- a number in each byte
  abbrev rep : ℕ → ℕ
  rep k = packed (λ b. k) 0 bs

  letters-are : bit_and (packed (λ b. b) 0 bs) (rep 64) / 2 ^ 6 ≡ packed letter 0 bs
  letters-are =
      let e = packed-and (λ b. b) 64 (λ b h. h) (lit< tt) 0 0 bs bytes
      ∙ packed-same (λ b. bit_and b 64) (λ b. 64 * letter b) letter-byte 0 bs bytes
      ∙ sym (packed-mul 64 letter 0 bs) in
      ap (λ (x : ℕ). x / 2 ^ 6) e ∙ omega arith

  values-are : bit_and (packed (λ b. b) 0 bs) (rep 15) + 9 * packed letter 0 bs ≡ packed value 0 bs
  values-are =
      ap₂ ◌+◌ (packed-and (λ b. b) 15 (λ b h. h) (lit< tt) 0 0 bs bytes) (packed-mul 9 letter 0 bs)
      ∙ packed-add (λ b. bit_and b 15) (λ b. 9 * letter b) 0 0 bs

  tens-are : bit_and (packed value 0 bs + rep 6) (rep 16) / 2 ^ 4 ≡ packed ten 0 bs
  tens-are =
      let e = ap (λ (x : ℕ). bit_and x (rep 16)) (packed-add value (λ b. 6) 0 0 bs)
      ∙ packed-and (λ b. value b + 6) 16 (λ b h. omega (arith, value-small b h)) (lit< tt) 0 0 bs bytes
      ∙ packed-same (λ b. bit_and (value b + 6) 16) (λ b. 16 * ten b) ten-byte 0 bs bytes
      ∙ sym (packed-mul 16 ten 0 bs) in
      ap (λ (x : ℕ). x / 2 ^ 4) e ∙ omega arith

  shown-are : packed value 0 bs + rep 48 + 39 * packed ten 0 bs ≡ packed shown 0 bs
  shown-are =
      ap₂ ◌+◌ (packed-add value (λ b. 48) 0 0 bs) (packed-mul 39 ten 0 bs)
      ∙ packed-add (λ b. value b + 48) (λ b. 39 * ten b) 0 0 bs

  -- the two tests
  low-are : eqb (bit_and (packed value 0 bs) (rep 240)) (rep 0) ≡ every low bs
  low-are =
      ap (λ (x : ℕ). eqb x (rep 0)) (packed-and value 240 (λ b h. omega (arith, value-small b h)) (lit< tt) 0 0 bs bytes)
      ∙ packed-eqb (λ b. bit_and (value b) 240) (λ b. 0) (λ b h. omega (arith, and_le_r (value b) 240)) (λ b h. lit< tt) 0 0 bs bytes

  good-are : eqb (packed shown 0 bs) (packed (λ b. b) 0 bs) ≡ every good bs
  good-are =
      packed-eqb shown (λ b. b) shown-small (λ b h. h) 0 0 bs bytes

and-swap : (a b c d : Bool) → ((a && b) && (c && d)) ≡ ((a && c) && (b && d))
and-swap true true c d = refl
and-swap true false true d = refl
and-swap true false false d = refl
and-swap false b c d = refl

every-hex : (bs : List ℕ) → Bytes bs → every is_hex bs ≡ (every low bs && every good bs)
unfolding every
every-hex [] h = refl
every-hex (b ∷ bs) h = rw (hex-byte b h.0, every-hex bs h.1) (and-swap (low b) (good b) (every low bs) (every good bs))

-- ---- eight bytes

-- 1 in each of eight bytes
abbrev pub each : ℕ
each = 0x0101_0101_0101_0101

-- what the code makes of the eight bytes
abbrev pub digits_in : ℕ → ℕ
digits_in text = bit_and text (15 * each) + 9 * (bit_and text (64 * each) / 2 ^ 6)

abbrev pub shown_in : ℕ → ℕ
shown_in digits = digits + 48 * each + 39 * (bit_and (digits + 6 * each) (16 * each) / 2 ^ 4)

-- both fit
pub digits-most : (text : ℕ) → digits_in text ≤ 24 * each
digits-most text = omega (arith, and_le_r text (15 * each), and_le_r text (64 * each))

pub shown-most : (text : ℕ) → 39 * (bit_and (digits_in text + 6 * each) (16 * each) / 2 ^ 4) ≤ 39 * each
shown-most text = omega (arith, and_le_r (digits_in text + 6 * each) (16 * each))

module _ (a b c d e f g h : ℕ) (bytes : Bytes (a ∷ b ∷ c ∷ d ∷ e ∷ f ∷ g ∷ h ∷ []))
    (text : ℕ) (is : text ≡ packed (λ b. b) 0 (a ∷ b ∷ c ∷ d ∷ e ∷ f ∷ g ∷ h ∷ [])) where
  abbrev bs : List ℕ
  bs = a ∷ b ∷ c ∷ d ∷ e ∷ f ∷ g ∷ h ∷ []

  digits_are : digits_in text ≡ packed value 0 bs
  digits_are = ap digits_in is ∙ ap (λ (x : ℕ). bit_and (packed (λ b. b) 0 bs) (15 * each) + 9 * x) (letters-are bs bytes) ∙ values-are bs bytes

  low-test : eqb (bit_and (digits_in text) (240 * each)) 0 ≡ every low bs
  low-test = ap (λ (x : ℕ). eqb (bit_and x (240 * each)) 0) digits_are ∙ low-are bs bytes

  good-test : eqb (shown_in (digits_in text)) text ≡ every good bs
  good-test =
      ap₂ (λ (x y : ℕ). eqb (shown_in x) y) digits_are is
      ∙ ap (λ (x : ℕ). eqb x (packed (λ b. b) 0 bs))
      (ap (λ (x : ℕ). packed value 0 bs + 48 * each + 39 * x) (tens-are bs bytes) ∙ shown-are bs bytes)
      ∙ good-are bs bytes

  pub hex-not-low : (bit_and (digits_in text) (240 * each) ≡ 0 → ⊥) → None ≡ hex_of bs
  unfolding hex_of
  hex-not-low k = rw (every-hex bs bytes, sym low-test, ne_eqb (bit_and (digits_in text) (240 * each)) 0 k)

  pub hex-not-good : (shown_in (digits_in text) ≡ text → ⊥) → None ≡ hex_of bs
  unfolding hex_of
  hex-not-good k = rw (every-hex bs bytes, sym good-test, ne_eqb (shown_in (digits_in text)) text k, and-false (every low bs))

  pub hex-good : bit_and (digits_in text) (240 * each) ≡ 0 → shown_in (digits_in text) ≡ text → every is_hex bs ≡ true
  hex-good k l =
      every-hex bs bytes
      ∙ ap₂ ◌&&◌ (sym low-test ∙ eq-eqb (bit_and (digits_in text) (240 * each)) 0 k) (sym good-test ∙ eq-eqb (shown_in (digits_in text)) text l)

  pub hex-value : every is_hex bs ≡ true → (pairs fours : ℕ) → pairs ≡ bit_and (digits_in text + digits_in text / 2 ^ 4) lower_bytes
      → fours ≡ bit_and (pairs + pairs / 2 ^ 8) lower_pairs → Some ((fours + fours / 2 ^ 16) % 4294967296) ≡ hex_of bs
  unfolding hex_of every value_from
  hex-value k pairs fours ep ef =
      let k0 = both_true (is_hex a) _ k in
      let k1 = both_true (is_hex b) _ k0.1 in
      let k2 = both_true (is_hex c) _ k1.1 in
      let k3 = both_true (is_hex d) _ k2.1 in
      let k4 = both_true (is_hex e) _ k3.1 in
      let k5 = both_true (is_hex f) _ k4.1 in
      let k6 = both_true (is_hex g) _ k5.1 in
      let k7 = both_true (is_hex h) _ k6.1 in
      let d0 = digit-byte a bytes.0 k0.0 in
      let d1 = digit-byte b bytes.1.0 k1.0 in
      let d2 = digit-byte c bytes.1.1.0 k2.0 in
      let d3 = digit-byte d bytes.1.1.1.0 k3.0 in
      let d4 = digit-byte e bytes.1.1.1.1.0 k4.0 in
      let d5 = digit-byte f bytes.1.1.1.1.1.0 k5.0 in
      let d6 = digit-byte g bytes.1.1.1.1.1.1.0 k6.0 in
      let d7 = digit-byte h bytes.1.1.1.1.1.1.1.0 k7.0 in
      ap Some
      (gathered (digit a) (digit b) (digit c) (digit d) (digit e) (digit f) (digit g) (digit h) d0.1 d1.1 d2.1 d3.1 d4.1 d5.1 d6.1 d7.1
      (digits_in text) (digits_are ∙ rw (d0.0, d1.0, d2.0, d3.0, d4.0, d5.0, d6.0, d7.0) (omega arith)) pairs fours ep ef)
      ∙ rw k

-- ---- bytes of a line

abbrev byte : List ℕ → ℕ → ℕ
byte line p = get_or line p 0

-- the k bytes from place p on
abbrev pub bytes_at : List ℕ → ℕ → ℕ → List ℕ
bytes_at line p zero = []
bytes_at line p (suc k) = get_or line p 0 ∷ bytes_at line (suc p) k

pub taken : (k : ℕ) (line : List ℕ) (p : ℕ) → p + k ≤ length line → take k (drop p line) ≡ bytes_at line p k
taken zero line p h = refl
taken (suc k) line p h =
    rw (drop-cons line p 0 (omega arith)) (ap (λ (s : List ℕ). get_or line p 0 ∷ s) (taken k line (suc p) (omega arith)))

pub bytes-known : (k : ℕ) (line : List ℕ) (p : ℕ) → ((i : ℕ) → get_or line i 0 < 256) → Bytes (bytes_at line p k)
bytes-known zero line p h = tt
bytes-known (suc k) line p h = (h p, bytes-known k line (suc p) h)

pub eight-packed : (line : List ℕ) (p a b : ℕ) → a ≡ four_at line p → b ≡ four_at line (p + 4)
    → 4294967296 * a + b ≡ packed (λ b. b) 0 (bytes_at line p 8)
eight-packed line p a b e f =
    let g1 : get_or line (p + 1) 0 ≡ get_or line (suc p) 0 = ap (byte line) {y = suc p} (omega arith) in
    let g2 : get_or line (p + 2) 0 ≡ get_or line (suc (suc p)) 0 = ap (byte line) {y = suc (suc p)} (omega arith) in
    let g3 : get_or line (p + 3) 0 ≡ get_or line (suc (suc (suc p))) 0 = ap (byte line) {y = suc (suc (suc p))} (omega arith) in
    let g4 : get_or line (p + 4) 0 ≡ get_or line (suc (suc (suc (suc p)))) 0 = ap (byte line) {y = suc (suc (suc (suc p)))} (omega arith) in
    let g5 : get_or line (p + 4 + 1) 0 ≡ get_or line (suc (suc (suc (suc (suc p))))) 0 = ap (byte line) {y = suc (suc (suc (suc (suc p))))} (omega arith) in
    let g6 : get_or line (p + 4 + 2) 0 ≡ get_or line (suc (suc (suc (suc (suc (suc p)))))) 0 = ap (byte line) {y = suc (suc (suc (suc (suc (suc p)))))} (omega arith) in
    let g7 : get_or line (p + 4 + 3) 0 ≡ get_or line (suc (suc (suc (suc (suc (suc (suc p))))))) 0 = ap (byte line) {y = suc (suc (suc (suc (suc (suc (suc p))))))} (omega arith) in
    omega (arith, e, f, g1, g2, g3, g4, g5, g6, g7)
