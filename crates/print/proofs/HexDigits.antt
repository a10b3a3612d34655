-- The last eight hexadecimal digits of a number, as the code makes them: bytes, each in its two digits, and those in their characters.
use mathlib.Core.List.{List, [], ◌∷◌, ◌++◌}
use mathlib.Core.Path.{◌≡◌, refl, ap, ◌∙◌}
use Prim.Native.Nat.{ℕ, zero, suc, ◌+◌, ◌-◌, ◌*◌, ◌/◌, ◌%◌, ◌^◌, ◌≤◌, ◌<◌}
use native.Mathlib.Omega.{arith}
use lib.ListN.{length}
use Rattle.std.specs.Int.{w64, to_le_bytes}
use lib.Bits.{bit_and, and_high, and_le_l, and_le_r, and_mask}
use Rattle.print.specs.Bytes.{bytes}
use Rattle.print.specs.Print.{character, digits_of}
use Rattle.print.proofs.Digits.{character-is}
use Rattle.print.proofs.Lanes.{lanes, lanes-same, and-lanes}

-- ---- digits

-- of each byte its high one, then its low one
pairs : List ℕ → List ℕ
pairs [] = []
pairs (x ∷ xs) = x / 16 ∷ x ∷ pairs xs

abbrev bytes_in : List ℕ → ℕ
bytes_in xs = lanes 16 (λ x. x % 256) xs

abbrev highs : List ℕ → ℕ
highs xs = lanes 16 (λ x. x % 256 / 16) xs

abbrev lows : List ℕ → ℕ
lows xs = lanes 16 (λ x. x % 256 % 16) xs

abbrev digits_in : List ℕ → ℕ
digits_in ds = lanes 8 (λ d. d % 16) ds

parted : (xs : List ℕ) → bytes_in xs ≡ highs xs * 16 + lows xs
unfolding lanes
parted [] = refl
parted (x ∷ xs) = omega (arith, parted xs)

apart : (xs : List ℕ) → highs xs + lows xs * 256 ≡ digits_in (pairs xs)
unfolding lanes pairs
apart [] = refl
apart (x ∷ xs) =
    let high : x % 256 / 16 ≡ x / 16 % 16 = omega arith in
    let low : x % 256 % 16 ≡ x % 16 = omega arith in
    omega (arith, apart xs, high, low)

low_mask : (xs : List ℕ) → bit_and (bytes_in xs) (lanes 16 (λ x. 15) xs) ≡ lows xs
low_mask xs = and-lanes 16 15 _ _ (omega arith) (λ x. omega arith) (λ x. and_mask (x % 256) 4) xs

digits_are : (xs : List ℕ) → (bytes_in xs - lows xs) / 16 + lows xs * 256 ≡ digits_in (pairs xs)
digits_are xs =
    let e : (bytes_in xs - lows xs) / 16 ≡ highs xs = omega (arith, parted xs) in
    omega (arith, e, apart xs)

-- ---- characters

-- 1 where the digit is a letter
abbrev letter : ℕ → ℕ
letter d = (d % 16 + 6) / 16

added : (ds : List ℕ) → digits_in ds + lanes 8 (λ d. 6) ds ≡ lanes 8 (λ d. d % 16 + 6) ds
unfolding lanes
added [] = refl
added (d ∷ ds) = omega (arith, added ds)

sixteenth : (ds : List ℕ) → lanes 8 (λ d. letter d * 16) ds ≡ lanes 8 letter ds * 16
unfolding lanes
sixteenth [] = refl
sixteenth (d ∷ ds) = omega (arith, sixteenth ds)

letters-are : (ds : List ℕ) → bit_and (digits_in ds + lanes 8 (λ d. 6) ds) (lanes 8 (λ d. 16) ds) / 16 ≡ lanes 8 letter ds
letters-are ds =
    let m : (d : ℕ) → bit_and (d % 16 + 6) 16 ≡ letter d * 16 = λ d. and_high (d % 16 + 6) 1 4 ∙ omega arith in
    let e : bit_and (lanes 8 (λ d. d % 16 + 6) ds) (lanes 8 (λ d. 16) ds) ≡ lanes 8 (λ d. letter d * 16) ds =
    and-lanes 8 16 _ _ (omega arith) (λ d. omega arith) m ds in
    rw (added ds, e, sixteenth ds) (omega arith)

abbrev character_of : ℕ → ℕ
character_of d = character (d % 16)

summed : (ds : List ℕ) → digits_in ds + lanes 8 (λ d. 48) ds + 39 * lanes 8 letter ds ≡ lanes 8 (λ d. 48 + d % 16 + 39 * letter d) ds
unfolding lanes
summed [] = refl
summed (d ∷ ds) = omega (arith, summed ds)

word-is : (ds : List ℕ) → digits_in ds + lanes 8 (λ d. 48) ds + 39 * lanes 8 letter ds ≡ lanes 8 character_of ds
word-is ds = summed ds ∙ lanes-same 8 _ _ (λ d. character-is (d % 16) (omega arith)) ds

-- ---- bytes

-- the k lowest of a word, the lowest first
bytes_of : ℕ → ℕ → List ℕ
bytes_of zero w = []
bytes_of (suc k) w = w % 256 ∷ bytes_of k (w / 256)

characters : List ℕ → List ℕ
characters [] = []
characters (d ∷ ds) = character_of d ∷ characters ds

few : (d : ℕ) → character_of d < 256
few d = rw (← character-is (d % 16) (omega arith)) (omega arith)

bytes-are : (ds : List ℕ) → bytes_of (length ds) (lanes 8 character_of ds) ≡ characters ds
unfolding lanes bytes_of characters
bytes-are [] = refl
bytes-are (d ∷ ds) =
    let w = lanes 8 character_of ds in
    let low : (w * 256 + character_of d) % 256 ≡ character_of d = omega (arith, few d) in
    let high : (w * 256 + character_of d) / 256 ≡ w = omega (arith, few d) in
    rw (low, high) (ap (λ (l : List ℕ). character_of d ∷ l) (bytes-are ds))

le-bytes : (w : ℕ) → to_le_bytes w64 w ≡ bytes_of 8 w
unfolding bytes_of
le-bytes w =
    let a : w / 0x100 / 256 ≡ w / 0x1_0000 = omega arith in
    let b : w / 0x1_0000 / 256 ≡ w / 0x100_0000 = omega arith in
    let c : w / 0x100_0000 / 256 ≡ w / 0x1_0000_0000 = omega arith in
    let d : w / 0x1_0000_0000 / 256 ≡ w / 0x100_0000_0000 = omega arith in
    let e : w / 0x100_0000_0000 / 256 ≡ w / 0x1_0000_0000_0000 = omega arith in
    let f : w / 0x1_0000_0000_0000 / 256 ≡ w / 0x100_0000_0000_0000 = omega arith in
    rw (a, b, c, d, e, f)

-- ---- of a number: what the code computes, name by name

module _ (n : ℕ) where
  -- its last four bytes
  abbrev xs : List ℕ
  xs = n / 0x100_0000 ∷ n / 0x1_0000 ∷ n / 0x100 ∷ n ∷ []

  abbrev pub together : ℕ
  together = n / 0x100_0000 % 256 + n / 0x1_0000 % 256 * 0x1_0000 + (n / 0x100 % 256 + n % 256 * 0x1_0000) * 0x1_0000_0000

  abbrev pub low : ℕ
  low = bit_and together 0x000f_000f_000f_000f

  abbrev pub digits : ℕ
  digits = (together - low) / 16 + low * 256

  abbrev pub letters : ℕ
  letters = bit_and (digits + 0x0606_0606_0606_0606) 0x1010_1010_1010_1010 / 16

  abbrev pub word : ℕ
  word = digits + 0x3030_3030_3030_3030 + 39 * letters

  -- each fits 64 bits
  pub low_part : low ≤ together
  low_part = and_le_l together _

  pub low-most : low ≤ 0x000f_000f_000f_000f
  low-most = and_le_r together _

  pub digits-most : digits < 2 ^ 60
  digits-most =
      let g : together < 2 ^ 56 = omega arith in
      let h : (together - low) / 16 < 2 ^ 52 = omega (arith, g) in
      omega (arith, h, low-most)

  pub letters-most : letters ≤ 0x0101_0101_0101_0101
  letters-most = omega (arith, and_le_r (digits + 0x0606_0606_0606_0606) 0x1010_1010_1010_1010)

  bytes-is : together ≡ bytes_in xs
  unfolding lanes
  bytes-is = omega arith

  low-is : low ≡ lows xs
  unfolding lanes
  low-is = rw bytes-is (low_mask xs)

  digits-is : digits ≡ digits_in (pairs xs)
  digits-is = rw (low-is, bytes-is) (digits_are xs)

  letters-is : letters ≡ lanes 8 letter (pairs xs)
  unfolding lanes pairs
  letters-is = rw digits-is (letters-are (pairs xs))

  word_of : word ≡ lanes 8 character_of (pairs xs)
  unfolding lanes pairs
  word_of = rw (letters-is, digits-is) (word-is (pairs xs))

  digits-all : characters (pairs xs) ≡ digits_of 16 8 n
  unfolding characters pairs digits_of
  digits-all =
      let second : n / 16 / 16 ≡ n / 0x100 = omega arith in
      let fourth : n / 0x100 / 16 / 16 ≡ n / 0x1_0000 = omega arith in
      let sixth : n / 0x1_0000 / 16 / 16 ≡ n / 0x100_0000 = omega arith in
      rw (second, fourth, sixth)

  pub hex-digits : to_le_bytes w64 word ≡ digits_of 16 8 n
  unfolding bytes_of pairs
  hex-digits = le-bytes word ∙ rw word_of (bytes-are (pairs xs)) ∙ digits-all

-- sixteen digits are twice eight
pub sixteen-digits : (n : ℕ) → digits_of 16 16 n ≡ digits_of 16 8 (n / 0x1_0000_0000) ++ digits_of 16 8 n
unfolding digits_of
sixteen-digits n =
    let e : n / 16 / 16 / 16 / 16 / 16 / 16 / 16 / 16 ≡ n / 0x1_0000_0000 = omega arith in
    rw e

-- a number below ten is its decimal digit behind seven zeros
pub single-digit : (n : ℕ) → n < 10 → digits_of 16 8 n ≡ bytes "0000000" ++ digits_of 10 1 n
unfolding digits_of
single-digit n h =
    let z : n / 16 ≡ 0 = omega arith in
    let e : n % 16 ≡ n % 10 = omega arith in
    rw (z, e)
