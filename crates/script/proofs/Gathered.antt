-- Eight digits, each in a byte, gathered into one number: first each two of them, then each two pairs, then both halves.
use mathlib.Core.Path.{◌≡◌, ap, ap₂, ◌∙◌}
use Prim.Native.Nat.{ℕ, ◌+◌, ◌*◌, ◌/◌, ◌%◌, ◌^◌, ◌<◌}
use native.Mathlib.Omega.{arith}
use lib.Bits.{bit_and, and_block, and_mask}
use lib.Dec.{lit<}
use lib.Pow.{low}

-- all bits of the lower byte of each two, and of the lower two of each four
abbrev pub lower_bytes : ℕ
lower_bytes = 0x00ff_00ff_00ff_00ff

abbrev pub lower_pairs : ℕ
lower_pairs = 0x0000_ffff_0000_ffff

lower-bytes : (a b c d : ℕ) → b < 65536 → c < 65536 → d < 65536
    → bit_and (((a * 65536 + b) * 65536 + c) * 65536 + d) lower_bytes
    ≡ ((a % 256 * 65536 + b % 256) * 65536 + c % 256) * 65536 + d % 256
lower-bytes a b c d hb hc hd =
    and_block 16 ((a * 65536 + b) * 65536 + c) 0xff_00ff_00ff d 255 hd (lit< tt)
    ∙ ap₂ (λ (x y : ℕ). x * 65536 + y)
    (and_block 16 (a * 65536 + b) 0xff_00ff c 255 hc (lit< tt)
    ∙ ap₂ (λ (x y : ℕ). x * 65536 + y)
    (and_block 16 a 255 b 255 hb (lit< tt) ∙ ap₂ (λ (x y : ℕ). x * 65536 + y) (and_mask a 8) (and_mask b 8))
    (and_mask c 8))
    (and_mask d 8)

lower-pairs : (a b : ℕ) → b < 4294967296 → bit_and (a * 4294967296 + b) lower_pairs ≡ a % 65536 * 4294967296 + b % 65536
lower-pairs a b h =
    and_block 32 a 65535 b 65535 h (lit< tt) ∙ ap₂ (λ (x y : ℕ). x * 4294967296 + y) (and_mask a 16) (and_mask b 16)

module _ (a b c d e f g h : ℕ) (ha : a < 16) (hb : b < 16) (hc : c < 16) (hd : d < 16) (he : e < 16) (hf : f < 16) (hg : g < 16) (hh : h < 16) where
  -- the digits, each in a byte
  abbrev digits : ℕ
  digits = ((((((a * 256 + b) * 256 + c) * 256 + d) * 256 + e) * 256 + f) * 256 + g) * 256 + h

  spread : digits + digits / 2 ^ 4
      ≡ (((272 * a + b) * 65536 + (4096 * b + 272 * c + d)) * 65536 + (4096 * d + 272 * e + f)) * 65536 + (4096 * f + 272 * g + h)
  spread = omega arith

  pairs : bit_and (digits + digits / 2 ^ 4) lower_bytes
      ≡ (((16 * a + b) * 65536 + (16 * c + d)) * 65536 + (16 * e + f)) * 65536 + (16 * g + h)
  pairs =
      let k : (272 * a + b) % 256 ≡ 16 * a + b = omega arith in
      let l : (4096 * b + 272 * c + d) % 256 ≡ 16 * c + d = omega arith in
      let m : (4096 * d + 272 * e + f) % 256 ≡ 16 * e + f = omega arith in
      let n : (4096 * f + 272 * g + h) % 256 ≡ 16 * g + h = omega arith in
      ap (λ (x : ℕ). bit_and x lower_bytes) spread
      ∙ lower-bytes (272 * a + b) (4096 * b + 272 * c + d) (4096 * d + 272 * e + f) (4096 * f + 272 * g + h) (omega arith) (omega arith) (omega arith)
      ∙ rw (k, l, m, n)

module _ (a b c d : ℕ) (ha : a < 256) (hb : b < 256) (hc : c < 256) (hd : d < 256) where
  abbrev halves : ℕ
  halves = ((a * 65536 + b) * 65536 + c) * 65536 + d

  fours : bit_and (halves + halves / 2 ^ 8) lower_pairs ≡ (256 * a + b) * 4294967296 + (256 * c + d)
  fours =
      let s : halves + halves / 2 ^ 8 ≡ (65792 * a + b) * 4294967296 + (16777216 * b + 65792 * c + d) = omega arith in
      let k : (65792 * a + b) % 65536 ≡ 256 * a + b = omega arith in
      let l : (16777216 * b + 65792 * c + d) % 65536 ≡ 256 * c + d = omega arith in
      ap (λ (x : ℕ). bit_and x lower_pairs) s ∙ lower-pairs (65792 * a + b) (16777216 * b + 65792 * c + d) (omega arith) ∙ rw (k, l)

whole : (a b : ℕ) → a < 65536 → b < 65536
    → (a * 4294967296 + b + (a * 4294967296 + b) / 2 ^ 16) % 4294967296 ≡ 65536 * a + b
whole a b ha hb =
    let q : (a * 4294967296 + b) / 2 ^ 16 ≡ 65536 * a = omega arith in
    let s : a * 4294967296 + b + 65536 * a ≡ a * 2 ^ 32 + (65536 * a + b) = omega arith in
    ap (λ (x : ℕ). (a * 4294967296 + b + x) % 2 ^ 32) q ∙ ap (λ (x : ℕ). x % 2 ^ 32) s ∙ low a 32 (omega arith)

-- the number that has the digits
pub gathered : (a b c d e f g h : ℕ) → a < 16 → b < 16 → c < 16 → d < 16 → e < 16 → f < 16 → g < 16 → h < 16
    → (digits : ℕ) → digits ≡ ((((((a * 256 + b) * 256 + c) * 256 + d) * 256 + e) * 256 + f) * 256 + g) * 256 + h
    → (pairs fours : ℕ) → pairs ≡ bit_and (digits + digits / 2 ^ 4) lower_bytes → fours ≡ bit_and (pairs + pairs / 2 ^ 8) lower_pairs
    → (fours + fours / 2 ^ 16) % 4294967296
    ≡ 16 * (16 * (16 * (16 * (16 * (16 * (16 * (16 * 0 + a) + b) + c) + d) + e) + f) + g) + h
gathered a b c d e f g h ha hb hc hd he hf hg hh ds eds ps fs eps efs =
    let p = eps ∙ ap (λ (x : ℕ). bit_and (x + x / 2 ^ 4) lower_bytes) eds ∙ pairs a b c d e f g h ha hb hc hd he hf hg hh in
    let q = efs ∙ ap (λ (x : ℕ). bit_and (x + x / 2 ^ 8) lower_pairs) p
    ∙ fours (16 * a + b) (16 * c + d) (16 * e + f) (16 * g + h) (omega arith) (omega arith) (omega arith) (omega arith) in
    ap (λ (x : ℕ). (x + x / 2 ^ 16) % 4294967296) q
    ∙ whole (256 * (16 * a + b) + (16 * c + d)) (256 * (16 * e + f) + (16 * g + h)) (omega arith) (omega arith)
    ∙ omega arith
