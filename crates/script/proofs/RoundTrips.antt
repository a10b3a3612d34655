-- A printed number reads back: in decimal, and a word in 8 hexadecimal digits.
use mathlib.Core.Bool.{Bool, true, false}
use mathlib.Core.List.{List, [], ◌∷◌, ◌++◌}
use mathlib.Core.Path.{◌≡◌, refl, ap, ◌∙◌}
use Prim.Native.Nat.{ℕ, zero, suc, ◌+◌, ◌-◌, ◌*◌, ◌/◌, ◌%◌, ◌^◌, ◌≤◌, ◌<◌}
use native.Mathlib.Nat.{div-add-mod', div-lt_iff_lt-mul, mod-lt, mul_comm, pow-suc, pow-zero}
use native.Mathlib.Omega.{arith}
use borrow.Author.Tests.{ne_eqb, le-leb, lt-leb, lt-ltb, ltb-true, ltb-false}
use lib.Dec.{ltb, lit<, lit≤}
use Rattle.std.specs.Prelude.{Some}
use Rattle.script.specs.Numbers.{is_decimal, is_hex, digit, every, value_from, unpadded, hex_of, decimal_of, number_most}
use Rattle.print.specs.Print.{character, digits_of, hex_text, width_in, width_of, decimal_text}
use Rattle.print.proofs.Digits.{digits-length, width_one, width-more, width-holds}

-- ---- one digit

digit-back : (d : ℕ) → d < 16 → digit (character d) ≡ d
digit-back d h = go (ltb d 10) refl
  where
    go : (b : Bool) → ltb d 10 ≡ b → digit (character d) ≡ d
    go true e =
        let l = ltb-true d 10 e in
        rw (e, le-leb (48 + d) 57 (omega arith)) (omega arith)
    go false e =
        let l = ltb-false d 10 e in
        rw (e, lt-leb (97 + (d - 10)) 57 (omega arith)) (omega arith)

decimal_digit : (d : ℕ) → d < 10 → is_decimal (character d) ≡ true
decimal_digit d h = rw (lt-ltb d 10 h, le-leb 48 (48 + d) (omega arith), le-leb (48 + d) 57 (omega arith))

hex-digit : (d : ℕ) → d < 16 → is_hex (character d) ≡ true
hex-digit d h = go (ltb d 10) refl
  where
    go : (b : Bool) → ltb d 10 ≡ b → is_hex (character d) ≡ true
    go true e = rw (decimal_digit d (ltb-true d 10 e))
    go false e =
        let l = ltb-false d 10 e in
        rw (
          e,
          lt-leb (97 + (d - 10)) 57 (omega arith),
          le-leb 48 (97 + (d - 10)) (omega arith),
          le-leb 97 (97 + (d - 10)) (omega arith),
          le-leb (97 + (d - 10)) 102 (omega arith),
        )

-- ---- the digits of a number

every-end : (p : ℕ → Bool) (bs : List ℕ) (b : ℕ) → p b ≡ true → every p (bs ++ (b ∷ [])) ≡ every p bs
unfolding every
every-end p [] b e = rw e
every-end p (a ∷ bs) b e = rw (every-end p bs b e)

value-end : (base n : ℕ) (bs : List ℕ) (b : ℕ) → value_from base n (bs ++ (b ∷ [])) ≡ base * value_from base n bs + digit b
unfolding value_from
value-end base n [] b = refl
value-end base n (a ∷ bs) b = value-end base (base * n + digit a) bs b

module _ (base : ℕ) (low : 0 < base) (high : base ≤ 16) where
  digits-every : (p : ℕ → Bool) → ((d : ℕ) → d < base → p (character d) ≡ true) → (k n : ℕ) → every p (digits_of base k n) ≡ true
  unfolding digits_of every
  digits-every p all zero n = refl
  digits-every p all (suc k) n =
      every-end p (digits_of base k (n / base)) (character (n % base)) (all (n % base) (mod-lt n low)) ∙ digits-every p all k (n / base)

  value-back : (k n : ℕ) → n < base ^ k → value_from base 0 (digits_of base k n) ≡ n
  unfolding digits_of value_from
  value-back zero n h = omega (arith, pow-zero base)
  value-back (suc k) n h =
      let q : n < base ^ k * base = rw (← pow-suc base k) h in
      let r : n % base < base = mod-lt n low in
      value-end base 0 (digits_of base k (n / base)) (character (n % base))
      ∙ rw (value-back k (n / base) ((div-lt_iff_lt-mul low).1 q), digit-back (n % base) (omega arith), mul_comm base (n / base))
      (div-add-mod' n base)

-- ---- a word

pub hex-back : (w : ℕ) → w < 2 ^ 32 → hex_of (hex_text 8 w) ≡ Some w
unfolding hex_of
hex-back w h =
    rw
    (digits-length 16 8 w, digits-every 16 (lit< tt) (lit≤ tt) is_hex hex-digit 8 w, value-back 16 (lit< tt) (lit≤ tt) 8 w h)

-- ---- a number

-- the digits begin with another than 0
pub record Leads (bs : List ℕ) : Type 0 where
  pub first : ℕ
  pub others : List ℕ
  pub split : bs ≡ first ∷ others
  pub other : first ≡ 48 → ⊥

leads : (s n : ℕ) → 0 < n → n ≤ s → Leads (decimal_text n)
unfolding decimal_text digits_of
leads zero n p h = absurd (omega arith)
leads (suc s) n p h = go (ltb n 10) refl (λ q. leads s (n / 10) q (omega arith))
  where
    go : (b : Bool) → ltb n 10 ≡ b → (0 < n / 10 → Leads (digits_of 10 (width_of (n / 10)) (n / 10))) → Leads (digits_of 10 (width_of n) n)
    go true e earlier =
        let l = ltb-true n 10 e in
        let r : n % 10 ≡ n = omega arith in
        rw (width_one n l)
        (record { first = character (n % 10); others = []; split = refl; other = rw (r, e) (omega arith) })
    go false e earlier =
        let m = ltb-false n 10 e in
        let q = earlier (omega arith) in
        let c = character (n % 10) in
        rw (width-more n m)
        (record { first = q.first; others = q.others ++ (c ∷ []); split = ap (λ (l : List ℕ). l ++ (c ∷ [])) q.split; other = q.other })

unpadded-lead : (b : ℕ) (bs : List ℕ) → (b ≡ 48 → ⊥) → unpadded (b ∷ bs) ≡ true
unpadded-lead b [] h = refl
unpadded-lead b (c ∷ bs) h = rw (ne_eqb b 48 h)

unpadded-text : (n : ℕ) → unpadded (decimal_text n) ≡ true
unfolding decimal_text digits_of width_of width_in
unpadded-text zero = refl
unpadded-text (suc n) =
    let l = leads (suc n) (suc n) (omega arith) (omega arith) in
    ap unpadded l.split ∙ unpadded-lead l.first l.others l.other

decimal-value : (n : ℕ) → value_from 10 0 (decimal_text n) ≡ n
unfolding decimal_text
decimal-value n = value-back 10 (lit< tt) (lit≤ tt) (width_of n) n (width-holds n)

decimal-digits : (n : ℕ) → every is_decimal (decimal_text n) ≡ true
unfolding decimal_text
decimal-digits n = digits-every 10 (lit< tt) (lit≤ tt) is_decimal decimal_digit (width_of n) n

pub decimal-back : (n : ℕ) → n ≤ number_most → decimal_of (decimal_text n) ≡ Some n
unfolding decimal_of
decimal-back n h = rw (unpadded-text n, decimal-digits n, decimal-value n, le-leb n number_most h)
