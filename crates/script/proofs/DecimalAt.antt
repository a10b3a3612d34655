-- Reading a decimal number digit by digit up to where its field ends: what is read so far and the rest of the field say what the field says.
use mathlib.Core.Bool.{Bool, true, false, not, ◌&&◌, ◌||◌, and-false, false≢true}
use mathlib.Core.List.{List, [], ◌∷◌}
use mathlib.Core.Path.{◌≡◌, refl, sym, ap, ap₂, ◌∙◌}
use Prim.Native.Nat.{ℕ, ◌+◌, ◌-◌, ◌*◌, ◌≤◌, ◌<◌}
use native.Mathlib.Omega.{arith}
use borrow.Author.Tests.{eq-eqb, ne_eqb, le-leb, lt-leb, leb-true, eqb-true, eqb-false}
use lib.Dec.{eqb, leb}
use lib.ListN.{length, get_or}
use Rattle.std.specs.Bool.{then_some}
use Rattle.std.specs.Prelude.{Option, Some, None, option_map}
use Rattle.script.specs.Fields.{tab}
use Rattle.script.specs.Numbers.{is_decimal, digit, every, value_from, unpadded, decimal_of, number_most}
use Rattle.script.specs.Places.{field_from, end_from, decimal_at}
use Rattle.script.proofs.Told.{both_true}
use Rattle.script.proofs.Places.{field-tab, field_end, field-other, from-tab, from_end, from-other}

-- ---- one digit

pub decimal-bounds : (b : ℕ) → is_decimal b ≡ true → (48 ≤ b) × (b ≤ 57)
decimal-bounds b h =
    let p = both_true (leb 48 b) (leb b 57) h in
    (leb-true 48 b p.0, leb-true b 57 p.1)

decimal_digit : (b : ℕ) → is_decimal b ≡ true → b - 48 ≡ digit b
decimal_digit b h = rw (le-leb b 57 (decimal-bounds b h).1)

-- ---- the digits after the first

-- after a zero there is none
abbrev leads : ℕ → List ℕ → Bool
leads n [] = true
leads n (b ∷ bs) = not (eqb n 0)

-- n is read, and bs are left
abbrev goes_on : ℕ → List ℕ → Option ℕ
goes_on n bs = then_some (leads n bs && every is_decimal bs && leb (value_from 10 n bs) number_most) (value_from 10 n bs)

-- the same, of the field from place i on
abbrev pub reads_on : List ℕ → ℕ → ℕ → Option (ℕ × ℕ)
reads_on line n i = option_map (λ v. (v, end_from line i)) (goes_on n (field_from line i))

unpadded-leads : (b : ℕ) (bs : List ℕ) → is_decimal b ≡ true → unpadded (b ∷ bs) ≡ leads (b - 48) bs
unpadded-leads b [] h = refl
unpadded-leads b (c ∷ bs) h = go (eqb b 48) refl
  where
    go : (t : Bool) → eqb b 48 ≡ t → not (eqb b 48) ≡ not (eqb (b - 48) 0)
    go true e = rw (e, eq-eqb (b - 48) 0 (omega (arith, eqb-true b 48 e)))
    go false e = rw (e, ne_eqb (b - 48) 0 (λ q. eqb-false b 48 e (omega (arith, q, decimal-bounds b h))))

first-digit : (b : ℕ) (bs : List ℕ) → is_decimal b ≡ true → decimal_of (b ∷ bs) ≡ goes_on (b - 48) bs
unfolding decimal_of every value_from
first-digit b bs h =
    let z : 10 * 0 + digit b ≡ b - 48 = omega (arith, decimal_digit b h) in
    rw (unpadded-leads b bs h, h)
    (ap (λ (v : ℕ). then_some (leads (b - 48) bs && every is_decimal bs && leb (value_from 10 v bs) number_most) (value_from 10 v bs)) z)

no_digit : (b : ℕ) (bs : List ℕ) → is_decimal b ≡ false → decimal_of (b ∷ bs) ≡ None
unfolding decimal_of every
no_digit b [] h = rw h
no_digit b (c ∷ bs) h = rw (h, and-false (not (eqb b 48)))

-- past a digit the number is not zero
lead-on : (n : ℕ) (bs : List ℕ) → 0 < n → leads n bs ≡ true
lead-on n [] h = refl
lead-on n (b ∷ bs) h = rw (ne_eqb n 0 (λ e. omega arith))

next-digit : (n b : ℕ) (bs : List ℕ) → 0 < n → is_decimal b ≡ true → goes_on (10 * n + (b - 48)) bs ≡ goes_on n (b ∷ bs)
unfolding every value_from
next-digit n b bs l h =
    let z : 10 * n + (b - 48) ≡ 10 * n + digit b = ap (λ (d : ℕ). 10 * n + d) (decimal_digit b h) in
    rw (lead-on (10 * n + (b - 48)) bs (omega arith), ne_eqb n 0 (λ e. omega arith), h)
    (ap (λ (v : ℕ). then_some (every is_decimal bs && leb (value_from 10 v bs) number_most) (value_from 10 v bs)) z)

no-next : (n b : ℕ) (bs : List ℕ) → (eqb n 0 || not (is_decimal b)) ≡ true → goes_on n (b ∷ bs) ≡ None
unfolding every
no-next n b bs h = go (eqb n 0) (is_decimal b) refl h
  where
    go : (t u : Bool) → is_decimal b ≡ u → (t || not u) ≡ true
        → then_some (not t && (u && every is_decimal bs) && leb (value_from 10 n (b ∷ bs)) number_most) (value_from 10 n (b ∷ bs)) ≡ None
    go true u e k = refl
    go false true e k = absurd (false≢true k)
    go false false e k = refl

value_grows : (n : ℕ) (bs : List ℕ) → n ≤ value_from 10 n bs
unfolding value_from
value_grows n [] = omega arith
value_grows n (b ∷ bs) = omega (arith, value_grows (10 * n + digit b) bs)

too_large : (n : ℕ) (bs : List ℕ) → number_most < n → goes_on n bs ≡ None
too_large n bs h =
    rw (lt-leb (value_from 10 n bs) number_most (omega (arith, value_grows n bs)), and-false (leads n bs && every is_decimal bs))

all_read : (n : ℕ) → n ≤ number_most → goes_on n [] ≡ Some n
unfolding every value_from
all_read n h = rw (le-leb n number_most h)

-- ---- the field at a place

module _ (line : List ℕ) (p : ℕ) where
  pub decimal-past : length line ≤ p → None ≡ decimal_at line p
  unfolding decimal_at decimal_of
  decimal-past h = rw (field_end line p h)

  pub decimal-none : p < length line → is_decimal (get_or line p 0) ≡ false → None ≡ decimal_at line p
  unfolding decimal_at decimal_of
  decimal-none h e = go (eqb (get_or line p 0) tab) refl
    where
      go : (t : Bool) → eqb (get_or line p 0) tab ≡ t → None ≡ decimal_at line p
      go true q = rw (field-tab line p h (eqb-true (get_or line p 0) tab q))
      go false q = rw (field-other line p h (eqb-false (get_or line p 0) tab q), no_digit (get_or line p 0) (field_from line (p + 1)) e)

  pub decimal-begin : p < length line → is_decimal (get_or line p 0) ≡ true
      → reads_on line (get_or line p 0 - 48) (p + 1) ≡ decimal_at line p
  unfolding decimal_at
  decimal-begin h e =
      let n : get_or line p 0 ≡ tab → ⊥ = λ q. omega (arith, q, decimal-bounds (get_or line p 0) e) in
      ap₂ (λ (v : Option ℕ) (j : ℕ). option_map (λ m. (m, j)) v)
      (sym (ap decimal_of (field-other line p h n) ∙ first-digit (get_or line p 0) (field_from line (p + 1)) e)) (from-other line p h n)

module _ (line : List ℕ) (n i : ℕ) where
  pub decimal-tab : i < length line → get_or line i 0 ≡ tab → n ≤ number_most → Some (n, i) ≡ reads_on line n i
  decimal-tab h e l = rw (sym (from-tab line i h e), field-tab line i h e, all_read n l)

  pub decimal-end : length line ≤ i → n ≤ number_most → Some (n, i) ≡ reads_on line n i
  decimal-end h l = rw (sym (from_end line i h), field_end line i h, all_read n l)

  pub decimal-stop : i < length line → (get_or line i 0 ≡ tab → ⊥) → (eqb n 0 || not (is_decimal (get_or line i 0))) ≡ true
      → None ≡ reads_on line n i
  decimal-stop h e k = rw (field-other line i h e, no-next n (get_or line i 0) (field_from line (i + 1)) k)

  pub decimal_step : i < length line → (get_or line i 0 ≡ tab → ⊥) → 0 < n → is_decimal (get_or line i 0) ≡ true
      → reads_on line (10 * n + (get_or line i 0 - 48)) (i + 1) ≡ reads_on line n i
  decimal_step h e l k =
      ap₂ (λ (v : Option ℕ) (j : ℕ). option_map (λ m. (m, j)) v)
      (next-digit n (get_or line i 0) (field_from line (i + 1)) l k ∙ ap (goes_on n) (sym (field-other line i h e))) (from-other line i h e)

  pub decimal-over : number_most < n → None ≡ reads_on line n i
  decimal-over h = rw (too_large n (field_from line i) h)
