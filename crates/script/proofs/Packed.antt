-- Bytes packed in one number, the first the highest: what is done to the number is done to each byte.
use mathlib.Core.Bool.{Bool, true, false, ◌&&◌, and_assoc}
use mathlib.Core.List.{List, [], ◌∷◌}
use mathlib.Core.Path.{◌≡◌, refl, sym, ap, ◌∙◌}
use Prim.Native.Nat.{ℕ, ◌+◌, ◌*◌, ◌<◌}
use native.Mathlib.Nat.{mul-add, mul_assoc}
use native.Mathlib.Omega.{arith}
use borrow.Author.Tests.{eq-eqb, ne_eqb, eqb-true, eqb-false}
use lib.Bits.{bit_and, and_block}
use lib.Dec.{eqb}
use Rattle.script.specs.Numbers.{every}

-- what f makes of each byte, packed behind n
abbrev pub packed : (ℕ → ℕ) → ℕ → List ℕ → ℕ
packed f n [] = n
packed f n (b ∷ bs) = packed f (n * 256 + f b) bs

abbrev pub Bytes : List ℕ → Type 0
Bytes [] = Unit
Bytes (b ∷ bs) = (b < 256) × Bytes bs

-- f makes a byte of each byte
abbrev pub Byte : (ℕ → ℕ) → Type 0
Byte f = (b : ℕ) → b < 256 → f b < 256

pub packed-same : (f g : ℕ → ℕ) → ((b : ℕ) → b < 256 → f b ≡ g b) → (n : ℕ) (bs : List ℕ) → Bytes bs → packed f n bs ≡ packed g n bs
packed-same f g e n [] h = refl
packed-same f g e n (b ∷ bs) h = rw (e b h.0) (packed-same f g e (n * 256 + g b) bs h.1)

pub packed-and : (f : ℕ → ℕ) (k : ℕ) → Byte f → k < 256 → (n m : ℕ) (bs : List ℕ) → Bytes bs
    → bit_and (packed f n bs) (packed (λ b. k) m bs) ≡ packed (λ b. bit_and (f b) k) (bit_and n m) bs
packed-and f k l u n m [] h = refl
packed-and f k l u n m (b ∷ bs) h =
    packed-and f k l u (n * 256 + f b) (m * 256 + k) bs h.1
    ∙ ap (λ (x : ℕ). packed (λ b. bit_and (f b) k) x bs) (and_block 8 n m (f b) k (l b h.0) u)

pub packed-add : (f g : ℕ → ℕ) (n m : ℕ) (bs : List ℕ) → packed f n bs + packed g m bs ≡ packed (λ b. f b + g b) (n + m) bs
packed-add f g n m [] = refl
packed-add f g n m (b ∷ bs) =
    let e : n * 256 + f b + (m * 256 + g b) ≡ (n + m) * 256 + (f b + g b) = omega arith in
    packed-add f g (n * 256 + f b) (m * 256 + g b) bs ∙ ap (λ (x : ℕ). packed (λ b. f b + g b) x bs) e

pub packed-mul : (c : ℕ) (f : ℕ → ℕ) (n : ℕ) (bs : List ℕ) → c * packed f n bs ≡ packed (λ b. c * f b) (c * n) bs
packed-mul c f n [] = refl
packed-mul c f n (b ∷ bs) =
    packed-mul c f (n * 256 + f b) bs
    ∙ ap (λ (x : ℕ). packed (λ b. c * f b) x bs) (mul-add c (n * 256) (f b) ∙ ap (λ (x : ℕ). x + c * f b) (sym (mul_assoc c n 256)))

-- two bytes compared behind what was compared before
both : (n m a b : ℕ) → a < 256 → b < 256 → eqb (n * 256 + a) (m * 256 + b) ≡ (eqb n m && eqb a b)
both n m a b h k = go (eqb n m) refl (eqb a b) refl
  where
    go : (t : Bool) → eqb n m ≡ t → (u : Bool) → eqb a b ≡ u → eqb (n * 256 + a) (m * 256 + b) ≡ (t && u)
    go true e true q = eq-eqb (n * 256 + a) (m * 256 + b) (omega (arith, eqb-true n m e, eqb-true a b q))
    go true e false q = ne_eqb (n * 256 + a) (m * 256 + b) (λ r. eqb-false a b q (omega (arith, r)))
    go false e u q = ne_eqb (n * 256 + a) (m * 256 + b) (λ r. eqb-false n m e (omega (arith, r)))

pub packed-eqb : (f g : ℕ → ℕ) → Byte f → Byte g → (n m : ℕ) (bs : List ℕ) → Bytes bs
    → eqb (packed f n bs) (packed g m bs) ≡ (eqb n m && every (λ b. eqb (f b) (g b)) bs)
unfolding every
packed-eqb f g l u n m [] h = go (eqb n m)
  where
    go : (t : Bool) → t ≡ (t && true)
    go true = refl
    go false = refl
packed-eqb f g l u n m (b ∷ bs) h =
    packed-eqb f g l u (n * 256 + f b) (m * 256 + g b) bs h.1
    ∙ ap (λ (t : Bool). t && every (λ b. eqb (f b) (g b)) bs) (both n m (f b) (g b) (l b h.0) (u b h.0))
    ∙ and_assoc (eqb n m) (eqb (f b) (g b)) (every (λ b. eqb (f b) (g b)) bs)
