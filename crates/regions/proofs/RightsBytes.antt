-- The rights word is made of bytes, each worked out at once for all compartments.
use mathlib.Core.Bool.{Bool, true, false, not, ◌&&◌, ◌||◌, and_comm}
use mathlib.Core.List.{List}
use mathlib.Core.Path.{◌≡◌, sym, ap, ap₂, ◌∙◌, subst}
use Prim.Native.Nat.{ℕ, zero, suc, ◌+◌, ◌-◌, ◌*◌, ◌%◌, ◌^◌, ◌≤◌, ◌<◌}
use native.Mathlib.Nat.{add_assoc, add-mul, mul_assoc, mul_comm, mod-lt}
use native.Mathlib.Numerals.{unary_clauses}
use native.Mathlib.Omega.{arith}
use lib.Bits.{bit_and}
use lib.Pow.{pow-add}
use Rattle.words.specs.Bit.{bit, one, word}
use Rattle.words.proofs.Laws.{bit-mod, bit-zero, word-cong, word-ext, word_lt}
use Rattle.words.proofs.Ops.{bit-and, bit_not}
use Rattle.access.specs.Kind.{kind_of, rights_bit}
use Rattle.access.specs.declared.bus.Bus.{Bus}
use Rattle.access.specs.declared.kind.Kind.{Kind}
use Rattle.regions.specs.Admits.{admitted, as_heard, admits_security, open_to, tests_of, verdict_of, rights_from, byte_at, byte_of}
use Rattle.regions.specs.Rights.{rights_word}
use Rattle.regions.specs.Rules.{granted}
use Rattle.regions.specs.declared.admits.Admits.{Admits}
use Rattle.regions.proofs.AdmitsTests.{verdict-is, as-heard}
use Rattle.regions.proofs.Granted.{all_pass}
use Rattle.regions.proofs.RightsBits.{kind-place}

-- ---- parts of the word

-- the word of n bits, and k above them
word-join : (n k : ℕ) (p : ℕ → Bool) → word k (λ i. p (n + i)) * 2 ^ n + word n p ≡ word (n + k) p
word-join n zero p = simp unary_clauses (omega arith)
word-join n (suc k) p =
    simp unary_clauses
    (ap (λ (x : ℕ). x + word n p) (add-mul (one (p (n + k)) * 2 ^ k) (word k (λ i. p (n + i))) (2 ^ n))
    ∙ add_assoc (one (p (n + k)) * 2 ^ k * 2 ^ n) (word k (λ i. p (n + i)) * 2 ^ n) (word n p)
    ∙ ap₂ ◌+◌
    (mul_assoc (one (p (n + k))) (2 ^ k) (2 ^ n)
    ∙ ap (λ (x : ℕ). one (p (n + k)) * x) (mul_comm (2 ^ k) (2 ^ n) ∙ sym (pow-add 2 n k)))
    (word-join n k p))

module _ (a : Admits) where
  abbrev grants : Kind → Bool
  grants k = granted (verdict_of a k)

  pub rights-lt : (at n : ℕ) {r : ℕ} → r ≡ rights_from a at n → r < 2 ^ n
  unfolding rights_from
  rights-lt at n e = subst (λ (x : ℕ). x < 2 ^ n) (sym e) (word_lt n _)

  -- the code's two parts, one above the other
  pub rights-join : (at up n k : ℕ) {lo hi : ℕ} → up ≡ at + n → hi ≡ rights_from a up k → lo ≡ rights_from a at n
      → hi * 2 ^ n + lo ≡ rights_from a at (n + k)
  unfolding rights_from
  rights-join at up n k e eh el =
      ap₂ (λ (h l : ℕ). h * 2 ^ n + l)
      (eh ∙ word-cong k _ _ (λ i h. ap (λ (b : ℕ). grants (kind_of b)) (ap (λ (u : ℕ). u + i) e ∙ add_assoc at n i))) el
      ∙ word-join n k (λ i. grants (kind_of (at + i)))

-- the theorem: each bit is the verdict on its kind of asking
pub rights-admitted : (bus : Bus) (w : List ℕ) (n o : ℕ) → rights_from (as_heard bus (admitted bus w n o)) 0 64 ≡ rights_word bus w n o
unfolding rights_from rights_word
rights-admitted bus w n o =
    word-cong 64 _ _
    (λ b h.
    let e : 0 + b ≡ b = omega arith in
    let c : (kind_of b).cid.0 ≤ 7 = omega arith in
    ap (λ (i : ℕ). grants (as_heard bus (admitted bus w n o)) (kind_of i)) e
    ∙ ap granted (as-heard bus (admitted bus w n o) (kind_of b) c ∙ verdict-is bus w n o (kind_of b) c))

-- ---- the compartments of a byte

module _ (a : Admits) (w p s : Bool) where
  abbrev asking : ℕ → Kind
  asking c = record { cid = record { 0 = c }; write = w; privileged = p; secure = s }

  byte-by : (x : ℕ) → x < 2 ^ 8
      → ((c : ℕ) → c < 8 → bit x c ≡ (admits_security a s && (p || not (bit a.closed c)) && bit (open_to a w) c))
      → x ≡ byte_of a w p s
  unfolding rights_from verdict_of tests_of
  byte-by x l each =
      word-ext 8 x _ l
      (λ c h.
      let e : byte_at w p s + c ≡ rights_bit (asking c) = omega arith in
      each c h ∙ sym (all_pass (tests_of a (asking c))) ∙ ap (grants a) (sym (ap kind_of e ∙ kind-place (asking c) (omega arith))))

  pub byte-none : admits_security a s ≡ false → 0 ≡ byte_of a w p s
  byte-none e =
      byte-by 0 (omega arith) (λ c h. bit-zero c ∙ sym (ap (λ (b : Bool). b && (p || not (bit a.closed c)) && bit (open_to a w) c) e))

  pub byte-privileged : admits_security a s ≡ true → p ≡ true → open_to a w % 2 ^ 8 ≡ byte_of a w p s
  byte-privileged e f =
      byte-by (open_to a w % 2 ^ 8) (mod-lt _ (omega arith))
      (λ c h.
      bit-mod 8 (open_to a w) c h
      ∙ sym (ap₂ (λ (b q : Bool). b && (q || not (bit a.closed c)) && bit (open_to a w) c) e f))

  pub byte-unprivileged : admits_security a s ≡ true → p ≡ false → a.closed < 2 ^ 32
      → bit_and (open_to a w) ((2 ^ 32 - 1) - a.closed) % 2 ^ 8 ≡ byte_of a w p s
  byte-unprivileged e f l =
      byte-by _ (mod-lt _ (omega arith))
      (λ c h.
      bit-mod 8 _ c h ∙ bit-and (open_to a w) _ c
      ∙ ap (λ (b : Bool). bit (open_to a w) c && b) (bit_not 32 a.closed c l (omega arith))
      ∙ and_comm (bit (open_to a w) c) (not (bit a.closed c))
      ∙ sym (ap₂ (λ (b q : Bool). b && (q || not (bit a.closed c)) && bit (open_to a w) c) e f))
