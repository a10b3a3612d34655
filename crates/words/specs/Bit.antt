-- Bits of a number, and numbers made of bits. n is the width of a word: 32 for a u32, 64 for a u64.
use Rattle.std.specs.Prelude.{Bool, true, false, not, ◌&&◌, ◌||◌, cond, ℕ, zero, suc, ◌+◌, ◌*◌, ◌/◌, ◌%◌, ◌^◌, eqb}

-- bit k of x
abbrev pub bit : ℕ → ℕ → Bool
bit x k = eqb (x / 2 ^ k % 2) 1

-- the number of a bit
abbrev pub one : Bool → ℕ
one true = 1
one false = 0

-- the number below 2 ^ n whose bit k is p k
abbrev pub word : ℕ → (ℕ → Bool) → ℕ
word zero p = 0
word (suc n) p = one (p n) * 2 ^ n + word n p

-- the wide bits of x from bit at
abbrev pub field : ℕ → ℕ → ℕ → ℕ
field x at wide = x / 2 ^ at % 2 ^ wide

-- x's bits where mask has one
unfoldable pub masked : ℕ → ℕ → ℕ → ℕ
masked n x mask = word n (λ i. bit mask i && bit x i)

-- x's bits where mask has none
unfoldable pub less : ℕ → ℕ → ℕ → ℕ
less n x mask = word n (λ i. bit x i && not (bit mask i))

-- old, with new's bits where mask has one
unfoldable pub merged : ℕ → ℕ → ℕ → ℕ → ℕ
merged n old new mask = word n (λ i. cond (bit mask i) (bit new i) (bit old i))

-- the bits of x and those of y
unfoldable pub united : ℕ → ℕ → ℕ → ℕ
united n x y = word n (λ i. bit x i || bit y i)

-- x, with b as bit k
unfoldable pub with_bit : ℕ → ℕ → ℕ → Bool → ℕ
with_bit n x k b = word n (λ i. cond (eqb i k) b (bit x i))
