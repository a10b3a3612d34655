-- A line that begins, from a place on, with a keyword: its first four bytes compared at once, and the others one by one.
use mathlib.Core.Bool.{Bool, true, false, ◌&&◌}
use mathlib.Core.List.{List}
use mathlib.Core.Path.{◌≡◌, refl, sym, ap, ◌∙◌}
use Prim.Native.Nat.{ℕ, ◌+◌, ◌≤◌, ◌<◌}
use native.Mathlib.Nat.{add-zero}
use native.Mathlib.Omega.{arith}
use borrow.Author.Tests.{eq-eqb, ne_eqb, eqb-true}
use lib.Dec.{eqb}
use lib.ListN.{length, get_or, take, drop, length-drop}
use lib.Seq.{get_or-drop, get_or-take, length-take-le, take_all}
use Rattle.script.specs.Fields.{same}
use Rattle.script.specs.Places.{begins_at, four_at}
use Rattle.script.proofs.Told.{both_true}
use Rattle.script.proofs.Same.{same-unequal, same_step, same_end}

module _ (line : List ℕ) (p : ℕ) (word : List ℕ) where
  pub begins-short : 0 < length word → length line < p + length word → false ≡ begins_at line p word
  begins-short some h =
      let l : length (drop p line) < length word = omega (arith, some, length-drop p line) in
      let e = take_all (length word) (drop p line) (omega (arith, l)) in
      sym (rw e (same-unequal (drop p line) word (λ q. omega (arith, l, q))))

  -- the comparison from byte i of the word on
  abbrev pub left : ℕ → Bool
  left i = same (drop i (take (length word) (drop p line))) (drop i word)

  module _ (within : p + length word ≤ length line) where
    long : length (take (length word) (drop p line)) ≡ length word
    long = length-take-le (length word) (drop p line) (omega (arith, within, length-drop p line))

    byte : (i : ℕ) → i < length word → get_or (take (length word) (drop p line)) i 0 ≡ get_or line (p + i) 0
    byte i h = get_or-take (length word) (drop p line) i 0 h ∙ get_or-drop p line i 0

    next : (i : ℕ) → i < length word → left i ≡ (eqb (get_or line (p + i) 0) (get_or word i 0) && left (i + 1))
    next i h =
        same_step (take (length word) (drop p line)) word i (omega (arith, long)) h
        ∙ ap (λ (b : ℕ). eqb b (get_or word i 0) && left (i + 1)) (byte i h)

    pub begins-differs : (i : ℕ) → i < length word → (get_or line (p + i) 0 ≡ get_or word i 0 → ⊥) → left i ≡ false
    begins-differs i h k = next i h ∙ rw (ne_eqb (get_or line (p + i) 0) (get_or word i 0) k)

    pub begins-step : (i : ℕ) → i < length word → get_or line (p + i) 0 ≡ get_or word i 0 → left (i + 1) ≡ left i
    begins-step i h k = sym (next i h ∙ rw (eq-eqb (get_or line (p + i) 0) (get_or word i 0) k))

    pub begins-all : (i : ℕ) → length word ≤ i → left i ≡ true
    begins-all i h = same_end (take (length word) (drop p line)) word i (omega (arith, long)) h

    module _ (four : 4 ≤ length word) where
      first : left 0 ≡ (eqb (get_or line p 0) (get_or word 0 0) && left 1)
      first = next 0 (omega (arith, four)) ∙ ap (λ (i : ℕ). eqb (get_or line i 0) (get_or word 0 0) && left 1) (add-zero p)

      pub begins-four : ((i : ℕ) → get_or line i 0 < 256) → ((i : ℕ) → get_or word i 0 < 256) → four_at line p ≡ four_at word 0 → left 4 ≡ left 0
      begins-four bytes known e =
          let a0 : get_or line p 0 ≡ get_or word 0 0 = omega (arith, e, bytes p, bytes (p + 1), bytes (p + 2), bytes (p + 3), known 0, known 1, known 2, known 3) in
          let a1 : get_or line (p + 1) 0 ≡ get_or word 1 0 = omega (arith, e, a0, bytes (p + 1), bytes (p + 2), bytes (p + 3), known 1, known 2, known 3) in
          let a2 : get_or line (p + 2) 0 ≡ get_or word 2 0 = omega (arith, e, a0, a1, bytes (p + 2), bytes (p + 3), known 2, known 3) in
          let a3 : get_or line (p + 3) 0 ≡ get_or word 3 0 = omega (arith, e, a0, a1, a2) in
          begins-step 3 (omega (arith, four)) a3 ∙ begins-step 2 (omega (arith, four)) a2 ∙ begins-step 1 (omega (arith, four)) a1
          ∙ sym (first ∙ rw (eq-eqb (get_or line p 0) (get_or word 0 0) a0))

      pub begins-other : (four_at line p ≡ four_at word 0 → ⊥) → false ≡ left 0
      begins-other k = go (left 0) refl
        where
          go : (t : Bool) → left 0 ≡ t → false ≡ left 0
          go false e = sym e
          go true e =
              let k0 = both_true (eqb (get_or line p 0) (get_or word 0 0)) (left 1) (sym first ∙ e) in
              let k1 = both_true (eqb (get_or line (p + 1) 0) (get_or word 1 0)) (left 2) (sym (next 1 (omega (arith, four))) ∙ k0.1) in
              let k2 = both_true (eqb (get_or line (p + 2) 0) (get_or word 2 0)) (left 3) (sym (next 2 (omega (arith, four))) ∙ k1.1) in
              let k3 = both_true (eqb (get_or line (p + 3) 0) (get_or word 3 0)) (left 4) (sym (next 3 (omega (arith, four))) ∙ k2.1) in
              absurd
              (k
              (omega (
                arith,
                eqb-true (get_or line p 0) (get_or word 0 0) k0.0,
                eqb-true (get_or line (p + 1) 0) (get_or word 1 0) k1.0,
                eqb-true (get_or line (p + 2) 0) (get_or word 2 0) k2.0,
                eqb-true (get_or line (p + 3) 0) (get_or word 3 0) k3.0,
              )))
