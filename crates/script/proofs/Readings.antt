-- The fields of a line read one after the other: what a field says that starts at a place, and where the next starts.
use mathlib.Core.Bool.{Bool, true, false, cond}
use mathlib.Core.List.{List, [], ◌∷◌, ◌++◌}
use mathlib.Core.Path.{◌≡◌, refl, sym, ap, ◌∙◌}
use Prim.Native.Nat.{ℕ, suc, ◌+◌, ◌≤◌, ◌<◌}
use native.Mathlib.Numerals.{add-one}
use native.Mathlib.Omega.{arith}
use borrow.Author.Tests.{eq-eqb, ne_eqb, eqb-true, eqb-false, ltb-true, ltb-false}
use lib.Dec.{eqb, ltb}
use lib.ListN.{length, drop, replicate, length-append, length-replicate}
use Rattle.std.proofs.lemmas.Option.{none-some, some_pair_parts}
use Rattle.std.specs.Prelude.{Option, Some, None, option_map}
use Rattle.device.specs.declared.event.Operation.{Operation}
use Rattle.script.specs.Command.{◌>>=◌}
use Rattle.script.specs.Fields.{tab, field_at}
use Rattle.script.specs.Numbers.{hex_of, decimal_of, either_of, operation_of}
use Rattle.script.specs.Places.{rest_at, field_from, end_from, decimal_at, Starts}
use Rattle.script.proofs.Fixed.{Fixed, its-length, hex-fixed, either-fixed, operation-fixed}
use Rattle.script.proofs.Told.{told}
use Rattle.script.proofs.Places.{some-there, starts-begin, starts-field, starts-next, its-count, other-count}

pub either_way {ℓ} : {A : Type ℓ} (t : Bool) (a : A) → a ≡ cond t a a
either_way true a = refl
either_way false a = refl

-- ---- one field, and the place of the next

module _ {line : List ℕ} {fs : List (List ℕ)} {k p : ℕ} (s : Starts line fs k p) where
  fixed-next : {R : Type 0} {n : ℕ} {read : List ℕ → Option R} → Fixed n read → {v : R} → read (field_at fs k) ≡ Some v
      → Starts line fs (suc k) (suc (p + n))
  fixed-next {read = read} f h =
      let e = its-length f line p (ap read (starts-field s) ∙ h) in
      rw e at (starts-next s (some-there line p (omega (arith, f.some))))

  pub hex-next : {v : ℕ} → hex_of (field_at fs k) ≡ Some v → Starts line fs (suc k) (p + 9)
  hex-next e =
      let q : p + 9 ≡ suc (p + 8) = omega arith in
      rw q (fixed-next hex-fixed e)

  pub either-next : (this that : ℕ) → tab < this → tab < that → {t : Bool} → either_of this that (field_at fs k) ≡ Some t
      → Starts line fs (suc k) (p + 2)
  either-next this that l m e =
      let q : p + 2 ≡ suc (p + 1) = omega arith in
      rw q (fixed-next (either-fixed this that l m) e)

  pub operation-next : {o : Operation} → operation_of (field_at fs k) ≡ Some o → Starts line fs (suc k) (p + 2)
  operation-next e =
      let q : p + 2 ≡ suc (p + 1) = omega arith in
      rw q (fixed-next operation-fixed e)

  pub decimal-none : {r : Option (ℕ × ℕ)} → r ≡ decimal_at line p → r ≡ None → decimal_of (field_at fs k) ≡ None
  unfolding decimal_at
  decimal-none q e = ap decimal_of (sym (starts-field s)) ∙ go (decimal_of (field_from line p)) (told q e)
    where
      go : (n : Option ℕ) → option_map {U = ℕ × ℕ} (λ v. (v, end_from line p)) n ≡ None → n ≡ None
      go None u = refl
      go (Some n) u = cc

  decimal-is : {r : Option (ℕ × ℕ)} {v e : ℕ} → r ≡ decimal_at line p → r ≡ Some (v, e) → (decimal_of (field_from line p) ≡ Some v) × (end_from line p ≡ e)
  unfolding decimal_at
  decimal-is {v = v} {e = e} q u = go (decimal_of (field_from line p)) (told q u)
    where
      go : (n : Option ℕ) → option_map {U = ℕ × ℕ} (λ v. (v, end_from line p)) n ≡ Some (v, e) → (n ≡ Some v) × (end_from line p ≡ e)
      go None u = cc
      go (Some n) u = let d = some_pair_parts n v (end_from line p) e u in (ap Some d.0, d.1)

  pub decimal-read : {r : Option (ℕ × ℕ)} {v e : ℕ} → r ≡ decimal_at line p → r ≡ Some (v, e) → decimal_of (field_at fs k) ≡ Some v
  decimal-read q u = ap decimal_of (sym (starts-field s)) ∙ (decimal-is q u).0

  pub decimal-next : {r : Option (ℕ × ℕ)} {v e : ℕ} → r ≡ decimal_at line p → r ≡ Some (v, e) → Starts line fs (suc k) (e + 1)
  unfolding decimal_of
  decimal-next {v = v} {e = e} q u = go (field_from line p) refl (decimal-is q u)
    where
      go : (f : List ℕ) → field_from line p ≡ f → (decimal_of (field_from line p) ≡ Some v) × (end_from line p ≡ e)
          → Starts line fs (suc k) (e + 1)
      go [] h d = absurd (none-some v (sym (ap decimal_of h) ∙ d.0))
      go (b ∷ f) h d = rw (add-one, sym d.1) (starts-next s (some-there line p (omega (arith, ap length h))))

-- ---- the fields not read yet

-- the field at a place, and the fields behind it
pub split-first : {line : List ℕ} (p : ℕ) {q : ℕ} → Starts line (rest_at p line) 1 q → rest_at p line ≡ field_at (rest_at p line) 0 ∷ rest_at q line
split-first {line = line} p {q = q} s = go (rest_at p line) s.has s.rest
  where
    go : (fs : List (List ℕ)) → 1 ≤ length fs → rest_at q line ≡ drop 1 fs → fs ≡ field_at fs 0 ∷ rest_at q line
    go [] h e = absurd (omega arith)
    go (f ∷ fs) h e = ap (λ (t : List (List ℕ)). f ∷ t) (sym e)

-- there is none past the line's end
pub all-read : (line : List ℕ) (p : ℕ) → p ≤ suc (length line) → ltb (length line) p ≡ eqb (length (rest_at p line)) 0
all-read line p h = go (ltb (length line) p) refl
  where
    go : (t : Bool) → ltb (length line) p ≡ t → t ≡ eqb (length (rest_at p line)) 0
    go true e = sym (its-count (starts-begin line p h) (omega (arith, ltb-true (length line) p e)))
    go false e = sym (other-count (starts-begin line p h) (λ q. omega (arith, q, ltb-false (length line) p e)))

-- n fields before do not count
pub fewer : (n m : ℕ) (fs : List (List ℕ)) → eqb (length (replicate n [] ++ fs)) (n + m) ≡ eqb (length fs) m
fewer n m fs = go (eqb (length fs) m) refl
  where
    l : length (replicate n [] ++ fs) ≡ n + length fs
    l = length-append (replicate n []) fs ∙ ap (λ (k : ℕ). k + length fs) (length-replicate n [])

    go : (t : Bool) → eqb (length fs) m ≡ t → eqb (length (replicate n [] ++ fs)) (n + m) ≡ t
    go true e = eq-eqb (length (replicate n [] ++ fs)) (n + m) (omega (arith, l, eqb-true (length fs) m e))
    go false e = ne_eqb (length (replicate n [] ++ fs)) (n + m) λ q. eqb-false (length fs) m e (omega (arith, l, q))

-- a test before what is read, and before what follows that too
pub test-none : {A B : Type 0} (t : Bool) (o : Option A) (rest : A → Option B) → cond t o None ≡ None → None ≡ cond t (o >>= rest) None
test-none true o rest e = rw e
test-none false o rest e = refl

pub test-some : {A B : Type 0} (t : Bool) (o : Option A) (rest : A → Option B) {a : A} → cond t o None ≡ Some a → rest a ≡ cond t (o >>= rest) None
test-some true o rest e = rw e
test-some false o rest e = cc
