-- Where a line's fields lie: the fields from a place on, by the byte there, and the field there as a part of the line.
use mathlib.Core.Bool.{Bool, true, false, not, ◌&&◌, false≢true}
use mathlib.Core.List.{List, [], ◌∷◌}
use mathlib.Core.Path.{◌≡◌, refl, sym, ap, ◌∙◌}
use Prim.Native.Nat.{ℕ, zero, suc, ◌+◌, ◌-◌, ◌≤◌, ◌<◌}
use native.Mathlib.Nat.{add-zero}
use native.Mathlib.Omega.{arith}
use borrow.Author.Tests.{eq-eqb, ne_eqb, eqb-true, eqb-false, lt-ltb, le-ltb, ltb-true, ltb-false}
use lib.Dec.{eqb, ltb}
use lib.ListN.{length, get_or, take, drop, length-drop}
use lib.Seq.{drop-cons, drop-drop, get_or-drop}
use Rattle.script.specs.Fields.{tab, onto, fields_of, field_at}
use Rattle.script.specs.Numbers.{every}
use Rattle.script.specs.Places.{rest_at, field_from, end_from, ends_at, Starts}

-- ---- the fields from a place on, by the byte there

pub step-tab : (line : List ℕ) (i : ℕ) → i < length line → get_or line i 0 ≡ tab → rest_at i line ≡ [] ∷ rest_at (suc i) line
unfolding rest_at fields_of
step-tab [] i h e = absurd (omega arith)
step-tab (b ∷ line) zero h e = rw (eq-eqb b tab e)
step-tab (b ∷ line) (suc i) h e = step-tab line i (omega arith) e

pub step_other : (line : List ℕ) (i : ℕ) → i < length line → (get_or line i 0 ≡ tab → ⊥)
    → rest_at i line ≡ onto (get_or line i 0) (rest_at (suc i) line)
unfolding rest_at fields_of
step_other [] i h e = absurd (omega arith)
step_other (b ∷ line) zero h e = rw (ne_eqb b tab e)
step_other (b ∷ line) (suc i) h e = step_other line i (omega arith) e

at-end : (line : List ℕ) (i : ℕ) → i ≡ length line → rest_at i line ≡ [] ∷ rest_at (suc i) line
unfolding rest_at fields_of
at-end [] zero h = refl
at-end [] (suc i) h = absurd (omega arith)
at-end (b ∷ line) zero h = absurd (omega arith)
at-end (b ∷ line) (suc i) h = at-end line i (omega arith)

past_end : (line : List ℕ) (i : ℕ) → length line < i → rest_at i line ≡ []
unfolding rest_at
past_end line zero h = absurd (omega arith)
past_end [] (suc i) h = refl
past_end (b ∷ line) (suc i) h = past_end line i (omega arith)

-- the field at a place, by the byte there
pub from-tab : (line : List ℕ) (i : ℕ) → i < length line → get_or line i 0 ≡ tab → i ≡ end_from line i
from-tab line i h e = rw (step-tab line i h e) (omega arith)

pub from_end : (line : List ℕ) (i : ℕ) → length line ≤ i → i ≡ end_from line i
from_end line i h = go (eqb i (length line)) refl
  where
    go : (t : Bool) → eqb i (length line) ≡ t → i ≡ end_from line i
    go true e = rw (at-end line i (eqb-true i (length line) e)) (omega arith)
    go false e = let n = eqb-false i (length line) e in rw (past_end line i (omega arith)) (omega arith)

onto-first : (b : ℕ) (fs : List (List ℕ)) → field_at (onto b fs) 0 ≡ b ∷ field_at fs 0
unfolding onto
onto-first b [] = refl
onto-first b (f ∷ fs) = refl

pub from-other : (line : List ℕ) (i : ℕ) → i < length line → (get_or line i 0 ≡ tab → ⊥) → end_from line (i + 1) ≡ end_from line i
from-other line i h e =
    let s : i + 1 ≡ suc i = omega arith in
    rw (s, step_other line i h e, onto-first) (omega arith)

pub field-other : (line : List ℕ) (i : ℕ) → i < length line → (get_or line i 0 ≡ tab → ⊥)
    → field_from line i ≡ get_or line i 0 ∷ field_from line (i + 1)
field-other line i h e =
    let s : i + 1 ≡ suc i = omega arith in
    rw (s, step_other line i h e) (onto-first (get_or line i 0) (rest_at (suc i) line))

pub field-tab : (line : List ℕ) (i : ℕ) → i < length line → get_or line i 0 ≡ tab → field_from line i ≡ []
field-tab line i h e = rw (step-tab line i h e)

-- from the line's end on there is none, or an empty one
pub field_end : (line : List ℕ) (i : ℕ) → length line ≤ i → field_from line i ≡ []
field_end line i h = go (eqb i (length line)) refl
  where
    go : (t : Bool) → eqb i (length line) ≡ t → field_from line i ≡ []
    go true e = rw (at-end line i (eqb-true i (length line) e))
    go false e = let n = eqb-false i (length line) e in rw (past_end line i (omega arith))

-- ---- the field at a place, as a part of the line

-- the field at place p is the n bytes there, and the next starts behind the byte that ends it
pub record Field (line : List ℕ) (p n : ℕ) : Type 0 where
  pub within : p + n ≤ length line
  pub ends : ends_at line (p + n) ≡ true
  pub split : rest_at p line ≡ take n (drop p line) ∷ rest_at (suc (p + n)) line

ends-tab : (line : List ℕ) (i : ℕ) → i < length line → get_or line i 0 ≡ tab → ends_at line i ≡ true
ends-tab line i h e = rw (lt-ltb i (length line) h) (eq-eqb (get_or line i 0) tab e)

ends-end : (line : List ℕ) (i : ℕ) → i ≡ length line → ends_at line i ≡ true
ends-end line i h = rw (le-ltb i (length line) (omega arith)) (eq-eqb i (length line) h)

-- an empty field
none : (line : List ℕ) (p : ℕ) → p ≤ length line → ends_at line p ≡ true → rest_at p line ≡ [] ∷ rest_at (suc p) line → Field line p 0
none line p h e s = record { within = omega arith; ends = rw (add-zero p) e; split = rw (add-zero p) s }

-- a field with one byte more before it
longer : (line : List ℕ) (p n : ℕ) → p < length line → (get_or line p 0 ≡ tab → ⊥) → Field line (suc p) n → Field line p (suc n)
unfolding onto
longer line p n h e f =
    let q : p + suc n ≡ suc p + n = omega arith in
    record {
      within = omega (arith, f.within);
      ends = rw q f.ends;
      split = rw (q, drop-cons line p 0 h) (step_other line p h e ∙ ap (onto (get_or line p 0)) f.split);
    }

-- every place up to the line's end has its field
field_in : (m : ℕ) (line : List ℕ) (p : ℕ) → p + m ≡ length line → Field line p (length (field_from line p))
field_in zero line p h =
    let e : p ≡ length line = omega arith in
    rw (at-end line p e) (none line p (omega arith) (ends-end line p e) (at-end line p e))
field_in (suc m) line p h = go (eqb (get_or line p 0) tab) refl (field_in m line (suc p) (omega arith))
  where
    go : (t : Bool) → eqb (get_or line p 0) tab ≡ t → Field line (suc p) (length (field_from line (suc p)))
        → Field line p (length (field_from line p))
    go true e f =
        let s = step-tab line p (omega arith) (eqb-true (get_or line p 0) tab e) in
        rw s (none line p (omega arith) (ends-tab line p (omega arith) (eqb-true (get_or line p 0) tab e)) s)
    go false e f =
        let s = step_other line p (omega arith) (eqb-false (get_or line p 0) tab e) in
        rw (s, onto-first) (longer line p (length (field_from line (suc p))) (omega arith) (eqb-false (get_or line p 0) tab e) f)

pub field : (line : List ℕ) (p : ℕ) → p ≤ length line → Field line p (length (field_from line p))
field line p h = field_in (length line - p) line p (omega arith)

pub field-bytes : (line : List ℕ) (p n : ℕ) → Field line p n → field_from line p ≡ take n (drop p line)
field-bytes line p n f = rw f.split

-- the n bytes at p are the field there, where none is a tab and a field may end behind them
abbrev pub no_tabs : List ℕ → Bool
no_tabs s = every (λ b. not (eqb b tab)) s

pub ends-within : (line : List ℕ) (i : ℕ) → ends_at line i ≡ true → i ≤ length line
ends-within line i h = go (ltb i (length line)) refl
  where
    go : (t : Bool) → ltb i (length line) ≡ t → i ≤ length line
    go true e = omega (arith, ltb-true i (length line) e)
    go false e = omega (arith, eqb-true i (length line) (rw e at h))

ended : (line : List ℕ) (p : ℕ) → ends_at line p ≡ true → Field line p 0
ended line p h = go (ltb p (length line)) refl
  where
    go : (t : Bool) → ltb p (length line) ≡ t → Field line p 0
    go true e =
        let l = ltb-true p (length line) e in
        none line p (omega arith) h (step-tab line p l (eqb-true (get_or line p 0) tab (rw e at h)))
    go false e =
        let q = eqb-true p (length line) (rw e at h) in
        none line p (omega arith) h (at-end line p q)

pub field_of : (n : ℕ) (line : List ℕ) (p : ℕ) → ends_at line (p + n) ≡ true → no_tabs (take n (drop p line)) ≡ true → Field line p n
unfolding every
field_of zero line p h t = ended line p (rw (add-zero p) at h)
field_of (suc n) line p h t =
    let w = ends-within line (p + suc n) h in
    let q : p + suc n ≡ suc p + n = omega arith in
    let l : p < length line = omega arith in
    go (eqb (get_or line p 0) tab) refl (rw (drop-cons line p 0 l) at t) (field_of n line (suc p) (rw q at h))
  where
    go : (u : Bool) → eqb (get_or line p 0) tab ≡ u → (not u && no_tabs (take n (drop (suc p) line))) ≡ true
        → (no_tabs (take n (drop (suc p) line)) ≡ true → Field line (suc p) n) → Field line p (suc n)
    go true e k f = absurd (false≢true k)
    go false e k f =
        let w = ends-within line (p + suc n) h in
        longer line p n (omega arith) (eqb-false (get_or line p 0) tab e) (f k)

-- ---- places in the line

-- past the line's end there is no field, and before it there is one
pub some-there : (line : List ℕ) (p : ℕ) → 0 < length (field_from line p) → p ≤ length line
some-there line p h = go (ltb (length line) p) refl
  where
    go : (t : Bool) → ltb (length line) p ≡ t → p ≤ length line
    go true e = absurd (omega (arith, rw (past_end line p (ltb-true (length line) p e)) at h))
    go false e = ltb-false (length line) p e

pub end-within : (line : List ℕ) (p : ℕ) → p ≤ suc (length line) → end_from line p ≤ suc (length line)
end-within line p h = go (ltb (length line) p) refl
  where
    go : (t : Bool) → ltb (length line) p ≡ t → end_from line p ≤ suc (length line)
    go true e = rw (past_end line p (ltb-true (length line) p e)) (omega arith)
    go false e = omega (arith, (field line p (ltb-false (length line) p e)).within)

pub starts-begin : (line : List ℕ) (p : ℕ) → p ≤ suc (length line) → Starts line (rest_at p line) 0 p
starts-begin line p h = record { has = omega arith; within = h; rest = refl }

-- the field at each place up to the line's end
some-rest : (line : List ℕ) (p : ℕ) → p ≤ length line → 0 < length (rest_at p line)
some-rest line p h = rw (field line p h).split (omega arith)

module _ {line : List ℕ} {fs : List (List ℕ)} {k p : ℕ} (s : Starts line fs k p) where
  pub starts-field : field_from line p ≡ field_at fs k
  starts-field = rw (s.rest, get_or-drop k fs 0 [], add-zero k)

  -- the next field starts behind the byte that ends this one
  pub starts-next : p ≤ length line → Starts line fs (suc k) (suc (end_from line p))
  starts-next h =
      let f = field line p h in
      let e : drop 1 (rest_at p line) ≡ rest_at (suc (end_from line p)) line = ap (λ (l : List (List ℕ)). drop 1 l) f.split in
      let n : k + 1 ≡ suc k = omega arith in
      record {
        has = omega (arith, some-rest line p h, ap length s.rest, length-drop k fs);
        within = omega (arith, f.within);
        rest = sym e ∙ rw (s.rest, drop-drop 1 k fs, n);
      }

  -- a line has k fields where the next would start past its end
  pub its-count : p ≡ suc (length line) → eqb (length fs) k ≡ true
  its-count h =
      let e = ap length s.rest in
      eq-eqb (length fs) k (omega (arith, rw (past_end line p (omega arith)) at e, length-drop k fs, s.has))

  pub other-count : (p ≡ suc (length line) → ⊥) → eqb (length fs) k ≡ false
  other-count h =
      ne_eqb (length fs) k λ e. omega (arith, h, s.within, some-rest line p (omega (arith, s.within)), ap length s.rest, length-drop k fs)
