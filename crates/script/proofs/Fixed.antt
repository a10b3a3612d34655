-- Fields of a fixed length: a reader that reads n bytes, none of them a tab, reads the field at a place where a field may end behind n bytes.
use mathlib.Core.Bool.{Bool, true, false, not, ◌&&◌, and-false, true≢false}
use mathlib.Core.List.{List, [], ◌∷◌}
use mathlib.Core.Path.{◌≡◌, refl, sym, ap, ◌∙◌}
use Prim.Native.Nat.{ℕ, ◌+◌, ◌<◌}
use native.Mathlib.Omega.{arith}
use borrow.Author.Tests.{ne_eqb, eqb-true, eqb-false}
use lib.Dec.{eqb}
use lib.ListN.{length, take, drop, length-drop}
use lib.Seq.{length-take-le}
use Rattle.std.specs.Prelude.{Option, Some, None}
use Rattle.script.specs.Fields.{tab, same}
use Rattle.script.specs.Numbers.{is_hex, every, hex_of, either_of, operation_of}
use Rattle.script.specs.Places.{field_from, ends_at}
use Rattle.script.proofs.Places.{Field, field, field-bytes, field_of, no_tabs, some-there}
use Rattle.script.proofs.Same.{no-letter}

pub record Fixed {R : Type 0} (n : ℕ) (read : List ℕ → Option R) : Type 0 where
  pub some : 0 < n
  pub long : (s : List ℕ) → (length s ≡ n → ⊥) → read s ≡ None
  pub tabs : (s : List ℕ) → no_tabs s ≡ false → read s ≡ None

module _ {R : Type 0} {n : ℕ} {read : List ℕ → Option R} (fixed : Fixed n read) (line : List ℕ) (p : ℕ) where
  -- a field of n bytes is the n bytes there
  sized : length (field_from line p) ≡ n → Field line p n
  sized e = rw e at (field line p (some-there line p (omega (arith, fixed.some))))

  pub read-there : ends_at line (p + n) ≡ true → read (take n (drop p line)) ≡ read (field_from line p)
  read-there h = go (eqb (length (field_from line p)) n) refl
    where
      bytes : no_tabs (take n (drop p line)) ≡ true → length (field_from line p) ≡ n
      bytes t =
          let f = field_of n line p h t in
          ap length (field-bytes line p n f) ∙ length-take-le n (drop p line) (omega (arith, length-drop p line, f.within))

      plain : (t : Bool) → no_tabs (take n (drop p line)) ≡ t → (length (field_from line p) ≡ n → ⊥) → read (take n (drop p line)) ≡ None
      plain true e k = absurd (k (bytes e))
      plain false e k = fixed.tabs (take n (drop p line)) e

      go : (t : Bool) → eqb (length (field_from line p)) n ≡ t → read (take n (drop p line)) ≡ read (field_from line p)
      go true e = ap read (sym (field-bytes line p n (sized (eqb-true (length (field_from line p)) n e))))
      go false e =
          let k = eqb-false (length (field_from line p)) n e in
          plain (no_tabs (take n (drop p line))) refl k ∙ sym (fixed.long (field_from line p) k)

  pub not_there : ends_at line (p + n) ≡ false → None ≡ read (field_from line p)
  not_there h = sym (fixed.long (field_from line p) λ e. true≢false (sym (sized e).ends ∙ h))

  pub its-length : {v : R} → read (field_from line p) ≡ Some v → length (field_from line p) ≡ n
  its-length e = go (eqb (length (field_from line p)) n) refl
    where
      go : (t : Bool) → eqb (length (field_from line p)) n ≡ t → length (field_from line p) ≡ n
      go true k = eqb-true (length (field_from line p)) n k
      go false k = let b = fixed.long (field_from line p) (eqb-false (length (field_from line p)) n k) in cc

-- ---- the readers

hex-tabs : (s : List ℕ) → no_tabs s ≡ false → every is_hex s ≡ false
unfolding every
hex-tabs [] h = absurd (true≢false h)
hex-tabs (b ∷ s) h = go (eqb b tab) refl (hex-tabs s) h
  where
    go : (t : Bool) → eqb b tab ≡ t → (no_tabs s ≡ false → every is_hex s ≡ false) → (not t && no_tabs s) ≡ false
        → (is_hex b && every is_hex s) ≡ false
    go true e f k = rw (eqb-true b tab e)
    go false e f k = rw (f k) (and-false (is_hex b))

pub hex-fixed : Fixed 8 hex_of
unfolding hex_of
hex-fixed =
    record {
      some = omega arith;
      long = λ s h. rw (ne_eqb (length s) 8 h);
      tabs = λ s h. rw (hex-tabs s h, and-false (eqb (length s) 8));
    }

-- a letter that is no tab
letter-tabs : (s : List ℕ) (b : ℕ) → tab < b → no_tabs s ≡ false → same s (b ∷ []) ≡ false
unfolding every same
letter-tabs [] b l h = absurd (true≢false h)
letter-tabs (a ∷ []) b l h = go (eqb a tab) refl h
  where
    go : (t : Bool) → eqb a tab ≡ t → (not t && true) ≡ false → (eqb a b && true) ≡ false
    go true e k = rw (eqb-true a tab e, ne_eqb tab b (λ q. omega arith))
    go false e k = absurd (true≢false k)
letter-tabs (a ∷ c ∷ s) b l h = and-false (eqb a b)

pub either-fixed : (this that : ℕ) → tab < this → tab < that → Fixed 1 (either_of this that)
unfolding either_of
either-fixed this that l m =
    record {
      some = omega arith;
      long = λ s h. rw (no-letter s this h, no-letter s that h);
      tabs = λ s h. rw (letter-tabs s this l h, letter-tabs s that m h);
    }

pub operation-fixed : Fixed 1 operation_of
unfolding operation_of
operation-fixed =
    record {
      some = omega arith;
      long = λ s h. rw (no-letter s 114 h, no-letter s 119 h, no-letter s 120 h);
      tabs = λ s h. rw (letter-tabs s 114 (omega arith) h, letter-tabs s 119 (omega arith) h, letter-tabs s 120 (omega arith) h);
    }
