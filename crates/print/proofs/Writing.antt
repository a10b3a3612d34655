-- Parts written one after the other are one part, and a line for which there is room is written whole.
use mathlib.Core.List.{List, [], ◌∷◌, ◌++◌, append_assoc}
use mathlib.Core.Path.{◌≡◌, refl, sym, ap, ◌∙◌}
use Prim.Native.Nat.{ℕ, ◌+◌, ◌≤◌, ◌<◌}
use native.Mathlib.Numerals.{add-one}
use native.Mathlib.Omega.{arith}
use borrow.Author.Tests.{le-leb, lt-leb}
use lib.ListN.{length, take, drop, set, length-append}
use lib.Seq.{length-take-le, take-length, take_at, drop-append-add, drop-drop, set_split, append_snoc, paste, length-paste}
use Rattle.print.specs.Writing.{over, bytes_with, place_with}
use Rattle.print.specs.Parts.{Wrote}

-- `over` is lib.Seq's paste of the whole part
over-paste : (out : List ℕ) (at : ℕ) (part : List ℕ) → paste out at part (length part) ≡ over out at part
over-paste out at part = rw (take-length part)

over-length : (out : List ℕ) (at : ℕ) (part : List ℕ) → at + length part ≤ length out → length (over out at part) ≡ length out
over-length out at part h = rw (← over-paste out at part) (length-paste out at part (length part) h (omega arith))

over-over : (out : List ℕ) (at : ℕ) (x y : List ℕ) → at + length x ≤ length out
    → over (over out at x) (at + length x) y ≡ over out at (x ++ y)
over-over out at x y h =
    let l : length (take at out ++ x) ≡ at + length x = simp (length-append, length-take-le at out (omega arith)) in
    let front : take (at + length x) (over out at x) ≡ take at out ++ x =
    take_at (take at out ++ x) (drop (at + length x) out) (at + length x) l in
    let sum : at + length x + length y ≡ at + length (x ++ y) = omega (arith, length-append x y) in
    let back : drop (at + length x + length y) (over out at x) ≡ drop (at + length (x ++ y)) out =
    ap (λ (n : ℕ). drop (n + length y) (over out at x)) (sym l)
    ∙ drop-append-add (take at out ++ x) (drop (at + length x) out) (length y)
    ∙ drop-drop (length y) (at + length x) out
    ∙ ap (λ (n : ℕ). drop n out) sum in
    rw (front, back) (ap (λ (l : List ℕ). l ++ drop (at + length (x ++ y)) out) (append_assoc (take at out) x y))

-- where a part ends, in a buffer as long as before
pub part-ends : {out out' part : List ℕ} {at p : ℕ} → Wrote out at part out' p → (p ≡ at + length part) × (length out' ≡ length out)
part-ends {out} {out'} {part} {at} {p} w = (w.next, ap length w.bytes ∙ over-length out at part (omega (arith, w.next, w.room)))

pub join : {out out' out'' : List ℕ} {at p q : ℕ} {x y : List ℕ} → Wrote out at x out' p → Wrote out' p y out'' q
    → Wrote out at (x ++ y) out'' q
join {out} {out'} {out''} {at} {p} {q} {x} {y} a b =
    let l : length (x ++ y) ≡ length x + length y = length-append x y in
    let k : length out' ≡ length out = (part-ends a).1 in
    record {
      next = omega (arith, a.next, b.next);
      room = omega (arith, b.room);
      bytes =
          b.bytes
          ∙ rw (a.bytes, a.next) (over-over out at x y (omega (arith, a.next, a.room)));
    }

-- one byte
pub one : (out : List ℕ) (at b : ℕ) → at < length out → Wrote out at (b ∷ []) (set out at b) (at + 1)
one out at b h =
    record {
      next = refl;
      room = omega arith;
      bytes = rw (set_split out at b h, add-one, append_snoc);
    }

pub whole : {out out' : List ℕ} {at p : ℕ} {line : List ℕ} → Wrote out at line out' p
    → (p ≡ place_with out at line) × (out' ≡ bytes_with out at line)
unfolding place_with bytes_with
whole {out} {out'} {at} {p} {line} w =
    let e = le-leb (at + length line) (length out) (omega (arith, w.next, w.room)) in
    (rw e w.next, rw e w.bytes)

pub refused : (out : List ℕ) (at : ℕ) (line : List ℕ) → length out < at + length line
    → (at ≡ place_with out at line) × (out ≡ bytes_with out at line)
unfolding place_with bytes_with
refused out at line h =
    let e = lt-leb (at + length line) (length out) h in
    (rw e, rw e)
