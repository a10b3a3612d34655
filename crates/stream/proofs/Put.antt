-- Texts put out one after the other are one text.
use Rattle.std.proofs.Common.{◌≡◌, ℕ, ◌+◌, ◌≤◌, List, [], ◌++◌, length, take, drop, sym, refl, ap, ◌∙◌, ap₂, append_assoc, arith, length-append, length-take-le, take-take, drop-drop, take_at, take-add, drop_at}
use Rattle.device.proofs.Parts.{drop-take}
use Rattle.print.specs.Writing.{over}

-- out' has the text at `at`, and before it what out has; p is the place behind it
pub record Put (out : List ℕ) (at : ℕ) (text out' : List ℕ) (p : ℕ) : Type 0 where
  pub next : p ≡ at + length text
  pub front : take at out' ≡ take at out
  pub there : take (length text) (drop at out') ≡ text

pub put-none : (out : List ℕ) (at : ℕ) → Put out at [] out at
put-none out at = record { next = omega arith; front = refl; there = refl }

pub put-over : (out : List ℕ) (at : ℕ) (text : List ℕ) → at ≤ length out → Put out at text (over out at text) (at + length text)
put-over out at text h =
    let l = length-take-le at out h in
    let rest = text ++ drop (at + length text) out in
    let e : over out at text ≡ take at out ++ rest = append_assoc (take at out) text (drop (at + length text) out) in
    record {
      next = refl;
      front = rw e (take_at (take at out) rest at l);
      there =
          ap (λ (o : List ℕ). take (length text) (drop at o)) e ∙ ap (take (length text)) (drop_at (take at out) rest at l)
          ∙ take_at text (drop (at + length text) out) (length text) refl;
    }

pub put_then : {out out' out'' x y : List ℕ} {at p q : ℕ} → Put out at x out' p → Put out' p y out'' q → Put out at (x ++ y) out'' q
put_then {out} {out'} {out''} {x} {y} {at} {p} {q} a b =
    let low : at ≤ p = omega (arith, a.next) in
    let first : take (length x) (drop at out'') ≡ x =
    sym (drop-take at (length x) out'')
    ∙ ap (drop at) (ap (λ (n : ℕ). take n out'') (sym a.next) ∙ b.front ∙ ap (λ (n : ℕ). take n out') a.next)
    ∙ drop-take at (length x) out' ∙ a.there in
    let second : take (length y) (drop (length x) (drop at out'')) ≡ y =
    ap (take (length y)) (drop-drop (length x) at out'' ∙ ap (λ (n : ℕ). drop n out'') (sym a.next)) ∙ b.there in
    record {
      next = omega (arith, a.next, b.next, length-append x y);
      front = sym (take-take at p out'' low) ∙ ap (take at) b.front ∙ take-take at p out' low ∙ a.front;
      there =
          ap (λ (n : ℕ). take n (drop at out'')) (length-append x y) ∙ take-add (length x) (length y) (drop at out'')
          ∙ ap₂ (λ (s t : List ℕ). s ++ t) first second;
    }
