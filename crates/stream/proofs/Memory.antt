-- The unfinished line in its memory.
use Rattle.std.proofs.Common.{◌≡◌, ℕ, zero, suc, ◌+◌, ◌-◌, ◌<◌, ◌≤◌, min, Bool, true, false, cond, leb, List, [], ◌∷◌, ◌++◌, length, take, drop, sym, refl, ap, ◌∙◌, append-nil, arith, length-append, length-drop, take-append-drop, length-take, length-take-le, take_all, take_at, ne_eqb, None}
use native.Mathlib.Decide.{dec_le}
use borrow.Author.Tests.{lt-leb}
use lib.Seq.{paste, take-append-add, take-append-le, take-length}
use Rattle.print.specs.Print.{bad_line}
use Rattle.print.specs.Writing.{bytes_with, place_with}
use Rattle.script.specs.Command.{command_of}
use Rattle.script.specs.Fields.{line_most}
use Rattle.stream.specs.Kept.{kept_count, kept_in, line_room}
use Rattle.stream.specs.Transcript.{end_text}

take-taken : (n : ℕ) (l : List ℕ) → take (length (take n l)) l ≡ take n l
take-taken zero l = refl
take-taken (suc n) [] = refl
take-taken (suc n) (b ∷ l) = ap (λ (t : List ℕ). b ∷ t) (take-taken n l)

-- copied, as many as there is room for
pub kept-all : (memory l : List ℕ) (n i : ℕ) → i ≡ min (line_room - n) (length l)
    → (n + i ≡ kept_count n l) × (paste memory n (take i l) i ≡ kept_in memory n l)
unfolding kept_count kept_in
kept-all memory l n i h =
    let e : i ≡ length (take (line_room - n) l) = h ∙ sym (length-take (line_room - n) l) in
    (ap (λ (k : ℕ). n + k) e, rw (e, take-taken (line_room - n) l, take-length))

pub kept-most : (l : List ℕ) (n : ℕ) → n ≤ line_room → kept_count n l ≤ line_room
unfolding kept_count
kept-most l n few = omega (arith, length-take (line_room - n) l, few)

module _ (memory l : List ℕ) (n : ℕ) (long : length memory ≡ line_room) (few : n ≤ line_room) where
  pub kept_line : take (kept_count n l) (kept_in memory n l) ≡ take n memory ++ take (line_room - n) l
  unfolding kept_count kept_in
  kept_line =
      let t = take (line_room - n) l in
      let k : length (take n memory ++ t) ≡ n + length t = simp (length-append, length-take-le n memory (omega (arith, long, few))) in
      take_at (take n memory ++ t) (drop (n + length t) memory) (n + length t) k

  pub kept-long : length (kept_in memory n l) ≡ line_room
  unfolding kept_in
  kept-long =
      let t = take (line_room - n) l in
      omega (
        arith,
        length-append (take n memory ++ t) (drop (n + length t) memory),
        length-append (take n memory) t,
        length-take-le n memory (omega (arith, long, few)),
        length-drop (n + length t) memory,
        length-take (line_room - n) l,
        long,
        few,
      )

-- ---- a line too long is bad, however much of it is kept

long-bad : (x : List ℕ) → line_most < length x → command_of x ≡ None
unfolding command_of
long-bad x h = rw (lt-leb (length x) line_most h)

pub too_long : (p l : List ℕ) → length p ≤ line_room → command_of (p ++ take (line_room - length p) l) ≡ command_of (p ++ l)
too_long p l h = go (dec_le (length l) (line_room - length p))
  where
    go : Dec (length l ≤ line_room - length p) → command_of (p ++ take (line_room - length p) l) ≡ command_of (p ++ l)
    go (yes s) = rw (take_all (line_room - length p) l s)
    go (no s) =
        long-bad (p ++ take (line_room - length p) l) (omega (arith, length-append p (take (line_room - length p) l), length-take (line_room - length p) l, s, h))
        ∙ sym (long-bad (p ++ l) (omega (arith, length-append p l, s, h)))

pub begun-long : (p l : List ℕ) → command_of (take line_room p ++ l) ≡ command_of (p ++ l)
begun-long p l = go (dec_le (length p) line_room)
  where
    go : Dec (length p ≤ line_room) → command_of (take line_room p ++ l) ≡ command_of (p ++ l)
    go (yes s) = rw (take_all line_room p s)
    go (no s) =
        long-bad (take line_room p ++ l) (omega (arith, length-append (take line_room p) l, length-take line_room p, s))
        ∙ sym (long-bad (p ++ l) (omega (arith, length-append p l, s)))

-- the first bytes of p and l
pub take-both : (p l : List ℕ) (n : ℕ) → n ≡ length (take line_room p) → take line_room p ++ take (line_room - n) l ≡ take line_room (p ++ l)
take-both p l n h = go (dec_le (length p) line_room)
  where
    go : Dec (length p ≤ line_room) → take line_room p ++ take (line_room - n) l ≡ take line_room (p ++ l)
    go (yes s) =
        let e = take_all line_room p s in
        let m : n ≡ length p = h ∙ ap length e in
        let sum : length p + (line_room - length p) ≡ line_room = omega (arith, s) in
        rw (e, m) (sym (take-append-add p l (line_room - length p)) ∙ ap (λ (k : ℕ). take k (p ++ l)) sum)
    go (no s) =
        let m : line_room - n ≡ 0 = omega (arith, h, length-take line_room p, s) in
        rw (m, take-append-le line_room p l (omega (arith, s))) (append-nil (take line_room p))

-- ---- the end of the input

pub end_empty : (out : List ℕ) (at : ℕ) {bytes : ℕ} (number : ℕ) → bytes ≡ 0
    → (at ≡ place_with out at (end_text bytes number)) × (out ≡ bytes_with out at (end_text bytes number))
unfolding end_text place_with bytes_with
end_empty out at number h = rw h (go (leb (at + 0) (length out)))
  where
    none : at + 0 ≡ at
    none = omega arith

    go : (t : Bool) → (at ≡ cond t (at + 0) at) × (out ≡ cond t (take at out ++ [] ++ drop (at + 0) out) out)
    go true = (sym none, rw (none, append-nil (take at out)) (sym (take-append-drop at out)))
    go false = (refl, refl)

pub end-bad : (out : List ℕ) (at : ℕ) {out' : List ℕ} {p : ℕ} (bytes number : ℕ) → (bytes ≡ 0 → ⊥)
    → p ≡ place_with out at (bad_line number) → out' ≡ bytes_with out at (bad_line number)
    → (p ≡ place_with out at (end_text bytes number)) × (out' ≡ bytes_with out at (end_text bytes number))
unfolding end_text
end-bad out at bytes number h e f = rw (ne_eqb bytes 0 h) (e, f)
