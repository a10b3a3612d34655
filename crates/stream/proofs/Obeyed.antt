-- A line obeyed, with and without room for the longest text.
use Prim.Native.Char.{code}
use Rattle.std.proofs.Common.{◌≡◌, ℕ, ◌+◌, ◌-◌, ◌<◌, ◌≤◌, Bool, true, false, ◌&&◌, eqb, leb, List, ◌∷◌, ◌++◌, length, get_or, take, drop, refl, ap, ◌∙◌, append_assoc, arith, length-take-le, le-leb, leb-false, leb-true}
use borrow.Author.Tests.{lt-leb}
use lib.Seq.{get_or_at}
use Rattle.script.specs.Command.{command_of}
use Rattle.response.specs.Response.{bytes_after, most, place_after, room_for_longest, state_after, text_of}
use Rattle.stream.specs.Blocks.{is_bad}
use Rattle.stream.proofs.Texts.{begins}

pub room-left : (at n : ℕ) → at ≤ n → leb most (n - at) ≡ leb (at + most) n
room-left at n h = go (leb (at + most) n) refl
  where
    go : (t : Bool) → leb (at + most) n ≡ t → leb most (n - at) ≡ t
    go true e = le-leb most (n - at) (omega (arith, leb-true (at + most) n e))
    go false e = lt-leb most (n - at) (omega (arith, leb-false (at + most) n e))

-- what `respond` gave, and whether its text begins with a b
module _ (line : List ℕ) (number : ℕ) (m out : List ℕ) (at : ℕ) {out' : List ℕ} {p : ℕ}
    (place : p ≡ place_after line number m out at) (bytes : out' ≡ bytes_after line number m out at) where
  abbrev text : List ℕ
  text = text_of (command_of line) number m

  -- the place moves where there is room
  pub stays : p ≡ at → room_for_longest out at ≡ false
  unfolding place_after
  stays h = go (room_for_longest out at) refl
    where
      go : (t : Bool) → room_for_longest out at ≡ t → room_for_longest out at ≡ false
      go false e = e
      go true e =
          let b = begins (command_of line) number m in
          let q : p ≡ at + length text = place ∙ rw e in
          absurd (omega (arith, q, h, ap length b.is))

  pub moves : (p ≡ at → ⊥) → room_for_longest out at ≡ true
  unfolding place_after
  moves h = go (room_for_longest out at) refl
    where
      go : (t : Bool) → room_for_longest out at ≡ t → room_for_longest out at ≡ true
      go true e = e
      go false e = absurd (h (place ∙ rw e))

  pub stays-left : {m' : List ℕ} → m' ≡ state_after line m out at → p ≡ at → (m' ≡ m) × (out' ≡ out)
  unfolding state_after bytes_after
  stays-left words h = let e = stays h in (words ∙ rw e, bytes ∙ rw e)

  pub within : (p ≡ at → ⊥) → at < length out
  within h = omega (arith, leb-true (at + most) (length out) (moves h))

  pub stays-good : p ≡ at → false ≡ (room_for_longest out at && is_bad (command_of line))
  stays-good h = rw (stays h)

  pub moves-tell : (p ≡ at → ⊥) → eqb (get_or out' at 0) (code "b") ≡ (room_for_longest out at && is_bad (command_of line))
  unfolding bytes_after
  moves-tell h =
      let b = begins (command_of line) number m in
      let e : out' ≡ take at out ++ (b.first ∷ (b.others ++ drop (at + length text) out)) =
      bytes ∙ rw (moves h, b.is) (append_assoc (take at out) (b.first ∷ b.others) (drop (at + length (b.first ∷ b.others)) out)) in
      rw (moves h, e, get_or_at (take at out) b.first (b.others ++ drop (at + length text) out) 0 at (length-take-le at out (omega (arith, within h)))) b.tells
