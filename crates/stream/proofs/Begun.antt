-- A call that ends a line of which bytes are kept, and what a call gives back.
use Rattle.std.proofs.Common.{◌≡◌, ℕ, ◌≤◌, ◌-◌, false, cond, eqb, List, ◌++◌, length, take, ap, ap₂, ◌∙◌, arith, length-take-le, eq-eqb, ne_eqb, le-leb}
use Rattle.script.specs.Command.{command_of}
use Rattle.stream.specs.Blocks.{called, fits, place_at, stop, whole_line}
use Rattle.stream.specs.Kept.{Kept, kept_count, kept_in, kept_of, line_room, nothing_of}
use Rattle.stream.specs.Transcript.{lines_in}
use Rattle.stream.specs.declared.kept.Held.{Held}
use Rattle.stream.proofs.Memory.{kept_line, too_long}

module _ (k : Kept) (text : List ℕ) (few : k.held.bytes ≤ line_room) (long : length k.memory ≡ line_room) {memory : List ℕ} {n : ℕ}
    (count : n ≡ kept_count k.held.bytes text) (copied : memory ≡ kept_in k.memory k.held.bytes text) where
  -- as much of the line as is kept reads as all of it
  pub begun-same : command_of (take n memory) ≡ command_of (whole_line k text)
  begun-same =
      let b = k.held.bytes in
      let l = length-take-le b k.memory (omega (arith, few, long)) in
      let whole : take n memory ≡ take b k.memory ++ take (line_room - length (take b k.memory)) text =
      rw (count, copied, l) (kept_line k.memory text b long few) in
      ap command_of whole ∙ too_long (take b k.memory) text (omega (arith, few, l))

  pub begun-memory : (k.held.bytes ≡ 0 → ⊥) → memory ≡ cond (eqb k.held.bytes 0) k.memory (kept_in k.memory k.held.bytes text)
  begun-memory some = rw (ne_eqb k.held.bytes 0 some) copied

-- ---- a call

module _ (k : Kept) (block out : List ℕ) (at : ℕ) where
  pub begins : length k.memory ≡ line_room → k.held.bytes ≤ line_room → called k block out at ≡ stop (place_at 0 k out at) (lines_in block)
  unfolding called
  begins long few = rw (eq-eqb (length k.memory) line_room long, le-leb k.held.bytes line_room few)

  pub refuses : fits k ≡ false → called k block out at ≡ place_at 0 k out at
  unfolding called
  refuses h = rw h

  -- nothing is held
  pub begins-lines : length k.memory ≡ line_room → k.held.bytes ≡ 0
      → called k block out at ≡ stop (place_at (length block - length block) (kept_of (nothing_of k.held.number) k.memory k.words) out at) (lines_in block)
  begins-lines long none =
      let e : k.held ≡ nothing_of k.held.number = ap (λ (n : ℕ). record { bytes = n; number = k.held.number }) none in
      let z : 0 ≡ length block - length block = omega arith in
      begins long (omega (arith, none))
      ∙ ap₂ (λ (n : ℕ) (h : Held). stop (place_at n (kept_of h k.memory k.words) out at) (lines_in block)) z e
