-- What the calls of the code that makes a map give together.
use mathlib.Core.Bool.{true}
use mathlib.Core.List.{List}
use mathlib.Core.Path.{◌≡◌, refl, ap, ◌∙◌}
use Prim.Native.Nat.{ℕ, ◌*◌, ◌^◌, ◌≤◌}
use native.Mathlib.Omega.{arith}
use lib.ListN.{length}
use borrow.Author.Tests.{eq-eqb, le-leb}
use Rattle.access.specs.declared.answer.Answer.TheVariants.{Done}
use Rattle.risaf.specs.Guards.{is_guard, shape_of}
use Rattle.regions.specs.Rights.{rights_word}
use Rattle.risaf.specs.declared.guards.Shape.{Shape}
use Rattle.spans.specs.Map.{map_of}
use Rattle.spans.specs.Rows.{Rows, filled, size}
use Rattle.device.specs.State.{guard_of}
use Rattle.device.specs.Layout.{state_words, state_of}
use Rattle.map.specs.Fill.{row_numbers, least_room, fill_answer, fill_used, fill_numbers}
use Rattle.map.specs.Map.{rights_of, rows_of}
use Rattle.regions.specs.Words.{base, most_regions}
use Rattle.map.proofs.Guards.{small, guard-regions-length}

module _ (m : List ℕ) (n : ℕ) (l : List ℕ) (hm : length m ≡ state_words) (hl : least_room ≤ length l) (hn : is_guard n ≡ true)
    {shape : Shape} {w : List ℕ} (es : shape ≡ shape_of n) (ew : w ≡ (guard_of (state_of m) n).regions) where
  -- a sweep can be made
  pub sweepable : (shape.regions ≤ most_regions) × (base shape.regions ≤ length w) × (shape.window ≤ 2 ^ 32) × (least_room ≤ length l)
  sweepable =
      let k : shape.regions ≤ most_regions = rw es (small n).0 in
      (k, rw ew (omega (arith, guard-regions-length m n hm)), rw es (small n).1, hl)

  rows : map_of (rights_word shape.bus w shape.regions) shape.window ≡ rows_of (state_of m) n
  unfolding rows_of rights_of
  rows = rw (ew, es)

  -- what it makes
  pub made : {count : ℕ} {l' : List ℕ} → count ≡ size (map_of (rights_word shape.bus w shape.regions) shape.window)
      → l' ≡ filled (map_of (rights_word shape.bus w shape.regions) shape.window) l
      → (Done 0 ≡ fill_answer m n l) × ((row_numbers * count ≡ fill_used m n l) × (l' ≡ fill_numbers m n l))
  unfolding fill_answer fill_used fill_numbers
  made ec el =
      simp (eq-eqb (length m) state_words hm, le-leb least_room (length l) hl, hn)
      (refl, (ap (λ (k : ℕ). row_numbers * k) (ec ∙ ap size rows), el ∙ ap (λ (rs : Rows). filled rs l) rows))
