-- Demand 3 and the mission's sentence, of the numbers that `fill` leaves and of the part that is handed back, for lent words of any contents.
use mathlib.Core.Bool.{true, false}
use mathlib.Core.List.{List, []}
use mathlib.Core.Logic.{◌↔◌}
use mathlib.Core.Path.{◌≡◌}
use Prim.Native.Nat.{ℕ, ◌*◌, ◌/◌, ◌≤◌}
use native.Mathlib.Omega.{arith}
use lib.ListN.{length}
use borrow.Author.Tests.{eq-eqb, le-leb}
use Rattle.risaf.specs.Guards.{is_guard}
use Rattle.spans.specs.Rows.{flat, size, filled}
use Rattle.spans.proofs.Memory.{filled-front, filled-length}
use Rattle.device.specs.Layout.{state_words, state_of}
use Rattle.map.specs.Demand.{IsGuardMap}
use Rattle.map.specs.Fill.{row_numbers, least_room, fills, fill_used, fill_numbers}
use Rattle.map.specs.Map.{rows_of}
use Rattle.map.specs.Part.{used_part}
use Rattle.map.specs.Sheets.{SameGrants}
use Rattle.map.proofs.Demand.{demand-3}
use Rattle.map.proofs.Sheets.{sheets}
use Rattle.map.proofs.Steady.{guard-rows-most}

-- ---- a map is made

module _ (m : List ℕ) (n : ℕ) (l : List ℕ) (hm : length m ≡ state_words) (hl : least_room ≤ length l) (hn : is_guard n ≡ true) where
  -- three numbers to a row
  pub used-rows : fill_used m n l ≡ row_numbers * size (rows_of (state_of m) n)
  unfolding fill_used
  used-rows = simp (eq-eqb (length m) state_words hm, le-leb least_room (length l) hl, hn)

  numbers-filled : fill_numbers m n l ≡ filled (rows_of (state_of m) n) l
  unfolding fill_numbers
  numbers-filled = simp (eq-eqb (length m) state_words hm, le-leb least_room (length l) hl, hn)

  -- demand 3
  pub filled-is-map : IsGuardMap (state_of m) n (fill_used m n l / 3) (fill_numbers m n l)
  filled-is-map =
      let e : fill_used m n l / 3 ≡ size (rows_of (state_of m) n) = omega (arith, used-rows) in
      rw (e, numbers-filled) (demand-3 (state_of m) n l hn)

  -- the part that is handed back has the map's numbers and no others
  pub used-is-map : used_part (fill_numbers m n l) (fill_used m n l) ≡ flat (rows_of (state_of m) n)
  unfolding used_part
  used-is-map =
      let rs = rows_of (state_of m) n in
      let h : row_numbers * size rs ≤ length l = omega (arith, guard-rows-most (state_of m) n) in
      let g : row_numbers * size rs ≤ length (filled rs l) = omega (arith, filled-length rs l h) in
      rw (used-rows, numbers-filled) (simp (le-leb (row_numbers * size rs) (length (filled rs l)) g) (filled-front rs l))

-- the mission's sentence of two parts that are handed back
pub used-sheets : (m m' : List ℕ) (n : ℕ) (l l' : List ℕ) → length m ≡ state_words → length m' ≡ state_words
    → least_room ≤ length l → least_room ≤ length l' → is_guard n ≡ true
    → (used_part (fill_numbers m n l) (fill_used m n l) ≡ used_part (fill_numbers m' n l') (fill_used m' n l')) ↔ SameGrants (state_of m) (state_of m') n
used-sheets m m' n l l' hm hm' hl hl' hn =
    rw (used-is-map m n l hm hl hn, used-is-map m' n l' hm' hl' hn) (sheets (state_of m) (state_of m') n hn)

-- ---- none is made

pub refused-part : (m : List ℕ) (n : ℕ) (l : List ℕ) → fills m n l ≡ false → used_part (fill_numbers m n l) (fill_used m n l) ≡ []
unfolding used_part fill_used fill_numbers
refused-part m n l h = simp (h, le-leb 0 (length l) (omega arith))
