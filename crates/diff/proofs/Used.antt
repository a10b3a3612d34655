-- What a result is, of the numbers that `fill` leaves and of the part that is handed back, for lent maps of any contents.
use mathlib.Core.Bool.{true, false}
use mathlib.Core.List.{List, []}
use mathlib.Core.Path.{◌≡◌, refl}
use Prim.Native.Nat.{ℕ, ◌*◌, ◌/◌, ◌≤◌}
use native.Mathlib.Omega.{arith}
use lib.ListN.{length, drop}
use borrow.Author.Tests.{le-leb}
use Rattle.access.specs.declared.answer.Answer.TheVariants.{Done}
use Rattle.map.specs.Part.{used_part}
use Rattle.risaf.specs.Guards.{shape_of}
use Rattle.diff.specs.Diff.{IsDiff}
use Rattle.diff.specs.Fill.{most_diff_rows, lengths_fit, mapped, taken, rows_between, diff_answer, diff_used, diff_numbers}
use Rattle.diff.specs.Lent.{map_rights}
use Rattle.diff.specs.Rows.{diff_row_numbers, flat_diff, size_diff, filled_diff}
use Rattle.diff.proofs.Made.{lengths, maps}
use Rattle.diff.proofs.Memory.{filled-front, filled-rest, filled-length}
use Rattle.diff.proofs.Results.{diff-in-memory}
use Rattle.diff.proofs.Tests.{both}
use Rattle.diff.proofs.Walked.{most-rows}

-- ---- a result is made

module _ (n : ℕ) (b a l : List ℕ) (h : taken n b a l ≡ true) where
  tests : (lengths_fit b a l ≡ true) × (mapped n b a ≡ true)
  tests = both (lengths_fit b a l) (mapped n b a) h

  pub rows_few : size_diff (rows_between n b a) ≤ most_diff_rows
  unfolding rows_between
  rows_few =
      let p = lengths b a l tests.0 in
      let q = maps n b a tests.1 in
      most-rows b a (shape_of n).window p.0 p.1 l p.2 q.1 q.2

  pub done : diff_answer n b a l ≡ Done 0
  unfolding diff_answer
  done = rw (tests.0, tests.1)

  -- five numbers to a row
  pub used-rows : diff_used n b a l ≡ diff_row_numbers * size_diff (rows_between n b a)
  unfolding diff_used
  used-rows = rw h

  pub numbers-filled : diff_numbers n b a l ≡ filled_diff (rows_between n b a) l
  unfolding diff_numbers
  numbers-filled = rw h

  -- the numbers are what differs between the two maps
  pub filled-is-diff : IsDiff (map_rights b) (map_rights a) (shape_of n).window (diff_used n b a l / diff_row_numbers) (diff_numbers n b a l)
  unfolding rows_between
  filled-is-diff =
      let e : diff_used n b a l / diff_row_numbers ≡ size_diff (rows_between n b a) = omega (arith, used-rows) in
      rw (e, numbers-filled) (diff-in-memory (map_rights b) (map_rights a) (shape_of n).window l)

  -- the part that is handed back has its numbers and no others, and the rest is unchanged
  pub used-is-diff : used_part (diff_numbers n b a l) (diff_used n b a l) ≡ flat_diff (rows_between n b a)
  unfolding used_part
  used-is-diff =
      let rs = rows_between n b a in
      let room : diff_row_numbers * size_diff rs ≤ length l = omega (arith, rows_few, (lengths b a l tests.0).2) in
      let g : diff_row_numbers * size_diff rs ≤ length (filled_diff rs l) = omega (arith, filled-length rs l room) in
      rw (used-rows, numbers-filled) (simp (le-leb (diff_row_numbers * size_diff rs) (length (filled_diff rs l)) g) (filled-front rs l))

  pub rest-kept : drop (diff_used n b a l) (diff_numbers n b a l) ≡ drop (diff_used n b a l) l
  rest-kept = rw (used-rows, numbers-filled) (filled-rest (rows_between n b a) l)

-- ---- none is made

pub refused-part : (n : ℕ) (b a l : List ℕ) → taken n b a l ≡ false
    → (used_part (diff_numbers n b a l) (diff_used n b a l) ≡ []) × (diff_numbers n b a l ≡ l)
unfolding used_part diff_used diff_numbers
refused-part n b a l h = simp (h, le-leb 0 (length l) (omega arith)) (refl, refl)
