-- Filling lent numbers l with what differs between two lent maps of guard n, before and after.
use Rattle.std.specs.Prelude.{Bool, ◌&&◌, cond, List, ℕ, ◌+◌, ◌-◌, ◌*◌, ◌%◌, leb, eqb, length}
use Rattle.access.specs.declared.answer.Answer.{Answer}
use Rattle.access.specs.declared.answer.Answer.TheVariants.{Done, Rejected}
use Rattle.access.specs.declared.answer.Why.TheVariants.{NoSuch, WrongLength}
use Rattle.risaf.specs.Guards.{is_guard, shape_of}
use Rattle.map.specs.Fill as map
use Rattle.diff.specs.Diff.{diff_of}
use Rattle.diff.specs.Lent.{tiles, map_rights}
use Rattle.diff.specs.Rows.{DiffRows, diff_row_numbers, size_diff, filled_diff}

-- "665 numbers (133 rows of five)": a row ends where one of the two maps has a row that ends, and both end together
abbrev pub most_diff_rows : ℕ
most_diff_rows = map.most_rows + map.most_rows - 1

abbrev pub least_diff_room : ℕ
least_diff_room = diff_row_numbers * most_diff_rows

-- no "map whose count of numbers is over 201 or no multiple of 3"
abbrev pub map_sized : List ℕ → Bool
map_sized m = leb (length m) map.least_room && eqb (length m % map.row_numbers) 0

-- the room and the maps have lengths that will do; else 8
abbrev pub lengths_fit : List ℕ → List ℕ → List ℕ → Bool
lengths_fit before after l = leb least_diff_room (length l) && map_sized before && map_sized after

-- there is such a guard, and both are maps of it; else 4: "then no such guard, or a map whose starts and ends break 01's rule for a map as made, gets 4"
abbrev pub mapped : ℕ → List ℕ → List ℕ → Bool
mapped n before after = is_guard n && tiles (shape_of n).window before && tiles (shape_of n).window after

-- a result is made
abbrev pub taken : ℕ → List ℕ → List ℕ → List ℕ → Bool
taken n before after l = lengths_fit before after l && mapped n before after

-- the rows of the result
unfoldable pub rows_between : ℕ → List ℕ → List ℕ → DiffRows
rows_between n before after = diff_of (map_rights before) (map_rights after) (shape_of n).window

-- "done, it gives value 0"
unfoldable pub diff_answer : ℕ → List ℕ → List ℕ → List ℕ → Answer
diff_answer n before after l = cond (lengths_fit before after l) (cond (mapped n before after) (Done 0) (Rejected NoSuch)) (Rejected WrongLength)

-- how many numbers are used
unfoldable pub diff_used : ℕ → List ℕ → List ℕ → List ℕ → ℕ
diff_used n before after l = cond (taken n before after l) (diff_row_numbers * size_diff (rows_between n before after)) 0

-- the lent numbers after it: "A refusal changes nothing", and else "the rest unchanged"
unfoldable pub diff_numbers : ℕ → List ℕ → List ℕ → List ℕ → List ℕ
diff_numbers n before after l = cond (taken n before after l) (filled_diff (rows_between n before after) l) l
