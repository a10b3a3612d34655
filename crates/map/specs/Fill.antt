-- Filling lent numbers with the map of guard n of the state in lent words: 8 for words of the wrong length or fewer than 201 numbers, then 4
-- for no such guard, else 0. The rest of the numbers, and on refusal all of them, stay as they were.
use Rattle.std.specs.Prelude.{Bool, ◌&&◌, cond, List, ℕ, ◌*◌, leb, length, Result, Ok, Err}
use Rattle.std.specs.Result.{result_unwrap_or}
use Rattle.access.specs.declared.answer.Answer.{Answer}
use Rattle.access.specs.declared.answer.Answer.TheVariants.{Done, Rejected}
use Rattle.access.specs.declared.answer.Why.{Why}
use Rattle.access.specs.declared.answer.Why.TheVariants.{NoSuch, WrongLength}
use Rattle.risaf.specs.Guards.{is_guard}
use Rattle.spans.specs.Rows.{size, filled}
use Rattle.device.specs.Layout.{state_of}
use Rattle.device.specs.Applied.{sized}
use Rattle.map.specs.Map.{rows_of}

-- rows of three numbers, of which no map has more than 67
abbrev pub row_numbers : ℕ
row_numbers = 3

abbrev pub most_rows : ℕ
most_rows = 67

abbrev pub least_room : ℕ
least_room = row_numbers * most_rows

-- what a result of filling says: the answer, done or why not, and how many numbers are used, none on refusal
abbrev pub answer_of : Result ℕ Why → Answer
answer_of (Ok used) = Done 0
answer_of (Err why) = Rejected why

abbrev pub used_of : Result ℕ Why → ℕ
used_of filled = result_unwrap_or filled 0

unfoldable pub fill_answer : List ℕ → ℕ → List ℕ → Answer
fill_answer m n l = cond (sized m && leb least_room (length l)) (cond (is_guard n) (Done 0) (Rejected NoSuch)) (Rejected WrongLength)

-- the map is made
abbrev pub fills : List ℕ → ℕ → List ℕ → Bool
fills m n l = sized m && leb least_room (length l) && is_guard n

-- how many numbers are used
unfoldable pub fill_used : List ℕ → ℕ → List ℕ → ℕ
fill_used m n l = cond (fills m n l) (row_numbers * size (rows_of (state_of m) n)) 0

-- the lent numbers after it
unfoldable pub fill_numbers : List ℕ → ℕ → List ℕ → List ℕ
fill_numbers m n l = cond (fills m n l) (filled (rows_of (state_of m) n) l) l
