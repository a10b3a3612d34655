-- What a line does and prints: document 01, "Each event prints `ans`, number, value in 8 hex digits; a done `map` prints only its sheet, ..
-- Any other line prints `bad` and its line number and changes nothing."
use Rattle.std.specs.Prelude.{Bool, cond, List, ℕ, ◌+◌, leb, length, Option, Some, None}
use Rattle.access.specs.Answer.{number_of, value_of}
use Rattle.access.specs.declared.answer.Answer.{Answer}
use Rattle.access.specs.declared.answer.Answer.TheVariants.{Rejected}
use Rattle.access.specs.declared.answer.Why.TheVariants.{NoSuch, WrongLength}
use Rattle.risaf.specs.Guards.{is_guard}
use Rattle.device.specs.Applied.{sized, applied_answer, applied_state}
use Rattle.device.specs.Layout.{state_of}
use Rattle.map.specs.Map.{rows_of}
use Rattle.script.specs.Command.{command_of}
use Rattle.print.specs.Print.{answer_line, bad_line}
use Rattle.print.specs.Writing.{over}
use Rattle.script.specs.declared.command.Command.{Command}
use Rattle.script.specs.declared.command.Command.TheVariants.{Event, Map}
use Rattle.response.specs.Sheet.{sheet}

unfoldable pub answer_text : Answer → List ℕ
answer_text a = answer_line (number_of a) (value_of a)

-- the map of guard n of the state in the words m
unfoldable pub map_text : List ℕ → ℕ → List ℕ
map_text m n = cond (sized m) (cond (is_guard n) (sheet n (rows_of (state_of m) n)) (answer_text (Rejected NoSuch))) (answer_text (Rejected WrongLength))

-- ---- a line's command, or none, on the words m

-- what it prints, as the line with that number
unfoldable pub text_of : Option Command → ℕ → List ℕ → List ℕ
text_of (Some (Event e)) number m = answer_text (applied_answer e m)
text_of (Some (Map n)) number m = map_text m n.0
text_of None number m = bad_line number

-- what it leaves
unfoldable pub left_by : Option Command → List ℕ → List ℕ
left_by (Some (Event e)) m = applied_state e m
left_by (Some (Map n)) m = m
left_by None m = m

-- ---- a line, printed at a place of a buffer; without room_for_longest for the longest text nothing is done

-- the longest text is shorter
abbrev pub most : ℕ
most = 2800

abbrev pub room_for_longest : List ℕ → ℕ → Bool
room_for_longest out at = leb (at + most) (length out)

unfoldable pub place_after : List ℕ → ℕ → List ℕ → List ℕ → ℕ → ℕ
place_after line number m out at = cond (room_for_longest out at) (at + length (text_of (command_of line) number m)) at

unfoldable pub bytes_after : List ℕ → ℕ → List ℕ → List ℕ → ℕ → List ℕ
bytes_after line number m out at = cond (room_for_longest out at) (over out at (text_of (command_of line) number m)) out

unfoldable pub state_after : List ℕ → List ℕ → List ℕ → ℕ → List ℕ
state_after line m out at = cond (room_for_longest out at) (left_by (command_of line) m) m
