-- The whole output of a whole input: document 01, "The program starts from reset and reads lines .. before a line feed .. Lines count from
-- 1; a last line without a feed is bad. Any other line prints `bad` and its line number and changes nothing."
use Prim.Native.Char.{code}
use Rattle.std.specs.Prelude.{ℕ, suc, cond, List, [], ◌∷◌, ◌++◌, length, ◌==◌}
use Rattle.device.specs.Layout.{layout}
use Rattle.device.specs.State.{reset_state}
use Rattle.print.specs.Print.{bad_line}
use Rattle.script.specs.Command.{command_of}
use Rattle.response.specs.Response.{left_by, text_of}

abbrev pub feed : ℕ
feed = code "\n"

-- ---- an input as lines

-- what stands before each feed, in order, and what stands behind the last
pub data Lines : Type 0 where
  line : List ℕ → Lines → Lines
  rest : List ℕ → Lines

-- the lines with b before the first
unfoldable pub before : ℕ → Lines → Lines
before b (line l more) = line (b ∷ l) more
before b (rest l) = rest (b ∷ l)

unfoldable pub lines_in : List ℕ → Lines
lines_in [] = rest []
lines_in (b ∷ bs) =
    let ls = lines_in bs in
    cond (b == feed) (line [] ls) (before b ls)

-- how many there are; what stands behind the last feed is one where anything does
unfoldable pub count : Lines → ℕ
count (line l more) = suc (count more)
count (rest l) = cond (length l == 0) 0 1

-- ---- what they print, the first with that number, on the words m

-- the end of the input, with so many bytes behind the last feed
unfoldable pub end_text : ℕ → ℕ → List ℕ
end_text bytes number = cond (bytes == 0) [] (bad_line number)

unfoldable pub printed : ℕ → List ℕ → Lines → List ℕ
printed number m (line l more) = text_of (command_of l) number m ++ printed (suc number) (left_by (command_of l) m) more
printed number m (rest l) = end_text (length l) number

-- ---- the whole output, from reset

unfoldable pub transcript : List ℕ → List ℕ
transcript input = printed 1 (layout reset_state) (lines_in input)
