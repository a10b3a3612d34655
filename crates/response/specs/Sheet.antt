-- The sheet of a map: document 01, "a done `map` prints only its sheet, `end` giving its count of spans".
use Rattle.std.specs.Prelude.{List, [], ◌++◌, ℕ}
use Rattle.spans.specs.Rows.{Rows, none, more, size}
use Rattle.print.specs.Print.{span_line, guard_line, end_line}

-- a line for each row
unfoldable pub span_lines : Rows → List ℕ
span_lines none = []
span_lines (more rs start end rights) = span_lines rs ++ span_line start end rights

-- the sheet of guard n with these rows
unfoldable pub sheet : ℕ → Rows → List ℕ
sheet n rs = guard_line n ++ span_lines rs ++ end_line (size rs)
