-- What is said of a failure. Where a writer does not say its bytes, nothing is claimed of them.
use Rattle.std.specs.Prelude.{ℕ, List, ◌++◌, Option, codes}
use Rattle.std.specs.Io.KnownBytes.{Appends}

-- a line: what failed, and why
abbrev pub line_of : List ℕ → List ℕ → List ℕ
line_of what reason = what ++ (codes ": " ++ reason ++ codes "\n")

-- the reason is the text of the system's error, whose bytes std leaves open
pub record Said (writer writer' : Option (List ℕ)) (what : List ℕ) : Type 0 where
  pub reason : List ℕ
  pub appended : Appends writer writer' (line_of what reason)
