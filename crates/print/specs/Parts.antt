-- A part of a line, for which there is room, written at a place of a buffer: what code goes by.
use Rattle.std.specs.Prelude.{List, ◌≡◌, ℕ, ◌+◌, ◌≤◌, length}
use Rattle.print.specs.Writing.{over}

-- out' is out with the part written at `at`, and p is the place after it
pub record Wrote (out : List ℕ) (at : ℕ) (part out' : List ℕ) (p : ℕ) : Type 0 where
  pub next : p ≡ at + length part
  pub room : p ≤ length out
  pub bytes : out' ≡ over out at part
