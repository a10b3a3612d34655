-- The answer to a read, as the code makes it.
use mathlib.Core.Bool.{false}
use mathlib.Core.Path.{◌≡◌, refl}
use Prim.Native.Nat.{ℕ}
use Rattle.std.specs.Prelude.{Some, None}
use Rattle.access.specs.Checks.{answered_with, no_register, reached_with}
use Rattle.access.specs.declared.request.Request.{Request}
use Rattle.iac.specs.Port.{answer_of, checks_of, read_answer, read_at}
use Rattle.iac.specs.declared.registers.Row.{Row}

pub read_is : (row : Row) (old : ℕ) (q : Request) → q.write ≡ false → answer_of row old q ≡ read_answer (Some row) old q
unfolding answer_of checks_of answered_with reached_with read_answer read_at
read_is row old q w = rw w refl

-- of no register
pub read_none : (old : ℕ) (q : Request) → no_register q.offset ≡ read_answer None old q
unfolding answered_with reached_with read_answer read_at
read_none old q = refl
