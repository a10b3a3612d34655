-- A call that stands at a place has given it back and left it in lent memory, which is what code goes by.
use Rattle.std.specs.Prelude.{◌≡◌, ℕ, List}
use Rattle.stream.specs.Blocks.{Place, given}
use Rattle.stream.specs.declared.blocks.Taken.{Taken}

pub record Stands (s : Place) (r : Taken) (state line out : List ℕ) : Type 0 where
  pub taken : r ≡ given s
  pub words : state ≡ s.kept.words
  pub memory : line ≡ s.kept.memory
  pub bytes : out ≡ s.out
