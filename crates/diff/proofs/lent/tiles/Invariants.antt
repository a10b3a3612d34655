-- `diff::lent::tiles` meets its contract. The rows that are left go on from at as those of the whole do from 0, and as many numbers are over.
use mathlib.Core.Path.{◌≡◌}
use Prim.Native.Nat.{◌%◌}
use lib.ListN.{length}
use Rattle.diff.specs.Lent.{tiles_from}
use Rattle.diff.proofs.lent.tiles.Given as goal

abbrev pub invariant-loop-row : goal.invariant-loop-row
invariant-loop-row l =
    record {
      size : l.row-iterator.size ≡ 3;
      over : length l.row-iterator.rest.now % 3 ≡ length l.map % 3;
      same : tiles_from l.at l.window l.row-iterator.rest.now ≡ tiles_from 0 l.window l.map;
    }
