-- `stream::blocks::take_lines` meets its contract: from each line the call stops where it stops from the first.
use Rattle.std.proofs.Common.{◌≡◌, ◌-◌, ◌≤◌, length}
use Rattle.stream.specs.Blocks.{place_at, stop}
use Rattle.stream.specs.Kept.{kept_of, nothing_of}
use Rattle.stream.specs.Transcript.{lines_in}
use Rattle.stream.proofs.blocks.take_lines.Given as goal

abbrev pub invariant-loop-text : goal.invariant-loop-text
invariant-loop-text l =
    record {
      words : length l.state ≡ length l.initial.state;
      bytes : length l.out ≡ length l.initial.out;
      within : length l.left ≤ l.size;
      same : stop (place_at (l.size - length l.block) (kept_of (nothing_of l.number) l.line l.initial.state) l.initial.out l.at) (lines_in l.block)
          ≡ stop (place_at (l.size - length l.left) (kept_of (nothing_of l.next) l.line l.state) l.out l.place) (lines_in l.left);
    }

abbrev pub decreases-loop-text : goal.decreases-loop-text
decreases-loop-text l = length l.left
