-- `stream::feeds::split_line` meets its contract: the first feed ends the first line.
use Rattle.std.proofs.Common.{◌+◌}
use Rattle.stream.proofs.Ends.{first-line, no-line}
use Rattle.stream.proofs.Stops.{part_left}
use Rattle.stream.proofs.feeds.split_line.Goals as goal

pub returns-in_err-end : goal.returns-in_err-end
returns-in_err-end c = rw c.from_residual.ensures (no-line c.args.block.now c.in_err-end.ensures)

pub returns : goal.returns
returns c = rw (part_left c.args.block.now (c.in_ok-end.end + 1)) (first-line c.args.block.now c.in_ok-end.ensures)
