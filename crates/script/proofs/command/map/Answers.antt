-- `script::command::map` meets its contract: each field read so far says how the line goes on.
use mathlib.Core.Path.{◌∙◌}
use Rattle.std.specs.Prelude.{None}
use Rattle.script.specs.Command.{map_line}
use Rattle.script.proofs.Told.{told}
use Rattle.script.proofs.Readings.{either_way, fewer}
use Rattle.script.proofs.command.map.Goals as goal

pub returns-in_err-guard : goal.returns-in_err-guard
unfolding map_line
returns-in_err-guard c =
    c.from_residual.ensures ∙ rw (told c.decimal.ensures.value c.in_err-guard.was) (either_way _ None)

pub returns-then-not-is_empty : goal.returns-then-not-is_empty
unfolding map_line
returns-then-not-is_empty c =
    rw (c.in_ok-guard.ensures.next, fewer 2 0 c.decimal.new.self, told c.is_empty.ensures c.if-not-is_empty.true)

pub returns : goal.returns
unfolding map_line
returns c =
    rw (c.in_ok-guard.ensures.next, told c.decimal.ensures.value c.in_ok-guard.was, fewer 2 0 c.decimal.new.self, told c.is_empty.ensures c.if-not-is_empty.false)
