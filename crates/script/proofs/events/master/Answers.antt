-- `script::events::master` meets its contract: each field read so far says how the line goes on.
use mathlib.Core.Path.{◌∙◌}
use Rattle.std.specs.Prelude.{None}
use Rattle.script.specs.Command.{master_line, target_fields}
use Rattle.script.proofs.Told.{told}
use Rattle.script.proofs.Readings.{either_way, fewer}
use Rattle.script.proofs.events.master.Goals as goal

pub returns-in_err-master : goal.returns-in_err-master
unfolding master_line target_fields
returns-in_err-master c =
    c.from_residual.ensures ∙ rw (told c.decimal.ensures.value c.in_err-master.was) (either_way _ None)

pub returns-in_err-guard : goal.returns-in_err-guard
unfolding master_line target_fields
returns-in_err-guard c =
    c.from_residual-in_err-guard.ensures ∙ rw (c.in_ok-master.ensures.next, told c.decimal.ensures.value c.in_ok-master.was, told c.decimal-2.ensures.value c.in_err-guard.was) (either_way _ None)

pub returns-in_err-offset : goal.returns-in_err-offset
unfolding master_line target_fields
returns-in_err-offset c =
    c.from_residual-in_err-offset.ensures ∙ rw (c.in_ok-master.ensures.next, c.in_ok-guard.ensures.next, told c.decimal.ensures.value c.in_ok-master.was, told c.decimal-2.ensures.value c.in_ok-guard.was, told c.hex.ensures.value c.in_err-offset.was) (either_way _ None)

pub returns-in_err-width : goal.returns-in_err-width
unfolding master_line target_fields
returns-in_err-width c =
    c.from_residual-in_err-width.ensures ∙ rw (c.in_ok-master.ensures.next, c.in_ok-guard.ensures.next, c.in_ok-offset.ensures.next, told c.decimal.ensures.value c.in_ok-master.was, told c.decimal-2.ensures.value c.in_ok-guard.was, told c.hex.ensures.value c.in_ok-offset.was, told c.decimal-3.ensures.value c.in_err-width.was) (either_way _ None)

pub returns-in_err-write : goal.returns-in_err-write
unfolding master_line target_fields
returns-in_err-write c =
    c.from_residual-in_err-write.ensures ∙ rw (c.in_ok-master.ensures.next, c.in_ok-guard.ensures.next, c.in_ok-offset.ensures.next, c.in_ok-width.ensures.next, told c.decimal.ensures.value c.in_ok-master.was, told c.decimal-2.ensures.value c.in_ok-guard.was, told c.hex.ensures.value c.in_ok-offset.was, told c.decimal-3.ensures.value c.in_ok-width.was, told c.either.ensures.value c.in_err-write.was) (either_way _ None)

pub returns-then-not-is_empty : goal.returns-then-not-is_empty
unfolding master_line target_fields
returns-then-not-is_empty c =
    rw (c.in_ok-master.ensures.next, c.in_ok-guard.ensures.next, c.in_ok-offset.ensures.next, c.in_ok-width.ensures.next, c.in_ok-write.ensures.next, fewer 6 0 c.either.new.self, told c.is_empty.ensures c.if-not-is_empty.true)

pub returns : goal.returns
unfolding master_line target_fields
returns c =
    rw (c.in_ok-master.ensures.next, c.in_ok-guard.ensures.next, c.in_ok-offset.ensures.next, c.in_ok-width.ensures.next, c.in_ok-write.ensures.next, told c.decimal.ensures.value c.in_ok-master.was, told c.decimal-2.ensures.value c.in_ok-guard.was, told c.hex.ensures.value c.in_ok-offset.was, told c.decimal-3.ensures.value c.in_ok-width.was, told c.either.ensures.value c.in_ok-write.was, fewer 6 0 c.either.new.self, told c.is_empty.ensures c.if-not-is_empty.false)
