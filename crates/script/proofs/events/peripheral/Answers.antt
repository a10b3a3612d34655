-- `script::events::peripheral` meets its contract: each field read so far says how the line goes on.
use mathlib.Core.Path.{◌∙◌}
use lib.Dec.{eqb}
use lib.ListN.{length}
use Rattle.std.specs.Prelude.{None}
use Rattle.script.specs.Command.{peripheral_line, rights_fields}
use Rattle.script.specs.Places.{last_rights}
use Rattle.script.proofs.Told.{told}
use Rattle.script.proofs.Readings.{either_way, fewer, test-none, test-some}
use Rattle.script.proofs.events.peripheral.Goals as goal

pub returns-in_err-p : goal.returns-in_err-p
unfolding peripheral_line rights_fields last_rights
returns-in_err-p c =
    c.from_residual.ensures ∙ rw (told c.decimal.ensures.value c.in_err-p.was) (either_way _ None)

pub returns-in_err-operation : goal.returns-in_err-operation
unfolding peripheral_line rights_fields last_rights
returns-in_err-operation c =
    c.from_residual-in_err-operation.ensures ∙ rw (c.in_ok-p.ensures.next, told c.decimal.ensures.value c.in_ok-p.was, told c.operation.ensures.value c.in_err-operation.was) (either_way _ None)

pub returns-in_err-secure : goal.returns-in_err-secure
unfolding peripheral_line rights_fields last_rights
returns-in_err-secure c =
    c.from_residual-in_err-secure.ensures ∙ rw (c.in_ok-p.ensures.next, c.in_ok-operation.ensures.next, told c.decimal.ensures.value c.in_ok-p.was, told c.operation.ensures.value c.in_ok-operation.was, fewer 3 2 c.operation.new.self) (test-none (eqb (length c.operation.new.self) 2) (rights_fields c.operation.new.self 0) _ (told c.last_rights.ensures c.in_err-secure.was))

pub returns : goal.returns
unfolding peripheral_line rights_fields last_rights
returns c =
    rw (c.in_ok-p.ensures.next, c.in_ok-operation.ensures.next, told c.decimal.ensures.value c.in_ok-p.was, told c.operation.ensures.value c.in_ok-operation.was, fewer 3 2 c.operation.new.self) (test-some (eqb (length c.operation.new.self) 2) (rights_fields c.operation.new.self 0) _ (told c.last_rights.ensures c.in_ok-secure.was))
