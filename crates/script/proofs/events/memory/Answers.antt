-- `script::events::memory` meets its contract: each field read so far says how the line goes on.
use mathlib.Core.Path.{◌∙◌}
use lib.Dec.{eqb}
use lib.ListN.{length}
use Rattle.std.specs.Prelude.{None}
use Rattle.script.specs.Command.{memory_line, target_fields, rights_fields}
use Rattle.script.specs.Places.{last_rights}
use Rattle.script.proofs.Told.{told}
use Rattle.script.proofs.Readings.{either_way, fewer, test-none, test-some}
use Rattle.script.proofs.events.memory.Goals as goal

pub returns-in_err-guard : goal.returns-in_err-guard
unfolding memory_line target_fields rights_fields last_rights
returns-in_err-guard c =
    c.from_residual.ensures ∙ rw (told c.decimal.ensures.value c.in_err-guard.was) (either_way _ None)

pub returns-in_err-offset : goal.returns-in_err-offset
unfolding memory_line target_fields rights_fields last_rights
returns-in_err-offset c =
    c.from_residual-in_err-offset.ensures ∙ rw (c.in_ok-guard.ensures.next, told c.decimal.ensures.value c.in_ok-guard.was, told c.hex.ensures.value c.in_err-offset.was) (either_way _ None)

pub returns-in_err-width : goal.returns-in_err-width
unfolding memory_line target_fields rights_fields last_rights
returns-in_err-width c =
    c.from_residual-in_err-width.ensures ∙ rw (c.in_ok-guard.ensures.next, c.in_ok-offset.ensures.next, told c.decimal.ensures.value c.in_ok-guard.was, told c.hex.ensures.value c.in_ok-offset.was, told c.decimal-2.ensures.value c.in_err-width.was) (either_way _ None)

pub returns-in_err-write : goal.returns-in_err-write
unfolding memory_line target_fields rights_fields last_rights
returns-in_err-write c =
    c.from_residual-in_err-write.ensures ∙ rw (c.in_ok-guard.ensures.next, c.in_ok-offset.ensures.next, c.in_ok-width.ensures.next, told c.decimal.ensures.value c.in_ok-guard.was, told c.hex.ensures.value c.in_ok-offset.was, told c.decimal-2.ensures.value c.in_ok-width.was, told c.either.ensures.value c.in_err-write.was) (either_way _ None)

pub returns-in_err-cid : goal.returns-in_err-cid
unfolding memory_line target_fields rights_fields last_rights
returns-in_err-cid c =
    c.from_residual-in_err-cid.ensures ∙ rw (c.in_ok-guard.ensures.next, c.in_ok-offset.ensures.next, c.in_ok-width.ensures.next, c.in_ok-write.ensures.next, told c.decimal.ensures.value c.in_ok-guard.was, told c.hex.ensures.value c.in_ok-offset.was, told c.decimal-2.ensures.value c.in_ok-width.was, told c.either.ensures.value c.in_ok-write.was, told c.decimal-3.ensures.value c.in_err-cid.was) (either_way _ None)

pub returns-in_err-secure : goal.returns-in_err-secure
unfolding memory_line target_fields rights_fields last_rights
returns-in_err-secure c =
    c.from_residual-in_err-secure.ensures ∙ rw (c.in_ok-guard.ensures.next, c.in_ok-offset.ensures.next, c.in_ok-width.ensures.next, c.in_ok-write.ensures.next, c.in_ok-cid.ensures.next, told c.decimal.ensures.value c.in_ok-guard.was, told c.hex.ensures.value c.in_ok-offset.was, told c.decimal-2.ensures.value c.in_ok-width.was, told c.either.ensures.value c.in_ok-write.was, told c.decimal-3.ensures.value c.in_ok-cid.was, fewer 6 2 c.decimal-3.new.self) (test-none (eqb (length c.decimal-3.new.self) 2) (rights_fields c.decimal-3.new.self 0) _ (told c.last_rights.ensures c.in_err-secure.was))

pub returns : goal.returns
unfolding memory_line target_fields rights_fields last_rights
returns c =
    rw (c.in_ok-guard.ensures.next, c.in_ok-offset.ensures.next, c.in_ok-width.ensures.next, c.in_ok-write.ensures.next, c.in_ok-cid.ensures.next, told c.decimal.ensures.value c.in_ok-guard.was, told c.hex.ensures.value c.in_ok-offset.was, told c.decimal-2.ensures.value c.in_ok-width.was, told c.either.ensures.value c.in_ok-write.was, told c.decimal-3.ensures.value c.in_ok-cid.was, fewer 6 2 c.decimal-3.new.self) (test-some (eqb (length c.decimal-3.new.self) 2) (rights_fields c.decimal-3.new.self 0) _ (told c.last_rights.ensures c.in_ok-secure.was))
