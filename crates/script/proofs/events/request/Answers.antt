-- `script::events::request` meets its contract: each field read so far says how the line goes on.
use mathlib.Core.Path.{◌∙◌}
use lib.Dec.{eqb}
use lib.ListN.{length}
use Rattle.std.specs.Prelude.{None}
use Rattle.script.specs.Command.{request_fields, rights_fields}
use Rattle.script.specs.Places.{last_rights}
use Rattle.script.proofs.Told.{told}
use Rattle.script.proofs.Readings.{either_way, fewer, test-none, test-some}
use Rattle.script.proofs.events.request.Goals as goal

pub returns-in_err-offset : goal.returns-in_err-offset
unfolding request_fields rights_fields last_rights
returns-in_err-offset c =
    c.from_residual.ensures ∙ rw (told c.hex.ensures.value c.in_err-offset.was) (either_way _ None)

pub returns-in_err-write : goal.returns-in_err-write
unfolding request_fields rights_fields last_rights
returns-in_err-write c =
    c.from_residual-in_err-write.ensures ∙ rw (c.in_ok-offset.ensures.next, told c.hex.ensures.value c.in_ok-offset.was, told c.either.ensures.value c.in_err-write.was) (either_way _ None)

pub returns-in_err-value : goal.returns-in_err-value
unfolding request_fields rights_fields last_rights
returns-in_err-value c =
    c.from_residual-in_err-value.ensures ∙ rw (c.in_ok-offset.ensures.next, c.in_ok-write.ensures.next, told c.hex.ensures.value c.in_ok-offset.was, told c.either.ensures.value c.in_ok-write.was, told c.hex-2.ensures.value c.in_err-value.was) (either_way _ None)

pub returns-in_err-secure : goal.returns-in_err-secure
unfolding request_fields rights_fields last_rights
returns-in_err-secure c =
    c.from_residual-in_err-secure.ensures ∙ rw (c.in_ok-offset.ensures.next, c.in_ok-write.ensures.next, c.in_ok-value.ensures.next, told c.hex.ensures.value c.in_ok-offset.was, told c.either.ensures.value c.in_ok-write.was, told c.hex-2.ensures.value c.in_ok-value.was, fewer 3 2 c.hex-2.new.self) (test-none (eqb (length c.hex-2.new.self) 2) (rights_fields c.hex-2.new.self 0) _ (told c.last_rights.ensures c.in_err-secure.was))

pub returns : goal.returns
unfolding request_fields rights_fields last_rights
returns c =
    rw (c.in_ok-offset.ensures.next, c.in_ok-write.ensures.next, c.in_ok-value.ensures.next, told c.hex.ensures.value c.in_ok-offset.was, told c.either.ensures.value c.in_ok-write.was, told c.hex-2.ensures.value c.in_ok-value.was, fewer 3 2 c.hex-2.new.self) (test-some (eqb (length c.hex-2.new.self) 2) (rights_fields c.hex-2.new.self 0) _ (told c.last_rights.ensures c.in_ok-secure.was))
