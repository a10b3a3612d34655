-- `script::reader::Reader::last_rights` meets its contract: each field read so far says how the line goes on.
use mathlib.Core.Path.{◌∙◌}
use Rattle.std.specs.Prelude.{None}
use Rattle.script.specs.Command.{rights_fields}
use Rattle.script.specs.Places.{last_rights}
use Rattle.script.proofs.Told.{told}
use Rattle.script.proofs.Readings.{either_way, fewer}
use Rattle.script.proofs.reader.Reader.last_rights.Goals as goal

pub returns-in_err-secure : goal.returns-in_err-secure
unfolding last_rights rights_fields
returns-in_err-secure c =
    c.from_residual.ensures ∙ rw (told c.either.ensures.value c.in_err-secure.was) (either_way _ None)

pub returns-in_err-privileged : goal.returns-in_err-privileged
unfolding last_rights rights_fields
returns-in_err-privileged c =
    c.from_residual-in_err-privileged.ensures ∙ rw (c.in_ok-secure.ensures.next, told c.either.ensures.value c.in_ok-secure.was, told c.either-2.ensures.value c.in_err-privileged.was) (either_way _ None)

pub returns-then-not-is_empty : goal.returns-then-not-is_empty
unfolding last_rights rights_fields
returns-then-not-is_empty c =
    rw (c.in_ok-secure.ensures.next, c.in_ok-privileged.ensures.next, fewer 2 0 c.either-2.new.self, told c.is_empty.ensures c.if-not-is_empty.true)

pub returns : goal.returns
unfolding last_rights rights_fields
returns c =
    rw (c.in_ok-secure.ensures.next, c.in_ok-privileged.ensures.next, told c.either.ensures.value c.in_ok-secure.was, told c.either-2.ensures.value c.in_ok-privileged.was, fewer 2 0 c.either-2.new.self, told c.is_empty.ensures c.if-not-is_empty.false)
