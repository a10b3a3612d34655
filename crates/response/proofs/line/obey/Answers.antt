-- `response::line::obey` meets its contract: each kind of line by its own function.
use mathlib.Core.Path.{refl, sym, ap, ◌∙◌}
use Rattle.std.specs.Prelude.{Some}
use Rattle.response.specs.Response.{left_by, text_of}
use Rattle.response.proofs.line.obey.Goals as goal

pub returns-in_default : goal.returns-in_default
unfolding text_of left_by
returns-in_default c =
    let line = sym c.read_line.ensures ∙ c.in_default.is in
    record { wrote = rw line c.put_bad.ensures; state_after = rw line refl }

pub returns-in-Event : goal.returns-in-Event
unfolding text_of left_by
returns-in-Event c =
    let line = sym c.read_line.ensures ∙ c.in-Some.is ∙ ap Some c.in-Event.is in
    let e = c.obey_event.ensures in
    record { wrote = rw line e.wrote; state_after = rw line e.state_after }

pub returns-in-Map : goal.returns-in-Map
unfolding text_of left_by
returns-in-Map c =
    let line = sym c.read_line.ensures ∙ c.in-Some.is ∙ ap Some c.in-Map.is in
    record { wrote = rw line c.put_map.ensures; state_after = rw line refl }
