-- The order of the checks: document 01, "Order: 8, 4, 5, 6, 7, unknown offset (3), 1, wrong direction (3), 2, effect".
-- 8 comes first of all, before lent memory is read as a state.
use Rattle.std.specs.Prelude.{Bool, true, false, ℕ, ◌%◌, eqb}
use Rattle.access.specs.declared.answer.Why.TheVariants.{Locked, NoRegister, NoSuch, Misaligned, Outside, Fetch}
use Rattle.access.specs.declared.answer.Answer.{Answer}
use Rattle.access.specs.declared.answer.Answer.TheVariants.{Done, Refused, Rejected}
use Rattle.access.specs.declared.checks.Checks.{Checks}

-- a refusal unless the test is passed
abbrev pub unless : Bool → Answer → Answer → Answer
unless true refusal rest = rest
unless false refusal rest = refusal

-- unknown offset (3), 1, wrong direction (3), 2, effect. value is that of 0, reason that of 1
unfoldable pub reached_with : Checks → ℕ → ℕ → Answer
reached_with c value reason =
    unless c.known (Rejected NoRegister)
    (unless c.allowed (Refused reason)
    (unless c.direction (Rejected NoRegister)
    (unless c.unlocked (Rejected Locked)
    (Done value))))

-- 4, 5, 6, 7, and the rest
unfoldable pub answered_with : Checks → ℕ → ℕ → Answer
answered_with c value reason =
    unless c.present (Rejected NoSuch)
    (unless c.aligned (Rejected Misaligned)
    (unless c.inside (Rejected Outside)
    (unless c.fetchless (Rejected Fetch)
    (reached_with c value reason))))

-- of an event whose refusals have no reason: "for memory and master accesses number 1 gives the reason, elsewhere 0" (Q-5)
abbrev pub reached : Checks → ℕ → Answer
reached c value = reached_with c value 0

abbrev pub answered : Checks → ℕ → Answer
answered c value = answered_with c value 0

-- of a register access at an offset that is no register's: 5, 3
abbrev pub no_register : ℕ → Answer
no_register offset =
    answered
    (record {
      present = true;
      aligned = eqb (offset % 4) 0;
      inside = true;
      fetchless = true;
      known = false;
      allowed = true;
      direction = true;
      unlocked = true;
    })
    0
