-- `script::reader::Reader::decimal` meets its contract: the next field starts behind the end of this one.
use mathlib.Core.Path.{sym, ◌∙◌}
use native.Mathlib.Omega.{arith}
use Rattle.script.proofs.Places.{starts-begin}
use Rattle.script.proofs.Readings.{decimal-none, decimal-read, decimal-next, split-first}
use Rattle.script.proofs.reader.Reader.decimal.Goals as goal

pub returns-in_err-value-clause-value : goal.returns-in_err-value-clause-value
returns-in_err-value-clause-value c =
    c.from_residual.ensures ∙ rw (← c.self.view_is) (sym (decimal-none (starts-begin _ _ c.self.invariant) c.decimal_at.ensures c.in_err-value.was))

pub overflow_add-self : goal.overflow_add-self
overflow_add-self c =
    let next = decimal-next (starts-begin _ _ c.self.invariant) c.decimal_at.ensures c.in_ok-value.was in
    omega (arith, next.within)

pub invariant_of-self : goal.invariant_of-self
invariant_of-self c = (decimal-next (starts-begin _ _ c.self.invariant) c.decimal_at.ensures c.in_ok-value.was).within

pub returns-clause-value : goal.returns-clause-value
returns-clause-value c = rw (← c.self.view_is) (sym (decimal-read (starts-begin _ _ c.self.invariant) c.decimal_at.ensures c.in_ok-value.was))

pub returns-clause-next : goal.returns-clause-next
returns-clause-next c = rw (← c.self.view_is) (split-first _ (decimal-next (starts-begin _ _ c.self.invariant) c.decimal_at.ensures c.in_ok-value.was))
