-- `script::numbers::hex_at` meets its contract.
use mathlib.Core.Path.{◌∙◌}
use Prim.Native.Nat.{◌+◌}
use Rattle.script.proofs.Fixed.{hex-fixed, not_there, read-there}
use Rattle.script.proofs.Told.{told}
use Rattle.script.proofs.Places.{ends-within}
use Rattle.script.proofs.numbers.hex_at.Goals as goal

pub returns-then-not-ends : goal.returns-then-not-ends
returns-then-not-ends c =
    not_there hex-fixed _ _ (told c.ends.ensures (c.if-not-ends.true))

pub hex-requires : goal.hex-requires
hex-requires c =
    let a = c.args in
    ends-within a.line.now (a.from + 8) (told c.ends.ensures (c.if-not-ends.false))

pub returns : goal.returns
returns c =
    c.hex.ensures ∙ read-there hex-fixed _ _ (told c.ends.ensures (c.if-not-ends.false))
