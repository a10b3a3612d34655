-- `script::numbers::either_at` meets its contract.
use mathlib.Core.List.{[], ◌∷◌}
use mathlib.Core.Path.{◌≡◌, sym, ap, ◌∙◌}
use Prim.Native.Nat.{◌+◌}
use native.Mathlib.Omega.{arith}
use lib.ListN.{get_or}
use Rattle.script.specs.Numbers.{either_of}
use Rattle.script.specs.Places.{field_from}
use Rattle.script.proofs.Fixed.{either-fixed, not_there, read-there}
use Rattle.script.proofs.Told.{told}
use Rattle.script.proofs.Places.{ends-within}
use Rattle.script.proofs.Same.{one_byte, either-byte}
use Rattle.script.proofs.numbers.either_at.Goals as goal

pub returns-then-not-ends : goal.returns-then-not-ends
returns-then-not-ends c =
    not_there (either-fixed _ _ c.requires.1 c.requires.2) _ _ (told c.ends.ensures (c.if-not-ends.true))

pub returns-then-b-this : goal.returns-then-b-this
returns-then-b-this c =
    let within = ends-within c.args.line.now (c.args.from + 1) (told c.ends.ensures (c.if-not-ends.false)) in
    let byte : either_of c.args.this c.args.that (get_or c.args.line.now c.args.from 0 ∷ []) ≡ either_of c.args.this c.args.that (field_from c.args.line.now c.args.from) = let a = c.args in ap (either_of a.this a.that) (sym (one_byte a.line.now a.from (omega (arith, within)))) ∙ read-there (either-fixed _ _ c.requires.1 c.requires.2) _ _ (told c.ends.ensures (c.if-not-ends.false)) in
    rw c.if-b-this.true at (either-byte _ _ _ ∙ byte)

pub returns-else-b-this : goal.returns-else-b-this
returns-else-b-this c =
    let within = ends-within c.args.line.now (c.args.from + 1) (told c.ends.ensures (c.if-not-ends.false)) in
    let byte : either_of c.args.this c.args.that (get_or c.args.line.now c.args.from 0 ∷ []) ≡ either_of c.args.this c.args.that (field_from c.args.line.now c.args.from) = let a = c.args in ap (either_of a.this a.that) (sym (one_byte a.line.now a.from (omega (arith, within)))) ∙ read-there (either-fixed _ _ c.requires.1 c.requires.2) _ _ (told c.ends.ensures (c.if-not-ends.false)) in
    rw c.if-b-this.false at (either-byte _ _ _ ∙ byte)

pub bounds-line-from : goal.bounds-line-from
bounds-line-from c =
    let within = ends-within c.args.line.now (c.args.from + 1) (told c.ends.ensures (c.if-not-ends.false)) in
    omega (arith, within)
