-- `script::numbers::operation_at` meets its contract.
use mathlib.Core.List.{[], ◌∷◌}
use mathlib.Core.Path.{◌≡◌, sym, ap, ◌∙◌}
use Prim.Native.Nat.{◌+◌}
use native.Mathlib.Omega.{arith}
use lib.ListN.{get_or}
use Rattle.script.specs.Fields.{same}
use Rattle.script.specs.Numbers.{operation_of}
use Rattle.script.specs.Places.{field_from}
use Rattle.script.proofs.Fixed.{operation-fixed, not_there, read-there}
use Rattle.script.proofs.Told.{told}
use Rattle.script.proofs.Places.{ends-within}
use Rattle.script.proofs.Same.{one_byte, other_byte}
use Rattle.script.proofs.numbers.operation_at.Goals as goal

pub returns-then-not-ends : goal.returns-then-not-ends
returns-then-not-ends c =
    not_there operation-fixed _ _ (told c.ends.ensures (c.if-not-ends.true))

pub returns-in-114 : goal.returns-in-114
unfolding operation_of same
returns-in-114 c =
    let within = ends-within c.args.line.now (c.args.from + 1) (told c.ends.ensures (c.if-not-ends.false)) in
    let byte : operation_of (get_or c.args.line.now c.args.from 0 ∷ []) ≡ operation_of (field_from c.args.line.now c.args.from) = let a = c.args in ap operation_of (sym (one_byte a.line.now a.from (omega (arith, within)))) ∙ read-there operation-fixed _ _ (told c.ends.ensures (c.if-not-ends.false)) in
    rw c.in-114.is at byte

pub returns-in-119 : goal.returns-in-119
unfolding operation_of same
returns-in-119 c =
    let within = ends-within c.args.line.now (c.args.from + 1) (told c.ends.ensures (c.if-not-ends.false)) in
    let byte : operation_of (get_or c.args.line.now c.args.from 0 ∷ []) ≡ operation_of (field_from c.args.line.now c.args.from) = let a = c.args in ap operation_of (sym (one_byte a.line.now a.from (omega (arith, within)))) ∙ read-there operation-fixed _ _ (told c.ends.ensures (c.if-not-ends.false)) in
    rw c.in-119.is at byte

pub returns-in-120 : goal.returns-in-120
unfolding operation_of same
returns-in-120 c =
    let within = ends-within c.args.line.now (c.args.from + 1) (told c.ends.ensures (c.if-not-ends.false)) in
    let byte : operation_of (get_or c.args.line.now c.args.from 0 ∷ []) ≡ operation_of (field_from c.args.line.now c.args.from) = let a = c.args in ap operation_of (sym (one_byte a.line.now a.from (omega (arith, within)))) ∙ read-there operation-fixed _ _ (told c.ends.ensures (c.if-not-ends.false)) in
    rw c.in-120.is at byte

pub returns-in_default : goal.returns-in_default
returns-in_default c =
    let within = ends-within c.args.line.now (c.args.from + 1) (told c.ends.ensures (c.if-not-ends.false)) in
    let byte : operation_of (get_or c.args.line.now c.args.from 0 ∷ []) ≡ operation_of (field_from c.args.line.now c.args.from) = let a = c.args in ap operation_of (sym (one_byte a.line.now a.from (omega (arith, within)))) ∙ read-there operation-fixed _ _ (told c.ends.ensures (c.if-not-ends.false)) in
    let k = c.in_default.in_default-own.rest in
    other_byte _ k.0.0.1 k.0.1 k.1 ∙ byte

pub bounds-line-from : goal.bounds-line-from
bounds-line-from c =
    let within = ends-within c.args.line.now (c.args.from + 1) (told c.ends.ensures (c.if-not-ends.false)) in
    omega (arith, within)
