-- `script::reader::Reader::block` meets its contract: the blocks compared so far leave the others.
use mathlib.Core.Path.{refl, ◌∙◌}
use native.Mathlib.Omega.{arith}
use Rattle.device.specs.declared.event.Block.TheVariants.{Rifsc, Iac, Risaf}
use Rattle.print.specs.Bytes.{bytes}
use Rattle.script.specs.Command.{by_keyword, blocks_of}
use Rattle.script.specs.Fields.{same}
use Rattle.script.specs.Numbers.{every}
use Rattle.script.proofs.Keywords.{behind, is-block, no_block, request-third, request-fourth}
use Rattle.script.proofs.Told.{told}
use Rattle.script.proofs.Readings.{decimal-none, decimal-read, decimal-next}
use Rattle.script.proofs.reader.Reader.block.Goals as goal

pub invariant_of-self : goal.invariant_of-self
unfolding every
invariant_of-self c = omega (arith, (behind _ _ c.self.invariant (bytes "rifsc") refl (told c.begins.ensures c.if-begins.true)).within)

pub returns-then-begins : goal.returns-then-begins
unfolding by_keyword blocks_of same every
returns-then-begins c =
    let h = told c.begins.ensures c.if-begins.true in
    let i = c.self.invariant in
    rw (← c.self.view_is) (is-block _ _ i (bytes "rifsc") refl h ∙ request-third Rifsc _ (behind _ _ i (bytes "rifsc") refl h))

pub invariant_of-self-then-begins-2 : goal.invariant_of-self-then-begins-2
unfolding every
invariant_of-self-then-begins-2 c =
    omega (arith, (behind _ _ c.self.invariant (bytes "iac") refl (told c.begins-2.ensures c.if-begins-2.true)).within)

pub returns-then-begins-2 : goal.returns-then-begins-2
unfolding by_keyword blocks_of same every
returns-then-begins-2 c =
    let h = told c.begins-2.ensures c.if-begins-2.true in
    let i = c.self.invariant in
    rw (← c.self.view_is) (is-block _ _ i (bytes "iac") refl h ∙ request-third Iac _ (behind _ _ i (bytes "iac") refl h))

pub returns-then-not-begins : goal.returns-then-not-begins
returns-then-not-begins c =
    rw (← c.self.view_is)
    (no_block _ _ c.self.invariant (told c.begins.ensures c.if-begins.false) (told c.begins-2.ensures c.if-begins-2.false)
    (told c.begins-3.ensures c.if-not-begins.true))

pub returns-in_err-guard : goal.returns-in_err-guard
unfolding by_keyword blocks_of same every
returns-in_err-guard c =
    let h = told c.begins-3.ensures c.if-not-begins.false in
    let i = c.self.invariant in
    let s = behind _ _ i (bytes "risaf") refl h in
    rw (c.from_residual.ensures, ← c.self.view_is)
    (is-block _ _ i (bytes "risaf") refl h ∙ rw (decimal-none s c.decimal_at.ensures c.in_err-guard.was))

pub overflow_add-self-2 : goal.overflow_add-self-2
unfolding every
overflow_add-self-2 c =
    let s = behind _ _ c.self.invariant (bytes "risaf") refl (told c.begins-3.ensures c.if-not-begins.false) in
    omega (arith, (decimal-next s c.decimal_at.ensures c.in_ok-guard.was).within)

pub invariant_of-self-2 : goal.invariant_of-self-2
unfolding every
invariant_of-self-2 c =
    let s = behind _ _ c.self.invariant (bytes "risaf") refl (told c.begins-3.ensures c.if-not-begins.false) in
    (decimal-next s c.decimal_at.ensures c.in_ok-guard.was).within

pub returns : goal.returns
unfolding by_keyword blocks_of same every
returns c =
    let h = told c.begins-3.ensures c.if-not-begins.false in
    let i = c.self.invariant in
    let s = behind _ _ i (bytes "risaf") refl h in
    rw (← c.self.view_is)
    (is-block _ _ i (bytes "risaf") refl h ∙ rw (decimal-read s c.decimal_at.ensures c.in_ok-guard.was)
    (request-fourth (Risaf _) _ (decimal-next s c.decimal_at.ensures c.in_ok-guard.was)))
