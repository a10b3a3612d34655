use borrow.Author.Tests.{eq-eqb, ne_eqb}
use Rattle.iac.specs.OneWord.{kept}
use Rattle.iac.proofs.HeldLaws.{fresh-most}
use Rattle.device.proofs.flags.keep.Goals as goal

pub recount-requires : goal.recount-requires
recount-requires c =
    let a = c.args in
    (rw c.fresh-before.ensures (fresh-most a.named a.old a.other), rw c.fresh-after.ensures (fresh-most a.named a.new a.other))

pub returns-then-masked : goal.returns-then-masked
unfolding kept
returns-then-masked c =
    simp (c.recount.ensures, c.fresh-after.ensures, c.fresh-before.ensures, ← c.masked-2.ensures, ← c.masked.ensures, ne_eqb _ _ c.if-masked.true)

pub returns-else-masked : goal.returns-else-masked
unfolding kept
returns-else-masked c = simp (← c.masked-2.ensures, ← c.masked.ensures, eq-eqb _ _ c.if-masked.false)
