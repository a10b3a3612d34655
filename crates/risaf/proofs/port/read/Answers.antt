use mathlib.Core.Path.{◌∙◌, sym}
use Rattle.risaf.specs.Rows.{Placed}
use Rattle.risaf.proofs.RegisterMap.{register-placed}
use Rattle.risaf.proofs.port.read.Goals as goal

pub row-requires-in-OfBase : goal.row-requires-in-OfBase
row-requires-in-OfBase c =
    let p : Placed c.in-Some-register_at.reg = register-placed _ _ (sym c.register_at.ensures ∙ c.in-Some-register_at.is) in
    rw c.in-OfBase.is at p

pub row-requires-in-OfSub : goal.row-requires-in-OfSub
row-requires-in-OfSub c =
    let p : Placed c.in-Some-register_at.reg = register-placed _ _ (sym c.register_at.ensures ∙ c.in-Some-register_at.is) in
    rw c.in-OfSub.is at p
