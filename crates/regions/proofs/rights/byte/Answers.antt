use mathlib.Core.Path.{sym, ◌∙◌}
use native.Mathlib.Omega.{arith}
use Rattle.regions.proofs.RightsBytes.{byte-none, byte-privileged, byte-unprivileged}
use Rattle.regions.proofs.rights.byte.Goals as goal

pub returns-then-not-admits_security : goal.returns-then-not-admits_security
returns-then-not-admits_security c =
    let s = c.admits_security in
    let a = c.args in
    byte-none a.a a.write a.privileged a.secure (sym s.ensures ∙ c.if-not-admits_security.true)

pub returns-then-privileged : goal.returns-then-privileged
returns-then-privileged c =
    let s = c.admits_security in
    let a = c.args in
    rw c.open_to-open.ensures
    (byte-privileged a.a a.write a.privileged a.secure (sym s.ensures ∙ c.if-not-admits_security.false)
    c.if-privileged.true)

pub returns : goal.returns
returns c =
    let s = c.admits_security in
    let a = c.args in
    rw c.open_to-open.ensures
    (byte-unprivileged a.a a.write a.privileged a.secure (sym s.ensures ∙ c.if-not-admits_security.false)
    c.if-privileged.false (omega arith))
