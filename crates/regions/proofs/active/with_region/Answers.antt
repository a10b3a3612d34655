-- `regions::active::with_region` meets its contract.
use mathlib.Core.Bool.{cond}
use mathlib.Core.Path.{◌≡◌, ap, ◌∙◌}
use Prim.Native.Nat.{ℕ, ◌+◌}
use lib.Dec.{eqb}
use borrow.Author.Tests.{eq-eqb, ne_eqb}
use Rattle.regions.proofs.Inactive.{with-told}
use Rattle.regions.proofs.active.with_region.Goals as goal
use Rattle.regions.proofs.active.with_region.Goals.{then-a-eq0, else-a-eq0}

pub returns-in-Outside : goal.returns-in-Outside
returns-in-Outside c = let a = c.args in with-told a.w.now a.x a.o a.a c.in-Outside.ensures

pub returns-after-a-eq0 : goal.returns-after-a-eq0
returns-after-a-eq0 c =
    let a = c.args in
    let low : c.if-a-eq0.result ≡ cond (eqb a.a.high 0) a.x a.a.low =
    elim c.if-a-eq0.branch [
      | then-a-eq0 w ↦ simp (eq-eqb a.a.high 0 w.if-a-eq0.true) w.result-is
      | else-a-eq0 w ↦ simp (ne_eqb a.a.high 0 w.if-a-eq0.false) w.result-is
    ] in
    ap (λ (l : ℕ). record { low = l; high = a.x + 1; to = a.a.to }) low ∙ with-told a.w.now a.x a.o a.a c.in-Inside.ensures
