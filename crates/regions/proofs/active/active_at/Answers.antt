-- `regions::active::active_at` meets its contract. The loop's invariant: those of the base regions passed.
use borrow.Author.Rules.{rules}
use mathlib.Core.Path.{◌≡◌, refl, sym, ap, ◌∙◌}
use Prim.Native.Nat.{ℕ}
use native.Mathlib.Omega.{arith}
use Rattle.regions.specs.Active.{active, active_in}
use Rattle.regions.proofs.Enabled.{told_none}
use Rattle.regions.proofs.Enough.{from-enough}
use Rattle.regions.proofs.Inactive.{active-more, unenabled-inactive}
use Rattle.regions.proofs.active.active_at.Goals as goal

pub returns-then-not-enough : goal.returns-then-not-enough
unfolding active_in
returns-then-not-enough c = simp (← c.enough.ensures, c.if-not-enough.true)

pub returns-then-none_enabled : goal.returns-then-none_enabled
unfolding active_in
returns-then-none_enabled c =
    let a = c.args in
    let e = told_none a.w.now c.none_enabled.ensures c.if-none_enabled.true in
    simp (← c.enough.ensures, c.if-not-enough.false) (unenabled-inactive a.w.now a.o a.n a.to (from-enough a.w.now a.n (sym c.enough.ensures ∙ c.if-not-enough.false)).0 e)

pub loop-x-init : goal.loop-x-init
unfolding active
loop-x-init c = (omega arith, refl)

pub loop-x-preserved : goal.loop-x-preserved
loop-x-preserved c = (search rules, active-more _ _ _ _ c.loop-x.invariant.1 c.with_region-a.ensures)

pub returns : goal.returns
unfolding active_in
returns c =
    let i = c.loop-x in
    let a = c.args in
    let e : i.x ≡ a.n = omega (arith, i.invariant.0, c.loop-x-test.false) in
    simp (← c.enough.ensures, c.if-not-enough.false) (i.invariant.1 ∙ ap (λ (n : ℕ). active a.w.now n a.o a.to) e)
