-- `batches::batch` meets its contract: each turn does what one access does.
use borrow.Author.Tests.{eqb-true}
use mathlib.Core.Path.{◌≡◌, sym, ◌∙◌, subst}
use native.Mathlib.Omega.{arith}
use Prim.Native.Nat.{ℕ}
use lib.ListN.{length}
use Rattle.batch.proofs.BatchTurns.{first, Kept, kept-first, kept_next, kept-last, none_done}
use Rattle.batch.proofs.batches.batch.Goals as goal

pub returns-then-not-fits : goal.returns-then-not-fits
returns-then-not-fits c =
    let a = c.args in
    let r = none_done a.state.now a.list.now a.answers.now (sym c.fits.ensures ∙ c.if-not-fits.true) in
    record { answer = r.0; next = r.1.0; answers = r.1.1 }

pub loop-i-init : goal.loop-i-init
loop-i-init c =
    let a = c.args in
    kept-first a.state.now a.list.now a.answers.now (eqb-true _ _ (first _ _ (sym c.fits.ensures ∙ c.if-not-fits.false)))

pub loop-i-preserved : goal.loop-i-preserved
loop-i-preserved c =
    let a = c.args in
    let l = c.loop-i in
    let n = c.one.new in
    kept_next a.state.now a.list.now a.answers.now l.i l.state l.answers n.state n.answers c.loop-i-test.true l.invariant
    c.one.auto.state c.one.auto.answers c.one.ensures

pub returns : goal.returns
returns c =
    let a = c.args in
    let l = c.loop-i in
    let end : l.i ≡ length a.list.now = omega (arith, l.invariant.within) in
    let kept = subst (λ (i : ℕ). Kept a.state.now a.list.now a.answers.now i l.state l.answers) end l.invariant in
    let r = kept-last a.state.now a.list.now a.answers.now l.state l.answers (sym c.fits.ensures ∙ c.if-not-fits.false) kept in
    record { answer = r.0; next = r.1.0; answers = r.1.1 }
