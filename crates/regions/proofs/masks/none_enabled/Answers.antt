use mathlib.Core.Bool.{not}
use mathlib.Core.Path.{◌≡◌, ap, ◌∙◌}
use native.Mathlib.Omega.{arith}
use Rattle.words.proofs.Laws.{bit-zero}
use Rattle.regions.specs.Masks.{some_enabled}
use Rattle.regions.proofs.Enabled.{enabled-more}
use Rattle.regions.proofs.masks.none_enabled.Goals as goal

pub loop-x-init : goal.loop-x-init
loop-x-init c = (omega arith, bit-zero 0)

pub loop-x-preserved : goal.loop-x-preserved
loop-x-preserved c =
    let l = c.loop-x in
    let a = c.args in
    (omega (arith, c.loop-x-test.true), enabled-more a.w.now l.x l.some l.invariant.1)

pub returns : goal.returns
returns c =
    let l = c.loop-x in
    let e : l.x ≡ 11 = omega (arith, l.invariant.0, c.loop-x-test.false) in
    ap not (l.invariant.1 ∙ ap (some_enabled c.args.w.now) e)
