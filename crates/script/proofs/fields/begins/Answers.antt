-- `script::fields::begins` meets its contract: what is left to compare decides.
use mathlib.Core.Path.{sym, ◌∙◌}
use native.Mathlib.Omega.{arith}
use Rattle.script.proofs.Begins.{begins-short, begins-four, begins-other, begins-differs, begins-step, begins-all}
use Rattle.script.proofs.fields.begins.Goals as goal

pub returns-then-line-from : goal.returns-then-line-from
returns-then-line-from c =
    begins-short c.args.line.now c.args.from c.args.keyword.now (omega (arith, c.requires.1)) c.if-line-from.true

pub returns-then-four : goal.returns-then-four
returns-then-four c =
    begins-other c.args.line.now c.args.from c.args.keyword.now c.if-line-from.false c.requires.1
    (λ e. c.if-four.true (c.four.ensures ∙ e ∙ sym c.four-2.ensures))

pub loop-i-init : goal.loop-i-init
loop-i-init c =
    let w = c.if-line-from.false in
    let lines = c.shared_slice_known-1.given in
    let words = c.shared_slice_known-2-1.given in (
      w,
      begins-four c.args.line.now c.args.from c.args.keyword.now w c.requires.1 (λ i. (lines i).fits) (λ i. (words i).fits)
          (sym c.four.ensures ∙ c.if-four.false ∙ c.four-2.ensures),
    )

pub returns-then-line-from-2 : goal.returns-then-line-from-2
returns-then-line-from-2 c =
    let l = c.loop-i in
    let a = c.args in
    sym (sym l.invariant.1 ∙ begins-differs a.line.now a.from a.keyword.now l.invariant.0 l.i c.loop-i-test.true c.if-line-from-2.true)

pub loop-i-preserved : goal.loop-i-preserved
loop-i-preserved c =
    let l = c.loop-i in
    let t = c.loop-i-test.true in
    let a = c.args in
    (l.invariant.0, begins-step a.line.now a.from a.keyword.now l.invariant.0 l.i t c.if-line-from-2.false ∙ l.invariant.1)

pub returns : goal.returns
returns c =
    let l = c.loop-i in
    let a = c.args in
    sym (sym l.invariant.1 ∙ begins-all a.line.now a.from a.keyword.now l.invariant.0 l.i c.loop-i-test.false)
