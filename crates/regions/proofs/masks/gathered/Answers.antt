use mathlib.Core.Path.{◌≡◌, ◌∙◌}
use native.Mathlib.Omega.{arith}
use borrow.Author.Rules.{rules}
use Rattle.regions.specs.Masks.{masks, serving}
use Rattle.regions.proofs.Gathered.{masks-more, masks-pass}
use Rattle.regions.proofs.masks.gathered.Goals as goal

pub loop-x-init : goal.loop-x-init
unfolding masks
loop-x-init c =
    let p = c.requires in
    let a = c.args in
    (p.0, c.none_gathered-m.ensures ∙ masks-pass a.privileged (serving a.by) a.w.now a.o 0 a.from (omega arith) p.2)

pub loop-x-preserved : goal.loop-x-preserved
loop-x-preserved c = (search rules, masks-more _ _ _ _ _ c.loop-x.invariant.1 c.base_gathered-m.ensures)

pub returns : goal.returns
returns c =
    let e : c.loop-x.x ≡ c.args.n = omega arith in
    cc
