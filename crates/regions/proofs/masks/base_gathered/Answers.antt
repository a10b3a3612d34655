use mathlib.Core.Path.{ap, ◌∙◌}
use Rattle.regions.specs.Masks.{base_gathered, sub_gathered}
use Rattle.regions.proofs.masks.base_gathered.Goals as goal

pub returns-then-not-covers : goal.returns-then-not-covers
unfolding base_gathered
returns-then-not-covers c = simp (← c.covers.ensures, c.if-not-covers.true)

pub returns : goal.returns
unfolding base_gathered
returns c =
    simp (← c.covers.ensures, c.if-not-covers.false)
    (c.sub_gathered.ensures
    ∙ ap (sub_gathered _ _ _ _ 1 _) (c.sub_gathered-first.ensures ∙ ap (sub_gathered _ _ _ _ 0 _) c.with_base-based.ensures))
