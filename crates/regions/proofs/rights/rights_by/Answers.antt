use mathlib.Core.Path.{ap, ◌∙◌}
use Rattle.regions.specs.Admits.{as_heard, rights_from}
use Rattle.regions.specs.declared.admits.Admits.{Admits}
use Rattle.regions.proofs.rights.rights_by.Goals as goal

pub returns-in-Axi : goal.returns-in-Axi
unfolding as_heard
returns-in-Axi c = rw c.in-Axi.is (c.word.ensures ∙ ap (λ (x : Admits). rights_from x 0 64) c.by_masks.ensures)

pub returns-in-Ahb : goal.returns-in-Ahb
returns-in-Ahb c = rw c.in-Ahb.is (c.word-in-Ahb.ensures ∙ ap (λ (x : Admits). rights_from x 0 64) (c.all_as_zero.ensures ∙ ap (as_heard _) c.by_masks-in-Ahb.ensures))
