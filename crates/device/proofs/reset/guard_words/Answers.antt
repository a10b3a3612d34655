use mathlib.Core.List.{List, ◌∷◌, append-nil}
use mathlib.Core.Path.{ap, ◌∙◌}
use Prim.Native.Nat.{ℕ}
use Rattle.risaf.specs.Contents.{reset}
use Rattle.risaf.specs.declared.contents.Guard.{Guard}
use Rattle.device.proofs.reset.guard_words.Goals as goal

pub returns : goal.returns
unfolding reset
returns c =
    ap (λ (w : List ℕ). 0 ∷ 0 ∷ 0 ∷ 0 ∷ w)
    (append-nil _ ∙ c.copy_from_slice.ensures.after ∙ ap (λ (g : Guard). g.regions) c.reset-guard.ensures)
