use mathlib.Core.Bool.{Bool, cond}
use mathlib.Core.Path.{◌≡◌, sym, ap, ap₂, ◌∙◌}
use Rattle.regions.specs.Admits.{by_asked, verdict_of}
use Rattle.regions.specs.Masks.{masks, serving}
use Rattle.regions.specs.Words.{rden_bit, wren_bit}
use Rattle.regions.specs.declared.admits.Admits.{Admits}
use Rattle.regions.specs.declared.masks.Served.{Served}
use Rattle.regions.proofs.rules.by_regions.Goals.{then-k, else-k}
use Rattle.regions.proofs.rules.by_regions.Goals as goal

pub returns : goal.returns
returns c =
    let a = c.args in
    let den : c.if-k.den ≡ cond a.k.write wren_bit rden_bit =
    elim c.if-k.branch [
      | then-k w ↦ w.den-is ∙ sym (ap (λ (b : Bool). cond b wren_bit rden_bit) w.if-k.true)
      | else-k w ↦ w.den-is ∙ sym (ap (λ (b : Bool). cond b wren_bit rden_bit) w.if-k.false)
    ] in
    c.judged.ensures
    ∙ ap (λ (x : Admits). verdict_of x a.k)
    (c.by_asked.ensures
    ∙ ap₂ by_asked den
    (c.gathered-m.ensures ∙ ap (λ (by : Served). masks a.k.privileged (serving by) a.w.now a.n a.o) c.served_by.ensures))
