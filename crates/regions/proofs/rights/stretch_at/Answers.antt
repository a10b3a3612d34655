use mathlib.Core.Path.{refl, sym, ap, ◌∙◌}
use Rattle.regions.specs.Admits.{as_heard, rights_from, by_masks}
use Rattle.regions.specs.Ahead.{ahead_in}
use Rattle.regions.specs.Lent.{rights_in}
use Rattle.regions.specs.declared.admits.Admits.{Admits}
use Rattle.regions.proofs.AdmitsTests.{masks-found}
use Rattle.regions.proofs.Enough.{from-enough}
use Rattle.regions.proofs.RightsBytes.{rights-admitted}
use Rattle.regions.proofs.rights.stretch_at.Goals as goal

pub returns-then-not-enough : goal.returns-then-not-enough
unfolding rights_in ahead_in
returns-then-not-enough c = simp (← c.enough.ensures, c.if-not-enough.true) (record { rights_value = refl; to_value = refl })

pub scanned-s-requires : goal.scanned-s-requires
scanned-s-requires c = (from-enough c.args.w.now c.args.n (sym c.enough.ensures ∙ c.if-not-enough.false)).1

pub returns : goal.returns
unfolding rights_in ahead_in
returns c =
    let a = c.args in
    let s = c.scanned-s.ensures in
    simp (← c.enough.ensures, c.if-not-enough.false) (record {
      rights_value = c.rights_by.ensures
          ∙ ap (λ (x : Admits). rights_from (as_heard a.bus x) 0 64)
          (ap (by_masks a.bus) s.masks_value ∙ masks-found a.bus a.w.now a.n a.o)
          ∙ rights-admitted a.bus a.w.now a.n a.o;
      to_value = s.to_value;
    })
