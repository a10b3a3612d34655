-- `regions::scan::base_scanned` meets its contract.
use mathlib.Core.Path.{refl, ap, ◌∙◌}
use Rattle.regions.specs.Ahead.{sub_ahead, subs_ahead, base_ahead}
use Rattle.regions.specs.Masks.{sub_gathered, base_gathered}
use Rattle.regions.specs.Words.{base}
use Rattle.regions.proofs.Lies.{told}
use Rattle.regions.proofs.scan.base_scanned.Goals as goal

pub returns-in-Outside : goal.returns-in-Outside
unfolding base_gathered base_ahead
returns-in-Outside c =
    let a = c.args in
    let e = told a.w.now (base a.x) a.o (subs_ahead a.w.now a.x a.o) a.s.to c.in-Outside.ensures in
    record { masks_value = rw e.1 refl; to_value = e.0 }

pub returns-in-Inside : goal.returns-in-Inside
unfolding base_gathered base_ahead
returns-in-Inside c =
    let a = c.args in
    let e = told a.w.now (base a.x) a.o (subs_ahead a.w.now a.x a.o) a.s.to c.in-Inside.ensures in
    let q = c.sub_scanned.ensures in
    let r = c.sub_scanned-in-Inside.ensures in
    record {
      masks_value = rw e.1 (r.masks_value ∙ ap (sub_gathered _ _ _ _ 1 _) (q.masks_value ∙ ap (sub_gathered _ _ _ _ 0 _) c.with_base-masks.ensures));
      to_value = r.to_value ∙ ap (sub_ahead _ _ _) q.to_value ∙ e.0;
    }
