-- `regions::scan::sub_scanned` meets its contract.
use mathlib.Core.Path.{◌∙◌}
use Rattle.regions.specs.Ahead.{sub_ahead}
use Rattle.regions.specs.Words.{sub}
use Rattle.regions.proofs.Gathered.{sub_out, sub_in}
use Rattle.regions.proofs.Lies.{told}
use Rattle.regions.proofs.scan.sub_scanned.Goals as goal

pub returns-in-Outside : goal.returns-in-Outside
unfolding sub_ahead
returns-in-Outside c =
    let a = c.args in
    let e = told a.w.now (sub a.x a.s) a.o (λ t. t) a.scan.to c.in-Outside.ensures in
    record { masks_value = sub_out _ _ _ _ _ _ _ e.1; to_value = e.0 }

pub returns-in-Inside : goal.returns-in-Inside
unfolding sub_ahead
returns-in-Inside c =
    let a = c.args in
    let e = told a.w.now (sub a.x a.s) a.o (λ t. t) a.scan.to c.in-Inside.ensures in
    record { masks_value = c.with_sub.ensures ∙ rw c.openings.ensures (sub_in _ _ _ _ _ _ _ e.1); to_value = e.0 }
