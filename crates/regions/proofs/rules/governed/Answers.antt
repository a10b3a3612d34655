use mathlib.Core.Path.{ap, ◌∙◌}
use native.Mathlib.Omega.{arith}
use Rattle.std.specs.Prelude.{Some}
use Rattle.regions.proofs.AdmitsTests.{none-covered}
use Rattle.regions.proofs.Askings.{found_as, governed-none}
use Rattle.regions.proofs.Enabled.{told_none, unenabled-uncovered}
use Rattle.regions.proofs.rules.governed.Goals as goal

pub returns-then-none_enabled : goal.returns-then-none_enabled
returns-then-none_enabled c =
    let a = c.args in
    let e = told_none a.w.now c.none_enabled.ensures c.if-none_enabled.true in
    governed-none a.w.now a.n a.o a.k c.requires.2 (unenabled-uncovered a.w.now a.n a.o c.requires.0 e)

pub returns-in_err-first : goal.returns-in_err-first
returns-in_err-first c =
    let a = c.args in
    c.from_residual.ensures ∙ governed-none a.w.now a.n a.o a.k c.requires.2 (none-covered a.w.now a.o a.n c.in_err-first.ensures)

pub by_regions-requires : goal.by_regions-requires
by_regions-requires c =
    let p = c.requires in
    let x = c.in_ok-first.ensures in
    (omega (arith, x.high), p.1, x.passed, p.2)

pub returns : goal.returns
returns c =
    let a = c.args in
    ap Some c.by_regions.ensures ∙ found_as a.w.now a.n a.o a.k c.requires.2 c.in_ok-first.ensures
