-- `response::sheet::put_rows` meets its contract: the rows so far, and then one more.
use native.Mathlib.Omega.{arith}
use mathlib.Core.Path.{refl, ◌∙◌}
use Rattle.response.proofs.Written.{no_rows, one-row, rows-length, same_count}
use Rattle.response.proofs.sheet.put_rows.Goals as goal

pub loop-k-init : goal.loop-k-init
loop-k-init c = (no_rows c.args.out.now c.args.map.now c.args.at (omega (arith, c.requires.0)), refl, omega arith)

pub put_row-p-requires : goal.put_row-p-requires
put_row-p-requires c =
    let l = c.loop-k in (
      omega (arith, l.invariant.0.next, l.invariant.1, rows-length l.k c.args.map.now, c.requires.0, c.loop-k-test.true),
      omega (arith, c.requires.1, c.loop-k-test.true),
    )

pub loop-k-preserved : goal.loop-k-preserved
loop-k-preserved c =
    let l = c.loop-k in
    (one-row c.args.map.now l.k l.invariant.0 c.put_row-p.ensures, c.put_row-p.auto.out ∙ l.invariant.1, omega (arith, c.loop-k-test.true))

pub returns : goal.returns
returns c =
    let l = c.loop-k in
    same_count c.args.map.now (omega (arith, l.invariant.2, c.loop-k-test.false)) l.invariant.0
