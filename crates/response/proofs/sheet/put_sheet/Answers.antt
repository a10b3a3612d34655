-- `response::sheet::put_sheet` meets its contract: there is room for its lines, one after the other.
use native.Mathlib.Omega.{arith}
use Prim.Native.Nat.{◌/◌}
use lib.ListN.{length}
use Rattle.map.specs.Fill.{row_numbers}
use Rattle.response.proofs.Sheets.{end-line, guard-line, guard-most, sheet-lines}
use Rattle.response.proofs.Written.{rows-length}
use Rattle.response.proofs.sheet.put_sheet.Goals as goal

pub put_rows-b-requires : goal.put_rows-b-requires
put_rows-b-requires c =
    let p = c.print_guard-a in
    let g = guard-line c.args.guard.0 (omega arith) (omega (arith, c.requires.0)) p.ensures.next p.ensures.bytes in
    (omega (arith, g.next, guard-most c.args.guard.0 (omega arith), p.auto.out, c.requires.0, c.requires.1), omega arith)

pub returns : goal.returns
returns c =
    let p = c.print_guard-a in
    let q = c.put_rows-b in
    let r = c.print_end in
    let g = guard-line c.args.guard.0 (omega arith) (omega (arith, c.requires.0)) p.ensures.next p.ensures.bytes in
    let count = length c.args.map.now / row_numbers in
    sheet-lines c.args.guard.0 count c.args.map.now g q.ensures
    (end-line count (omega (arith, c.requires.1))
    (omega (arith, g.next, guard-most c.args.guard.0 (omega arith), p.auto.out, q.auto.out, q.ensures.next, rows-length count c.args.map.now, c.requires.0, c.requires.1))
    r.ensures.next r.ensures.bytes)
