-- `spans::lookup` meets its contract: the row that a lookup finds stands at its place. Assumes nothing.
use mathlib.Core.Path.{◌∙◌, sym}
use Prim.Native.Nat.{◌≤◌}
use native.Mathlib.Omega.{arith}
use native.Mathlib.Nat.{add-sub_cancel_left}
use lib.ListN.{length, drop_of_length-le}
use borrow.Author.Rules.{rules}
use Rattle.spans.specs.Lookup.{row_place}
use Rattle.spans.proofs.Found.{at_place, whole_row}
use Rattle.spans.proofs.lookup.Goals as goal

pub slice_bounds-result-end : goal.slice_bounds-result-end
slice_bounds-result-end c =
    let a = c.args in
    let w = whole_row a.map.now a.offset (omega arith) in
    search rules

pub returns-then-i-map : goal.returns-then-i-map
returns-then-i-map c =
    let a = c.args in
    rw (add-sub_cancel_left, c.row_place-i.ensures) (sym (at_place a.map.now a.offset))

pub returns : goal.returns
returns c =
    let a = c.args in
    let n : length a.map.now ≤ row_place a.map.now a.offset = omega arith in
    sym (at_place a.map.now a.offset ∙ rw (drop_of_length-le a.map.now n))
