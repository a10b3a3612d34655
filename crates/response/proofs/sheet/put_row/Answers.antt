-- `response::sheet::put_row` meets its contract: there is room for a row.
use native.Mathlib.Nat.{add-zero}
use Rattle.response.proofs.Written.{spanned}
use Rattle.response.proofs.sheet.put_row.Goals as goal

pub returns : goal.returns
returns c =
    let p = c.print_span in
    simp add-zero at (spanned _ _ _ c.requires.0 p.ensures.next p.ensures.bytes)
