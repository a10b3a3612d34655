-- `capi::maps::rif_lookup` meets its contract: what is found is a row, or nothing.
use mathlib.Core.Path.{◌≡◌, refl, ap, ◌∙◌}
use native.Mathlib.Omega.{arith}
use Prim.Native.Nat.{ℕ, ◌<◌}
use lib.ListN.{get_or, length}
use Rattle.map.specs.Fill.{row_numbers}
use Rattle.capi.proofs.Lookups.{none_found, read_number}
use Rattle.capi.proofs.maps.rif_lookup.Goals as goal

pub returns-then-row-eq-ROW_NUMBERS : goal.returns-then-row-eq-ROW_NUMBERS
returns-then-row-eq-ROW_NUMBERS c =
    let row = c.lookup-row in
    let three = c.if-row-eq-ROW_NUMBERS.true in
    let read : (i d : ℕ) → i < row_numbers → get_or row.result.now i 0 ≡ get_or row.result.now i d =
    λ i d h. read_number row.result.now i 0 d (rw three h) in
    rw (← row.ensures)
    (record { count = refl; start = read 0 _ (omega arith); end = read 1 _ (omega arith); rights = read 2 _ (omega arith) })

pub returns-else-row-eq-ROW_NUMBERS : goal.returns-else-row-eq-ROW_NUMBERS
returns-else-row-eq-ROW_NUMBERS c =
    let found = c.lookup-row.ensures in
    let none = none_found _ _ (λ e. c.if-row-eq-ROW_NUMBERS.false (ap length found ∙ e)) in
    rw (found, none) (record { count = refl; start = refl; end = refl; rights = refl })
