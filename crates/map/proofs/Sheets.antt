-- The mission's sentence, of the maps' rows: two states have the same sheet exactly when every access is granted by both or by neither.
use mathlib.Core.Bool.{true}
use mathlib.Core.Logic.{◌↔◌}
use mathlib.Core.Path.{◌≡◌, refl, sym, ap, ◌∙◌}
use Prim.Native.Nat.{ℕ}
use native.Mathlib.Omega.{arith}
use Rattle.words.specs.Bit.{bit}
use Rattle.access.specs.Kind.{rights_bit}
use Rattle.risaf.specs.Guards.{is_guard, shape_of}
use Rattle.spans.specs.Rows.{flat}
use Rattle.spans.proofs.Canonical.{canonical-flat}
use Rattle.device.specs.State.{State}
use Rattle.map.specs.Map.{rights_of, rows_of}
use Rattle.map.specs.Sheets.{SameGrants}
use Rattle.map.proofs.Grants.{bit-grants, rights-same}

pub sheets : (s t : State) (n : ℕ) → is_guard n ≡ true → (flat (rows_of s n) ≡ flat (rows_of t n)) ↔ SameGrants s t n
unfolding rows_of SameGrants
sheets s t n h =
    let c = canonical-flat (rights_of s n) (rights_of t n) (shape_of n).window in (
      (λ e x width k l w a u. sym (bit-grants s n x h l width w a k u) ∙ ap (λ (q : ℕ). bit q (rights_bit k)) (c.0 e x l) ∙ bit-grants t n x h l width w a k u),
      (λ same. c.1 (λ x l. rights-same s t n x h l (λ k u. same x 1 k l refl (omega arith) u))),
    )
