-- The mission's sentence: two configurations print the same sheet exactly when every access is granted by both or by neither.
use Rattle.std.specs.Prelude.{true, ◌≡◌, ℕ, ◌%◌, ◌≤◌, ◌<◌}
use Rattle.access.specs.declared.kind.Kind.{Kind}
use Rattle.risaf.specs.Guards.{shape_of}
use Rattle.risaf.specs.Memory.{is_width}
use Rattle.device.specs.State.{State}
use Rattle.map.specs.Demand.{grants_at}

-- every memory access to guard n, of each width at each multiple of it in the window, of each of the 64 kinds of asking, is granted by
-- both states or by neither
unfoldable pub SameGrants : State → State → ℕ → Type 0
SameGrants s t n =
    (x width : ℕ) (k : Kind) → x < (shape_of n).window → is_width width ≡ true → x % width ≡ 0 → k.cid.0 ≤ 7
    → grants_at s n x width k ≡ grants_at t n x width k
